-- From what the passes over a text say to the machine's answer and list.
use Rattle.std.specs.Prelude.{ℕ, List, Bool, true, ◌≡◌, refl, length, set, replicate}
use Rattle.std.proofs.Common.{sym, subst, ◌∙◌}
use Rattle.std.proofs.Math.Path.{ap}
use Rattle.std.proofs.lemmas.List.{length-replicate, length-map}
use Rattle.language.specs.Refusals.{no_frame, not_lent}
use Rattle.language.specs.Result.{Result, ok, no, bind, need}
use Rattle.language.specs.Syntax.{File}
use Rattle.language.specs.Reader.{read_file}
use Rattle.language.specs.PlainTypes.{plain_types}
use Rattle.language.specs.Order.{orderly}
use Rattle.language.specs.Estimate.{stopped}
use Rattle.language.specs.Checker.{sized_file}
use Rattle.language.specs.Cells.{numbers_needed}
use Rattle.language.specs.Machine.{Record, Checked as CheckedBy, Accepted, Verdict, answer, judge, judged, verdict_of, final_list, check_file, list_lent, check, empty_record}
use Rattle.estimate.specs.declared.Estimate.{Estimate as Held}
use Rattle.instance_list.specs.declared.Instance.{Instance}
use Rattle.instance_list.specs.Records.{shown, records_of, records_words, list_words, filled}
use Rattle.size_steps.specs.Agreement.{table, Holds}
use Rattle.answers.specs.declared.Board.{Board}
use Rattle.answers.specs.declared.Answer.{Answer}
use Rattle.answers.specs.Boards.{board_of, numbers_of, said, lent_records, refusal_of, Granted, Lends, Judges}
use Rattle.checker.specs.Checks.{ChecksGiven, ChecksWords, Checks}
use Rattle.checker.specs.FinalLists.{none_kept, all-kept}
use Rattle.answers.specs.JudgeLaws.{number-accepts, number-refuses}
use Rattle.answers.specs.LendLaws.{list-room}

-- what the size checker says of a file
abbrev pub sizes_of : File → Result Accepted
sizes_of P = bind (sized_file P) (λ q. ok (record { file = P; sizes = q }))

-- a check is all passes over what was read
pub check-of : (text : List ℕ) (given : Bool) {y : Result File} → read_file text ≡ y → check_file text given ≡ bind y (λ P. plain_types P (orderly P (need given not_lent no_frame (sizes_of P))))
unfolding check_file
check-of text given e = rw e

module _ (text : List ℕ) (b : Board) (given : Bool) where
  -- the list that the words fill is that of a verdict
  abbrev Fills : List ℕ → Verdict → Result Accepted → Type 0
  Fills words v x = (n : ℕ) → Granted given n → records_of (filled words n) ≡ final_list v x n

  checks-as : {r : Answer} {words' : List ℕ} {x : Result Accepted} → check_file text given ≡ x → said r ≡ answer (verdict_of (board_of b) x) → Fills words' (verdict_of (board_of b) x) x → ChecksGiven text b given r words'
  checks-as {words' = words'} e f g = record { says = f ∙ ap (λ y. answer (verdict_of (board_of b) y)) (sym e); instances = subst (λ y. Fills words' (verdict_of (board_of b) y) y) (sym e) g }

  pub refused : {r : Answer} {words' : List ℕ} {n frame : ℕ} (k : ℕ) → check_file text given ≡ no n frame → r ≡ refusal_of n frame → words' ≡ replicate k 0 → ChecksGiven text b given r words'
  unfolding verdict_of answer final_list
  refused k e f g = checks-as e (ap (λ (y : Answer). said y) f) (λ m _. none_kept k m g)

  -- the sizes agree: a is the file and its numbers
  module _ {r : Answer} {a : Accepted} {x : Held} (e : check_file text given ≡ ok a) (n : numbers_of x ≡ stopped (numbers_needed a.file a.sizes.updates)) (j : Judges b x r) where
    judged-as : judge (board_of b) (numbers_of x) ≡ verdict_of (board_of b) (ok a)
    unfolding verdict_of judged
    judged-as = ap (judge (board_of b)) n

    number_is : r.number ≡ (answer (judge (board_of b) (numbers_of x))).number
    number_is = λ i. (j.is i).number

    by-verdict : {words' : List ℕ} {v : Verdict} → judge (board_of b) (numbers_of x) ≡ v → Fills words' v (ok a) → ChecksGiven text b given r words'
    by-verdict {words'} s g = checks-as e (j.is ∙ ap answer judged-as) (subst (λ v. Fills words' v (ok a)) (sym s ∙ judged-as) g)

    pub not-enough : {words' : List ℕ} (k : ℕ) → (r.number ≡ 0 → ⊥) → words' ≡ replicate k 0 → ChecksGiven text b given r words'
    unfolding final_list
    not-enough k some g = by-verdict (number-refuses (board_of b) (numbers_of x) (λ z. some (number_is ∙ z))).1 (λ m _. none_kept k m g)

    pub enough-lent : {words words' memo : List ℕ} {P : File} {used : ℕ} → given ≡ true → r.number ≡ 0 → Holds P (table words memo) used a.sizes.list → length words ≡ list_words → words' ≡ set words records_words used →
        ChecksGiven text b given r words'
    unfolding final_list
    enough-lent enough none h long put = by-verdict (number-accepts (board_of b) (numbers_of x) (sym number_is ∙ none)) (λ m g. all-kept a.sizes.list h long put m (g.room enough))

-- ---- the call `check`
pub checked : {text words' : List ℕ} {b : Board} {records : ℕ} {given : Bool} {r : Answer} → Lends b records given → ChecksGiven text b given r words' → ChecksWords text b records r words'
unfolding check
checked {text} {words'} {b} {records} {r = r} l c =
    let v : Bool → Verdict = λ d. verdict_of (board_of b) (check_file text d) in
    let lent = list_lent (board_of b) (lent_records records) in
    record {
      answer = c.says ∙ ap (λ d. answer (v d)) l.is;
      instances = c.instances records (list-room l) ∙ ap (λ d. final_list (v d) (check_file text d) records) l.is ∙ ap (final_list (v lent) (check_file text lent)) (sym (length-replicate records empty_record));
    }

-- what is lent as the list counts by its length alone
pub check-by-length : (text : List ℕ) (b : Board) (l m : List Record) → length l ≡ length m → check text (board_of b) l ≡ check text (board_of b) m
unfolding check list_lent
check-by-length text b l m e = rw e refl

-- the list that the words fill
pub delivered : {text words' : List ℕ} {b : Board} {list list' : List Instance} {r : Answer} → ChecksWords text b (length list) r words' → list' ≡ filled words' (length list) → Checks text b list r list'
delivered {text} {b = b} {list = list} c e =
    let same = check-by-length text b (lent_records (length list)) (records_of list) (length-replicate (length list) empty_record ∙ sym (length-map list shown)) in
    record { answer = c.answer ∙ ap (λ (k : CheckedBy). k.answer) same; instances = ap records_of e ∙ c.instances ∙ ap (λ (k : CheckedBy). k.list) same }

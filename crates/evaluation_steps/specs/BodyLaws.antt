-- The body of a function at its arguments, return by return.
use Rattle.std.specs.Prelude.{Err}
use Rattle.language.specs.declared.refusals.Refusal.TheVariants.{StackSpent}
use Rattle.new_cells.specs.Steps.{Evaluated, by_number}
use Rattle.std.specs.Prelude.{ℕ, ◌+◌, ◌-◌, ◌≤◌, List, [], ◌++◌, ◌≡◌, length, get_or, take, drop}
use Rattle.std.proofs.Common.{append-nil, sym, ◌∙◌, subst, arith, length-drop, length-append, drop_of_length-le, take_all, ext_get_or, drop_at, length-take-le, take_at}
use Rattle.std.proofs.Math.Option.{some}
use Rattle.std.proofs.Math.Path.{ap}
use Rattle.std.proofs.Math.ListN.{get_elem? as look}
use Rattle.language.specs.Limits.{nesting_most}
use Rattle.language.specs.Refusals.{stack_spent}
use Rattle.language.specs.Syntax.{Function, File}
use Rattle.language.specs.Scope.{Scope}
use Rattle.language.specs.Heap.{Cell}
use Rattle.language.specs.Evaluator.{Out, refused, Channels, no_channels, eval, enter_body, run}
use Rattle.theory.specs.Lists.{look-less}
use Rattle.theory.specs.Places.{one_less}
use Rattle.encoding.specs.Known.{body-known}
use Rattle.heads.specs.Places.{line_behind_types, function-line}
use Rattle.index.specs.Indexed.{function_line}
use Rattle.state_words.specs.RowLaws.{row_at, row-length}
use Rattle.state_words.specs.WriteLaws.{drop_of_take}
use Rattle.evaluation_steps.specs.declared.Context.{Context}
use Rattle.evaluation_steps.specs.Contexts.{body_context}
use Rattle.evaluation_steps.specs.Promises.{Below, Stage, Stands, cells_in}
use Rattle.evaluation_steps.specs.Asks.{AskBody, EvalsExpr, EvalsBody}
use Rattle.evaluation_steps.specs.Slots.{Pushed, WordOf, pushed-after, pushed-below, pushed_long}
use Rattle.evaluation_steps.specs.KeepLaws.{below-same}
use Rattle.evaluation_steps.specs.ExprLaws.{agrees-refused, kept-not}

-- ---- slots lent from a place on, and given back
pub part-all : (l : List ℕ) (top : ℕ) → take (length l - top) (drop top l) ≡ drop top l
part-all l top = take_all (length l - top) (drop top l) (omega (arith, length-drop top l))

none-behind : (l : List ℕ) (top : ℕ) → drop (length l - top) (drop top l) ≡ []
none-behind l top = drop_of_length-le (drop top l) {i = length l - top} (omega (arith, length-drop top l))

pub part-back : (l part' : List ℕ) (top : ℕ) → take top l ++ (part' ++ drop (length l - top) (drop top l)) ≡ take top l ++ part'
part-back l part' top = ap (λ (x : List ℕ). take top l ++ (part' ++ x)) (none-behind l top) ∙ ap (λ (x : List ℕ). take top l ++ x) (append-nil part')

pub part-long : (l part' : List ℕ) (top : ℕ) → top ≤ length l → length part' ≡ length (take (length l - top) (drop top l)) → length (take top l ++ (part' ++ drop (length l - top) (drop top l))) ≡ length l
part-long l part' top le same =
    let whole = ap length (part-all l top) in
    ap length (part-back l part' top) ∙ length-append (take top l) part' ∙ omega (arith, length-take-le top l le, same, whole, length-drop top l)

-- ---- the words pushed are the first of the row
pub cells_are : {slots slots' : List ℕ} {top n : ℕ} (row : List ℕ) (q : Pushed (WordOf row) slots top n slots') → q.row ≡ cells_in row n
cells_are {n = n} row q = ext_get_or 0 q.row (cells_in row n) (q.long ∙ sym (row-length (λ j. get_or row j 0) n))
    (λ j less. (q.each j (omega (arith, q.long))).is ∙ sym (row_at (λ i. get_or row i 0) n j (omega (arith, q.long))))

-- ---- slots from the environment's end on: they begin with what was pushed, and what is below stays
module _ {slots slots₁ : List ℕ} {top n : ℕ} (row : List ℕ) (q : Pushed (WordOf row) slots top n slots₁) (room : top + n ≤ length slots) where
  own-slots : take n (drop top slots₁) ≡ cells_in row n
  own-slots =
      let low : length (take top slots) ≡ top = length-take-le top slots (omega arith) in
      sym (drop_of_take top n slots₁) ∙ ap (drop top) (pushed-after q room) ∙ drop_at (take top slots) q.row top low ∙ cells_are row q

  pub own_below : (part : List ℕ) → length part ≡ length (drop top slots₁) → Below top slots (take top slots₁ ++ part)
  own_below part same =
      let long = pushed_long q in
      let low : length (take top slots₁) ≡ top = length-take-le top slots₁ (omega arith) in
      let below = pushed-below q (omega arith) in
      record {
        low = take_at (take top slots₁) part top low ∙ below.low;
        long = length-append (take top slots₁) part ∙ omega (arith, low, same, length-drop top slots₁);
      }

module _ (P : File) (cells f : ℕ) (ls : List ℕ) (s : ℕ) (h : List Cell) where
  no_call : {u : ℕ} → u ≡ 0 → run P cells u f ls s h ≡ refused stack_spent
  unfolding run
  no_call e = rw e

  a_call : {u : ℕ} (F : Function) → (u ≡ 0 → ⊥) → look P.functions f ≡ some F → run P cells u f ls s h ≡ eval P (run P cells (u - 1)) cells no_channels F.body ls s h
  unfolding run enter_body
  a_call {u} F more there = ap (λ n. run P cells n f ls s h) (one_less u more) ∙ rw there

module _ (text index ends now words slots : List ℕ) (p : Context) (f : ℕ) (row : List ℕ) (n : ℕ) where
  pub body-spent : {r : Evaluated} → p.calls ≡ 0 → r ≡ Err StackSpent → EvalsBody text index ends now words slots p f row n r words slots
  body-spent none q = record { says = λ {P} {cells} {S} {N} {h} st ask. agrees-refused by_number q (ask.is ∙ no_call P cells f (cells_in row n) (length slots - p.top - n) h none); kept = kept-not q; below = below-same p.top slots }

  module _ {P : File} {cells : ℕ} {S : Scope} {N : Channels} {h : List Cell} {o : Out} (st : Stage text index ends now words p P cells S N h) (ask : AskBody text index ends slots p f row n P cells S N h o) where
    its-line : line_behind_types index f ≡ function_line P f
    its-line = function-line st.indexed (look-less P.functions f ask.there)

    body-stage : Stage text index ends now words (body_context index p f n) P cells (body-known st.indexed.within f ask.there).scope no_channels h
    body-stage =
        let b = body-known st.indexed.within f ask.there in
        record {
          indexed = st.indexed;
          told = st.told;
          less = omega (arith, its-line, look-less P.functions f ask.there);
          known = b.known;
          now_cells = λ c less. absurd (omega (arith, less, b.channels));
          last_cells = λ c less. absurd (omega (arith, less, b.channels));
          few = omega (arith, b.channels);
          lies = st.lies;
        }

    body-stands : Stands text index ends (line_behind_types index f) (body-known st.indexed.within f ask.there).scope (body_context index p f n).at.at ask.function.body
    body-stands = subst (λ m. Stands text index ends m (body-known st.indexed.within f ask.there).scope (body_context index p f n).at.at ask.function.body) (sym its-line)
        (record { levels = nesting_most; within = (body-known st.indexed.within f ask.there).within; spelled = (st.indexed.each_function f ask.there).body; ended = st.told.each f ask.there })

  -- in slots of its own
  pub body-done : {slots₁ part part' slots₂ : List ℕ} {q : Context} {r : Evaluated} {words' : List ℕ} → (p.calls ≡ 0 → ⊥) → p.top + n ≤ length slots → Pushed (WordOf row) slots p.top n slots₁ → q ≡ body_context index p f n →
      part ≡ drop p.top slots₁ → slots₂ ≡ take p.top slots₁ ++ part' → EvalsExpr text index ends now words part q r words' part' → EvalsBody text index ends now words slots p f row n r words' slots₂
  body-done {slots₁} {part} {part'} {slots₂} {q} {r} {words'} more room pushed e d back v = go (rw (e, d) at v)
    where
      go : EvalsExpr text index ends now words (drop p.top slots₁) (body_context index p f n) r words' part' → EvalsBody text index ends now words slots p f row n r words' slots₂
      go v = record {
        says = λ {P} {cells} {S} {N} {h} st ask.
            let left : length slots - p.top - n ≡ length (drop p.top slots₁) - n = omega (arith, pushed_long pushed, length-drop p.top slots₁) in
            v.says (body-stage st ask) (record {
              expr = ask.function.body;
              stands = body-stands st ask;
              is = ask.is ∙ a_call P cells f (cells_in row n) (length slots - p.top - n) h ask.function more ask.there ∙
                  ap (λ (E : List ℕ). eval P (run P cells (p.calls - 1)) cells no_channels ask.function.body E (length slots - p.top - n) h) (sym (own-slots row pushed room)) ∙
                  ap (λ s. eval P (run P cells (p.calls - 1)) cells no_channels ask.function.body (take n (drop p.top slots₁)) s h) left;
            });
        kept = v.kept;
        below = rw back (own_below row pushed room part' v.below.long);
      }

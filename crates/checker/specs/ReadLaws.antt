-- A text as it is read: a refusal's answer, or the file in the index.
use Rattle.std.specs.Prelude.{ℕ, List, Bool, ◌≡◌, refl, replicate}
use Rattle.std.proofs.Common.{ap, ◌∙◌, arith}
use Rattle.language.specs.Result.{Result, ok, bind}
use Rattle.language.specs.Syntax.{File}
use Rattle.language.specs.Reader.{read_file}
use Rattle.language.specs.Machine.{list_lent}
use Rattle.index.specs.Whole.{index_of, whole-sections}
use Rattle.std.specs.Prelude.{Ok, Err}
use Rattle.language.specs.declared.refusals.RefusalAt.{RefusalAt}
use Rattle.reader.specs.Texts.{Reading, TextRead, done, fault}
use Rattle.reader.specs.Indexes.{read-fault, read-indexes}
use Rattle.answers.specs.declared.Board.{Board}
use Rattle.answers.specs.declared.Answer.{Answer}
use Rattle.answers.specs.Boards.{board_of, lent_records, answer_of}
use Rattle.checker.specs.Checks.{ChecksGiven, ChecksWords, ReadHeld}
use Rattle.checker.specs.Outcomes.{check-of, refused, checked}

-- ---- refused
pub reading-refused : {text index words' : List ℕ} {b : Board} {x : Reading} {e : RefusalAt} {r : Answer} (k : ℕ) → TextRead text x index (read_file text) → x ≡ Err e → r ≡ answer_of x → words' ≡ replicate k 0 →
    (given : Bool) → ChecksGiven text b given r words'
unfolding answer_of bind
reading-refused {text} {b = b} k v q e z given = refused text b given k (check-of text given (read-fault v q)) (e ∙ ap answer_of q) z

pub check-unread : {text index words' : List ℕ} {b : Board} {records : ℕ} {x : Reading} {e : RefusalAt} {r : Answer} (k : ℕ) → TextRead text x index (read_file text) → x ≡ Err e → r ≡ answer_of x → words' ≡ replicate k 0 → ChecksWords text b records r words'
check-unread {b = b} {records = records} k v q e z = checked (record { is = refl }) (reading-refused k v q e z (list_lent (board_of b) (lent_records records)))

-- ---- read: the index is the file's
read_whole : {text index : List ℕ} {x : Reading} {y : Result File} {P : File} → TextRead text x index y → y ≡ ok P → index ≡ index_of text P
read_whole {text} {P = P} (done {P = Q} e w) q = let same : Q ≡ P = cc in w ∙ ap (index_of text) same
read_whole (fault e w) q = absurd (let z : ◌≡◌ {A = ℕ} 0 1 = cc in omega arith)

pub read_held : {text index : List ℕ} {x : Reading} → TextRead text x index (read_file text) → x ≡ Ok tt → ReadHeld text index
read_held v d = let i = read-indexes v d in record { file = i.file; indexed = i.indexed; sections = whole-sections (read_whole v i.indexed.read) }

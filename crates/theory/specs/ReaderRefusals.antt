-- The reader refuses only with 1 to 8: a frame's bytes with 4 to 7, and so no refusal of it bears the number 0. With 2 to 8 it names a
-- frame of the text, or with 3 the one after the last.
use Rattle.std.specs.Prelude.{ℕ, zero, suc, ◌+◌, ◌≤◌, Bool, true, false, ◌≡◌, refl, length}
use mathlib.Core.List.{List, [], ◌∷◌}
use Rattle.std.proofs.Math.Option.{Option, none, some}
use Rattle.std.proofs.Common.{arith}
use Rattle.std.proofs.Math.ListN.{length-append}
use Rattle.language.specs.Refusals.{no_frame, text_too_long, bad_line, bad_frame, bad_length, outside_limits, no_base_constructor, heap_short, heap_spent, buffer_short}
use Rattle.language.specs.Result.{Result, ok, no, need, choose}
use Rattle.language.specs.Syntax.{Constructor, Expr, Size, File}
use Rattle.language.specs.Scope.{Scope}
use Rattle.language.specs.Parser.{Read, got, bad, Parser, and_then, must, return, from_option, byte, index, count, code, code_in, many, counted}
use Rattle.language.specs.ReadExpr.{bound, FieldForm, bool_field, int_field, own_field, other_field, field_behind, field, TypeForm, bool_type, int_type, named_type, plain_behind, plain, declared_behind, declared, SizeForm, lit_size, var_size, plus_size, minus_size, size_behind, size_at, result_behind, result}
use Rattle.language.specs.ReadExpr.{Form, bool_form, int_form, var_form, now_form, last_form, let_form, if_form, op_form, call_form, con_form, case_form, adj_form, fit_form, int, exprs, branches, expr_behind, expr_at}
use Rattle.language.specs.Text.{is_empty, lines_of, frame_lines, frames_in, text_frames}
use Rattle.language.specs.Reader.{type_def, condition, function, input, node, whole, Kind, type_kind, function_kind, input_kind, node_kind, with_type, with_function, with_input, with_node, read_kind, read_frame, read_frames, channel_count, empty_file, read_file}
use Rattle.language.specs.Answers.{frame_count, FrameNamed}
use Rattle.theory.specs.FrameNumbers.{frame_total, FrameOf, frame-named}
use Rattle.theory.specs.SizeRefusals.{Anything}
use Rattle.theory.specs.Outcomes.{Outcome, accepted, refused, when-accepted, when-refused, outcome-map, bind-outcome, need-outcome, from-outcome, choose-outcome}

-- ---- the bytes of a frame
pub record ByteRefusal (n : ℕ) : Type 0 where
  pub least : bad_length ≤ n
  pub most : n ≤ outside_limits

data Fair {A : Type 0} : Read A → Type 0 where
  reads : {a : A} {rest : List ℕ} → Fair (got a rest)
  fails : {n : ℕ} → ByteRefusal n → Fair (bad n)

-- whatever the bytes are
abbrev FairReader : {A : Type 0} → Parser A → Type 0
FairReader p = (bs : List ℕ) → Fair (p bs)

then-fair : {A B : Type 0} {r : Read A} {k : A → Parser B} → Fair r → ((a : A) → FairReader (k a)) → Fair (and_then r k)
unfolding and_then
then-fair (reads {a} {rest}) f = f a rest
then-fair (fails n) f = fails n

return-fair : {A : Type 0} (a : A) → FairReader (return a)
return-fair a bs = reads

must-fair : {A : Type 0} (test : Bool) {n : ℕ} (a : A) → ByteRefusal n → FairReader (must test n (return a))
unfolding must
must-fair true a n bs = reads
must-fair false a n bs = fails n

option-fair : {A : Type 0} (o : Option A) {n : ℕ} → ByteRefusal n → FairReader (from_option o n)
unfolding from_option
option-fair (some a) n bs = reads
option-fair none n bs = fails n

byte-fair : FairReader byte
unfolding byte
byte-fair [] = fails {n = bad_length} (omega arith)
byte-fair (b ∷ bs) = reads

index-fair : (n : ℕ) → FairReader (index n)
unfolding index
index-fair n bs = then-fair (byte-fair bs) (λ i. must-fair _ i (omega arith))

count-fair : (least most : ℕ) → FairReader (count least most)
unfolding count
count-fair least most bs = then-fair (byte-fair bs) (λ n. must-fair _ n (omega arith))

code-fair : {A : Type 0} (first : ℕ) (table : List A) → FairReader (code first table)
unfolding code
code-fair first table bs = then-fair (byte-fair bs) (λ b. option-fair _ (omega arith))

code_in-fair : {A : Type 0} (room : Bool) (first : ℕ) (table : List A) → FairReader (code_in room first table)
unfolding code_in
code_in-fair room first table bs = then-fair (code-fair first table bs) (λ a. must-fair room a (omega arith))

many-fair : {A : Type 0} {p : Parser A} (n : ℕ) → FairReader p → FairReader (many p n)
unfolding many
many-fair zero f bs = reads
many-fair (suc n) f bs = then-fair (f bs) (λ a cs. then-fair (many-fair n f cs) (λ l. return-fair _))

counted-fair : {A : Type 0} {p : Parser A} (least most : ℕ) → FairReader p → FairReader (counted least most p)
unfolding counted
counted-fair least most f bs = then-fair (count-fair least most bs) (λ n. many-fair n f)

-- ---- types and sizes
bound-fair : FairReader bound
unfolding bound
bound-fair bs = count-fair _ _ bs

field_behind-fair : (types : ℕ) (form : FieldForm) → FairReader (field_behind types form)
unfolding field_behind
field_behind-fair types bool_field bs = reads
field_behind-fair types int_field bs = reads
field_behind-fair types own_field bs = reads
field_behind-fair types other_field bs = then-fair (index-fair types bs) (λ t cs. then-fair (bound-fair cs) (λ k. return-fair _))

field-fair : (types : ℕ) → FairReader (field types)
unfolding field
field-fair types bs = then-fair (code-fair _ _ bs) (field_behind-fair types)

plain_behind-fair : (types : ℕ) (form : TypeForm) → FairReader (plain_behind types form)
unfolding plain_behind
plain_behind-fair types bool_type bs = reads
plain_behind-fair types int_type bs = reads
plain_behind-fair types named_type bs = then-fair (index-fair types bs) (λ t. return-fair _)

plain-fair : (types : ℕ) → FairReader (plain types)
unfolding plain
plain-fair types bs = then-fair (code-fair _ _ bs) (plain_behind-fair types)

declared_behind-fair : (types : ℕ) (form : TypeForm) → FairReader (declared_behind types form)
unfolding declared_behind
declared_behind-fair types bool_type bs = reads
declared_behind-fair types int_type bs = reads
declared_behind-fair types named_type bs = then-fair (index-fair types bs) (λ t cs. then-fair (bound-fair cs) (λ k. return-fair _))

declared-fair : (types : ℕ) → FairReader (declared types)
unfolding declared
declared-fair types bs = then-fair (code-fair _ _ bs) (declared_behind-fair types)

size_behind-fair : (vars : ℕ) {inner : Parser Size} (form : SizeForm) → FairReader inner → FairReader (size_behind vars inner form)
unfolding size_behind
size_behind-fair vars lit_size f bs = then-fair (byte-fair bs) (λ k. return-fair _)
size_behind-fair vars var_size f bs = then-fair (index-fair vars bs) (λ i. return-fair _)
size_behind-fair vars plus_size f bs = then-fair (f bs) (λ a cs. then-fair (f cs) (λ b. return-fair _))
size_behind-fair vars minus_size f bs = then-fair (f bs) (λ a cs. then-fair (f cs) (λ b. return-fair _))

size_at-fair : (n vars : ℕ) → FairReader (size_at n vars)
unfolding size_at
size_at-fair zero vars bs = then-fair (code_in-fair _ _ _ bs) (λ form cs. fails {n = outside_limits} (omega arith))
size_at-fair (suc n) vars bs = then-fair (code_in-fair _ _ _ bs) (λ form. size_behind-fair vars form (size_at-fair n vars))

result_behind-fair : (types vars : ℕ) (form : TypeForm) → FairReader (result_behind types vars form)
unfolding result_behind
result_behind-fair types vars bool_type bs = reads
result_behind-fair types vars int_type bs = reads
result_behind-fair types vars named_type bs = then-fair (index-fair types bs) (λ t cs. then-fair (size_at-fair _ vars cs) (λ s. return-fair _))

result-fair : (types vars : ℕ) → FairReader (result types vars)
unfolding result
result-fair types vars bs = then-fair (code-fair _ _ bs) (result_behind-fair types vars)

-- ---- expressions
int-fair : FairReader int
unfolding int
int-fair bs = then-fair (byte-fair bs) (λ a cs. then-fair (byte-fair cs) (λ b ds. then-fair (byte-fair ds) (λ c es. then-fair (byte-fair es) (λ d. return-fair _))))

exprs-fair : {p : Parser Expr} (n : ℕ) → FairReader p → FairReader (exprs p n)
unfolding exprs
exprs-fair zero f bs = reads
exprs-fair (suc n) f bs = then-fair (f bs) (λ e cs. then-fair (exprs-fair n f cs) (λ es. return-fair _))

module _ (inner : Scope → Parser Expr) (fair : (S : Scope) → FairReader (inner S)) (S : Scope) where
  branches-fair : (cs : List Constructor) → FairReader (branches inner S cs)
  unfolding branches
  branches-fair [] bs = reads
  branches-fair (fs ∷ cs) bs = then-fair (fair _ bs) (λ b ds. then-fair (branches-fair cs ds) (λ es. return-fair _))

  expr_behind-fair : (form : Form) → FairReader (expr_behind inner S form)
  unfolding expr_behind
  expr_behind-fair bool_form bs = then-fair (code-fair _ _ bs) (λ b. return-fair _)
  expr_behind-fair int_form bs = then-fair (int-fair bs) (λ n. return-fair _)
  expr_behind-fair var_form bs = then-fair (index-fair _ bs) (λ v. return-fair _)
  expr_behind-fair now_form bs = then-fair (index-fair _ bs) (λ c. return-fair _)
  expr_behind-fair last_form bs = then-fair (index-fair _ bs) (λ c. return-fair _)
  expr_behind-fair let_form bs = then-fair (fair _ bs) (λ a cs. then-fair (fair _ cs) (λ b. return-fair _))
  expr_behind-fair if_form bs = then-fair (fair _ bs) (λ a cs. then-fair (fair _ cs) (λ b ds. then-fair (fair _ ds) (λ d. return-fair _)))
  expr_behind-fair op_form bs = then-fair (code-fair _ _ bs) (λ o cs. then-fair (fair _ cs) (λ a ds. then-fair (fair _ ds) (λ b. return-fair _)))
  expr_behind-fair call_form bs = then-fair (index-fair _ bs) (λ f cs. then-fair (exprs-fair _ (fair S) cs) (λ es. return-fair _))
  expr_behind-fair con_form bs = then-fair (index-fair _ bs) (λ t cs. then-fair (index-fair _ cs) (λ c ds. then-fair (exprs-fair _ (fair S) ds) (λ es. return-fair _)))
  expr_behind-fair case_form bs = then-fair (index-fair _ bs) (λ t cs. then-fair (fair _ cs) (λ e ds. then-fair (result-fair _ _ ds) (λ r es. then-fair (branches-fair _ es) (λ fs. return-fair _))))
  expr_behind-fair adj_form bs = then-fair (size_at-fair _ _ bs) (λ s cs. then-fair (fair _ cs) (λ e. return-fair _))
  expr_behind-fair fit_form bs = then-fair (bound-fair bs) (λ k cs. then-fair (fair _ cs) (λ a ds. then-fair (fair _ ds) (λ b es. then-fair (fair _ es) (λ d. return-fair _))))

expr_at-fair : (n : ℕ) (S : Scope) → FairReader (expr_at n S)
unfolding expr_at
expr_at-fair zero S bs = then-fair (code_in-fair _ _ _ bs) (λ form cs. fails {n = outside_limits} (omega arith))
expr_at-fair (suc n) S bs = then-fair (code_in-fair _ _ _ bs) (λ form. expr_behind-fair (expr_at n) (expr_at-fair n) S form)

-- ---- frames
type_def-fair : (known : File) → FairReader (type_def known)
unfolding type_def
type_def-fair known bs = counted-fair _ _ (counted-fair _ _ (field-fair _)) bs

condition-fair : (vars : ℕ) → FairReader (condition vars)
unfolding condition
condition-fair vars bs = then-fair (code-fair _ _ bs) (λ r cs. then-fair (size_at-fair _ _ cs) (λ a ds. then-fair (size_at-fair _ _ ds) (λ b. return-fair _)))

function-fair : (known : File) → FairReader (function known)
unfolding function
function-fair known bs = then-fair (counted-fair _ _ (plain-fair _) bs) (λ ps cs. then-fair (result-fair _ _ cs) (λ r ds. then-fair (counted-fair _ _ (condition-fair _) ds) (λ q es.
    then-fair (counted-fair _ _ (index-fair _) es) (λ m fs. then-fair (expr_at-fair _ _ fs) (λ e. return-fair _)))))

input-fair : (known : File) → FairReader (input known)
unfolding input
input-fair known bs = then-fair (declared-fair _ bs) (λ τ cs. then-fair (expr_at-fair _ _ cs) (λ e. return-fair _))

node-fair : (channels : ℕ) (known : File) → FairReader (node channels known)
unfolding node
node-fair channels known bs = then-fair (declared-fair _ bs) (λ τ cs. then-fair (expr_at-fair _ _ cs) (λ e ds. then-fair (expr_at-fair _ _ ds) (λ u. return-fair _)))

-- ---- the text, of which last is the number of frames
pub record ReaderRefusal (last n frame : ℕ) : Type 0 where
  pub least : 1 ≤ n
  pub most : n ≤ no_base_constructor
  pub none : n ≤ text_too_long → frame ≡ no_frame
  pub from_first : bad_line ≤ n → 1 ≤ frame
  pub to_last : (n ≡ bad_frame → ⊥) → frame ≤ last
  pub one_after : frame ≤ last + 1

-- in a frame of the text
in_frame : {last n frame : ℕ} → 1 ≤ frame → frame ≤ last → bad_line ≤ n → n ≤ no_base_constructor → ReaderRefusal last n frame
in_frame first behind low high = record { least = omega arith; most = high; none = λ few. absurd (omega arith); from_first = λ _. first; to_last = λ _. behind; one_after = omega arith }

whole-numbered : {A : Type 0} {last : ℕ} (frame : ℕ) → 1 ≤ frame → frame ≤ last → {r : Read A} → Fair r → Outcome Anything (ReaderRefusal last) (whole frame r)
unfolding whole
whole-numbered frame first behind (reads {rest = []}) = accepted tt
whole-numbered frame first behind (reads {rest = b ∷ bs}) = refused {n = bad_length} {frame = frame} (in_frame first behind (omega arith) (omega arith))
whole-numbered frame first behind (fails {n} r) = refused {n = n} {frame = frame} (in_frame first behind (omega arith) (omega arith))

-- a frame gives one frame more
module _ {last : ℕ} (channels frame : ℕ) (first : 1 ≤ frame) (behind : frame ≤ last) (f : File) where
  abbrev OneMore : Result File → Type 0
  OneMore r = Outcome (λ g. frame_total g ≡ suc (frame_total f)) (ReaderRefusal last) r

  kind-numbered : (bs : List ℕ) (kind : Kind) → OneMore (read_kind channels frame f bs kind)
  unfolding read_kind with_type with_function with_input with_node
  kind-numbered bs type_kind = bind-outcome (whole-numbered frame first behind (type_def-fair f bs)) (λ d _ _.
      need-outcome _ no_base_constructor _ (λ _. in_frame first behind (omega arith) (omega arith)) (λ _. accepted (omega (arith, length-append f.types (d ∷ [])))))
  kind-numbered bs function_kind = bind-outcome (whole-numbered frame first behind (function-fair f bs)) (λ F _ _. accepted (omega (arith, length-append f.functions (F ∷ []))))
  kind-numbered bs input_kind = bind-outcome (whole-numbered frame first behind (input-fair f bs)) (λ i _ _. accepted (omega (arith, length-append f.inputs (i ∷ []))))
  kind-numbered bs node_kind = bind-outcome (whole-numbered frame first behind (node-fair channels f bs)) (λ n _ _. accepted (omega (arith, length-append f.nodes (n ∷ []))))

  frame-numbered : (bs : List ℕ) → OneMore (read_frame channels frame f bs)
  unfolding read_frame
  frame-numbered [] = refused {n = bad_length} {frame = frame} (in_frame first behind (omega arith) (omega arith))
  frame-numbered (k ∷ bs) = from-outcome _ bad_frame frame (λ _. in_frame first behind (omega arith) (omega arith)) (λ kind _.
      need-outcome _ bad_frame frame (λ _. in_frame first behind (omega arith) (omega arith)) (λ _. kind-numbered bs kind))

after_last : {last frame : ℕ} → 1 ≤ frame → frame ≤ last + 1 → ReaderRefusal last bad_frame frame
after_last first behind = record { least = omega arith; most = omega arith; none = λ few. absurd (omega arith); from_first = λ _. first; to_last = λ other. absurd (other refl); one_after = behind }

frames-numbered : {last : ℕ} (channels frame : ℕ) (f : File) (ls : List (List ℕ)) → 1 ≤ frame → frame + length ls ≤ last + 1 →
    Outcome (λ g. frame_total g ≡ frame_total f + length ls) (ReaderRefusal last) (read_frames channels frame f ls)
unfolding read_frames
frames-numbered channels frame f [] first behind = choose-outcome _ (λ _. refused {n = bad_frame} {frame = frame} (after_last first (omega arith))) (λ _. accepted (omega arith))
frames-numbered channels frame f (l ∷ ls) first behind = bind-outcome (frame-numbered channels frame first (omega arith) f l) (λ g _ more.
    outcome-map (λ P sum. omega arith) (frames-numbered channels (suc frame) g ls (omega arith) (omega arith)))

-- the lines of frames from this one on, with what stands after the last LF
lines-numbered : {last : ℕ} (frame : ℕ) (ls : List (List ℕ)) (rest : List ℕ) → 1 ≤ frame → frame + (length ls + choose (is_empty rest) 0 1) ≤ last + 1 →
    Outcome (λ fs. length fs ≡ length ls + choose (is_empty rest) 0 1) (ReaderRefusal last) (frames_in frame ls rest)
unfolding frames_in is_empty choose need
lines-numbered frame [] [] first behind = accepted refl
lines-numbered frame [] (c ∷ rest) first behind = refused {n = bad_line} {frame = frame} (in_frame first (omega arith) (omega arith) (omega arith))
lines-numbered frame (l ∷ ls) rest first behind = from-outcome _ bad_line frame (λ _. in_frame first (omega arith) (omega arith) (omega arith)) (λ bs _.
    bind-outcome (lines-numbered (suc frame) ls rest (omega arith) (omega arith)) (λ fs _ long. accepted (omega arith)))

-- and a file that is read has a frame for each of the text
read-numbered : (t : List ℕ) → Outcome (λ P. frame_total P ≡ frame_count t) (ReaderRefusal (frame_count t)) (read_file t)
unfolding read_file text_frames frame_count
read-numbered t = need-outcome _ text_too_long no_frame (λ _. record { least = omega arith; most = omega arith; none = λ _. refl; from_first = λ more. absurd (omega arith); to_last = λ _. omega arith; one_after = omega arith }) (λ _.
    bind-outcome (lines-numbered 1 (frame_lines (lines_of t).ended) (lines_of t).rest (omega arith) (omega arith)) (λ fs _ long.
    outcome-map (λ P sum. omega arith) (frames-numbered (channel_count fs) 1 empty_file fs (omega arith) (omega arith))))

pub reader-refusals : (t : List ℕ) {n frame : ℕ} → read_file t ≡ no n frame → ReaderRefusal (frame_count t) n frame
reader-refusals t e = when-refused (read-numbered t) e

pub reader-frames : (t : List ℕ) {n frame : ℕ} → read_file t ≡ no n frame → FrameNamed t n frame
reader-frames t e =
    let r = reader-refusals t e in
    record {
      none = r.none;
      none_at_board = λ many few. absurd (omega (arith, r.most));
      none_at_buffer = λ is. absurd (omega (arith, r.most));
      least = λ low few. r.from_first low;
      least_in_run = λ many few. absurd (omega (arith, r.most));
      least_in_order = λ is. absurd (omega (arith, r.most));
      most = r.to_last;
      one_after = r.one_after;
    }

pub frames-read : (t : List ℕ) {P : File} → read_file t ≡ ok P → frame_total P ≡ frame_count t
frames-read t e = when-accepted (read-numbered t) e

-- a frame of a file that was read is one of its text
pub in-file : {t : List ℕ} {P : File} {n frame : ℕ} → read_file t ≡ ok P → FrameOf P frame → bad_line ≤ n → (heap_short ≤ n → heap_spent ≤ n) → (n ≡ buffer_short → ⊥) → FrameNamed t n frame
in-file {t} read f low gap other = frame-named f.least (omega (arith, f.most, frames-read t read)) low gap other

-- A value laid by its form, and the tag behind the code of a constructor, return by return.
use Rattle.std.specs.Prelude.{Ok, Err, None}
use Rattle.language.specs.declared.refusals.Refusal.{Refusal}
use Prim.Native.Nat.{ℕ, zero, suc, ◌+◌, ◌*◌, ◌<◌}
use mathlib.Core.List.{List}
use Rattle.std.proofs.Math.Option.{some}
use Rattle.std.specs.Prelude.{◌≡◌, length}
use Rattle.std.proofs.Math.Path.{refl, ap}
use Rattle.std.proofs.Common.{sym, ◌∙◌, lt_of_le_of_lt, arith}
use Rattle.language.specs.Limits.{byte_range}
use Rattle.language.specs.Codes.{expr_first}
use Rattle.language.specs.Syntax.{File, constructors_of, fields_of}
use Rattle.language.specs.Heap.{Tree, vcon, Trees}
use Rattle.language.specs.Layout.{tag_step}
use Rattle.language.specs.Parser.{got, Parser, and_then, byte, index as index_read}
use Rattle.language.specs.ReadExpr.{Form, bool_form, con_form, forms}
use Rattle.language.specs.Line.{value_trees, value_behind, value_at}
use Rattle.theory.specs.Places.{look_at}
use Rattle.text.specs.declared.Found.{Found}
use Rattle.text.specs.Bytes.{Number, bytes_from, stopped, ReadsNumber, Below}
use Rattle.text.specs.Codes.{code_place}
use Rattle.text.specs.CodeLaws.{code-then, code-stops}
use Rattle.text.specs.ReadLaws.{read-then}
use Rattle.text.specs.StepLaws.{number-got, number-other, number-moved, moved_on, moved-left, read-stops-read, read-then-read}
use Rattle.index.specs.ParserLaws.{bad-is-not-got, got-value, got-left}
use Rattle.input_cells.specs.Lays.{Laying, full, tag_read, LeafLaid, TagAt, Lays}
use Rattle.input_line.specs.ReadParts.{then-got, index-got, byte-shorter}
use Rattle.input_line.specs.ValueLaws.{form_at, bool_place, int_place, construct_place, other-form, form-less}
use Rattle.input_cells.specs.CellLaws.{kept-none, full-is-not-done}

-- ---- a constructor that was read: its type and its number as a tag, and its fields
pub record ConRead (P : File) (inner : Parser Tree) (bs : List ℕ) (v : Tree) (rest : List ℕ) : Type 0 where
  pub t : ℕ
  pub c : ℕ
  pub ws : Trees
  pub left : List ℕ
  pub low : t < length P.types
  pub known : c < length (constructors_of P t)
  pub whole : v ≡ vcon t c ws
  pub tag : tag_read bs ≡ got (tag_step * (t + 1) + c) left
  pub fields : value_trees inner (length (fields_of P t c)) left ≡ got ws rest

pub con-read : (P : File) (inner : Parser Tree) (bs : List ℕ) {v : Tree} {rest : List ℕ} → value_behind P inner con_form bs ≡ got v rest → ConRead P inner bs v rest
unfolding value_behind tag_read and_then
con-read P inner bs e =
    let a = then-got (index_read (length P.types) bs) _ e in
    let b = then-got (index_read (length (constructors_of P a.value)) a.left) _ a.then in
    let d = then-got (value_trees inner (length (fields_of P a.value b.value)) b.left) _ b.then in
    let type = index-got (length P.types) bs a.first in
    let constructor = index-got (length (constructors_of P a.value)) a.left b.first in
    record {
      t = a.value;
      c = b.value;
      ws = d.value;
      left = b.left;
      low = type.less;
      known = constructor.less;
      whole = sym (got-value d.then);
      tag = rw (type.read, constructor.read);
      fields = d.first ∙ ap (got d.value) (got-left d.then);
    }

-- ---- the tag as it is read
no_found : {B : Type 0} {x : Number} {n : Refusal} {f : Found} → x ≡ Err n → x ≡ Ok f → B
no_found p q = absurd (let z : ◌≡◌ {A = ℕ} 0 1 = cc in omega arith)

module _ (line : List ℕ) (at : ℕ) {x : Number} (v : ReadsNumber line at x (byte (bytes_from line at)) × Below byte_range x) where
  -- what is read behind the first byte
  abbrev second : ℕ → Parser ℕ
  second t bs = and_then (byte bs) (λ c ds. got (tag_step * (t + 1) + c) ds)

  pub tag-none : {n : Refusal} → x ≡ Err n → TagAt line at x
  unfolding tag_read
  tag-none e = record { read = read-stops-read second v.0 e; high = λ q. no_found e q; fewer = λ q. no_found e q }

  module _ {f : Found} (e : x ≡ Ok f) {y : Number} (w : ReadsNumber line f.next.at y (byte (bytes_from line f.next.at)) × Below byte_range y) where
    pub tag-half : {n : Refusal} → y ≡ Err n → TagAt line at y
    unfolding tag_read
    tag-half q = record { read = read-then-read second v.0 e (read-stops-read (λ c ds. got (tag_step * (f.value + 1) + c) ds) w.0 q); high = λ p. no_found q p; fewer = λ p. no_found q p }

    pub tag-whole : {g : Found} {tag : ℕ} → y ≡ Ok g → tag ≡ tag_step * (f.value + 1) + g.value → TagAt line at (Ok (record { value = tag; next = g.next }))
    unfolding tag_read
    tag-whole {g} {tag} q is = record {
      read = read-then-read second v.0 e (number-other w.0 q (read-then (λ c ds. got (tag_step * (f.value + 1) + c) ds) w.0 q ∙ ap (λ n. got n (bytes_from line g.next.at)) (sym is)));
      high = λ {f = h} p. let same : record { value = tag; next = g.next } ≡ h = cc in rw (← same) (omega (arith, is));
      fewer = λ {f = h} p. let same : record { value = tag; next = g.next } ≡ h = cc in rw (← same) (lt_of_le_of_lt (moved-left (number-moved w.0 q)) (omega (arith, byte-shorter (bytes_from line at) (number-got v.0 e))));
    }

-- ---- a value by its form
module _ (line index : List ℕ) (at : ℕ) {x : Number} (v : ReadsNumber line at x (code_place expr_first (length forms) (bytes_from line at)) × Below byte_range x) where
  pub value-missing : {n : Refusal} {cells used : ℕ} {words : List ℕ} → x ≡ Err n → Lays line index at cells used words None words (λ n P. value_at n P)
  unfolding value_at
  value-missing {n} {cells} {used} {words} e = record { says = λ text P i h hs m q. never P m q; on = stopped; kept = kept-none cells used words; high = λ q. full-is-not-done q; grown = full }
    where
      never : {B : Type 0} (P : File) (m : ℕ) {w : Tree} {rest : List ℕ} → value_at m P (bytes_from line at) ≡ got w rest → B
      never P zero q = bad-is-not-got q
      never P (suc m) q = bad-is-not-got (sym (code-stops expr_first forms (value_behind P (value_at m P)) v.0 e) ∙ q)

  module _ {f : Found} (e : x ≡ Ok f) where
    module _ (F : Form) (form : form_at f.value ≡ F) where
      -- a value that was read was read behind its code
      behind-code : {B : Type 0} (P : File) (n : ℕ) {w : Tree} {rest : List ℕ} → value_at n P (bytes_from line at) ≡ got w rest → ((m : ℕ) → value_behind P (value_at m P) F (bytes_from line f.next.at) ≡ got w rest → B) → B
      unfolding value_at
      behind-code P zero q then = bad-is-not-got q
      behind-code P (suc m) q then = then m (sym (code-then expr_first forms (value_behind P (value_at m P)) v.0 F e refl (look_at forms f.value bool_form (form-less line at v e) ∙ ap some form)) ∙ q)

      pub value-leaf-laid : {cells used : ℕ} {words words' : List ℕ} {r : Laying} → LeafLaid line f.next.at F cells used words r words' → Lays line index at cells used words r words' (λ n P. value_at n P)
      value-leaf-laid u = record {
        says = λ text P i h hs n q. behind-code P n q (λ m p. u.says P (value_at m P) h hs p);
        on = moved_on (number-moved v.0 e) u.on;
        kept = u.kept;
        high = u.high;
        grown = u.grown;
      }

      pub value-con-laid : {cells used : ℕ} {words words' : List ℕ} {r : Laying} → Lays line index f.next.at cells used words r words' (λ n P. value_behind P (value_at n P) F) → Lays line index at cells used words r words' (λ n P. value_at n P)
      value-con-laid u = record {
        says = λ text P i h hs n q. behind-code P n q (λ m p. u.says text P i h hs m p);
        on = moved_on (number-moved v.0 e) u.on;
        kept = u.kept;
        high = u.high;
        grown = u.grown;
      }

    pub value-unknown : {cells used : ℕ} {words : List ℕ} → ((f.value ≡ bool_place) → ⊥) → ((f.value ≡ int_place) → ⊥) → ((f.value ≡ construct_place) → ⊥) → Lays line index at cells used words None words (λ n P. value_at n P)
    value-unknown {cells} {used} {words} not_bool not_int not-con = record {
      says = λ text P i h hs n q. behind-code (form_at f.value) refl P n q (λ m p. bad-is-not-got (sym (other-form P (value_at m P) (bytes_from line f.next.at) f.value (form-less line at v e) not_bool not_int not-con) ∙ p));
      on = stopped;
      kept = kept-none cells used words;
      high = λ q. full-is-not-done q;
      grown = full;
    }

-- The reader of an input's value is exact, by induction on the levels left; a value that fits its type has no more levels than bytes.
use Prim.Native.Nat.{ℕ, zero, suc, ◌≤◌, ◌<◌}
use Rattle.std.specs.Prelude.{List, [], ◌++◌, Bool, ◌≡◌, length}
use Rattle.std.proofs.Common.{append_assoc, sym, subst, arith, length-append}
use Rattle.std.proofs.Math.Path.{refl}
use Rattle.language.specs.Limits.{byte_range, int_range}
use Rattle.language.specs.Codes.{expr_bool, expr_int, expr_construct}
use Rattle.language.specs.Result.{choose}
use Rattle.language.specs.Syntax.{Field, Ty, File, constructors_of, fields_of}
use Rattle.language.specs.Heap.{kbool, kint, Tree, vleaf, vcon, Trees, vnil, vcons}
use Rattle.language.specs.Format.{int_bytes}
use Rattle.language.specs.LineFormat.{value_bytes, values_bytes}
use Rattle.language.specs.Within.{All, all_nil}
use Rattle.language.specs.Parser.{got, and_then, refuse, from_option, byte, decode, code}
use Rattle.language.specs.ReadExpr.{Form, bool_form, int_form, con_form}
use Rattle.language.specs.Line.{value_trees, value_behind, value_at}
use Rattle.theory.specs.Lists.{look-get_d, look-less, look-inner-less}
use Rattle.theory.specs.Alls.{all_append}
use Rattle.theory.specs.Outcomes.{reads_bad}
use Rattle.theory.specs.Exact.{Byte, Behind, Exact, next, done}
use Rattle.theory.specs.ExactParts.{one, index-exact, entry, no_entry, coded}
use Rattle.theory.specs.ExactLeaves.{bool-exact, int-exact}
use Rattle.theory.specs.SmallParts.{small-cons, bit-small, int_small}
use Rattle.theory.specs.TypedTrees.{TreeHas, has_bool, has_int, has_named, TreeVal, val_con, FieldTrees, fields_nil, fields_bool, fields_int, fields_own, fields_other}

module _ (P : File) where
  mutual
    -- a value of at most n levels: its numbers name a type and a constructor of it, and it has as many fields as that
    pub data WithinTree : ℕ → Tree → Type 0 where
      t_bool : {n : ℕ} {b : Bool} → WithinTree (suc n) (vleaf (kbool b))
      t_int : {n i : ℕ} → i < int_range → WithinTree (suc n) (vleaf (kint i))
      t_con : {n t c : ℕ} {ws : Trees} → t < length P.types → c < length (constructors_of P t) → WithinTrees n (length (fields_of P t c)) ws → WithinTree (suc n) (vcon t c ws)

    pub data WithinTrees : ℕ → ℕ → Trees → Type 0 where
      ts_nil : {n : ℕ} → WithinTrees n zero vnil
      ts_cons : {n m : ℕ} {w : Tree} {ws : Trees} → WithinTree n w → WithinTrees n m ws → WithinTrees n (suc m) (vcons w ws)

never : {A : Type 0} {bytes : A → List ℕ} {W : A → Type 0} {front : List ℕ} {n : ℕ} → Behind bytes W front (refuse n)
never = record { reads = λ bs small. reads_bad }

-- ---- fields and forms, where values one level further in are read exactly
module _ (P : File) (n : ℕ) (inner : Exact (value_at n P) value_bytes (WithinTree P n)) where
  trees-back : (m : ℕ) (ws : Trees) (rest : List ℕ) → WithinTrees P n m ws → value_trees (value_at n P) m (values_bytes ws ++ rest) ≡ got ws rest
  unfolding value_trees values_bytes and_then
  trees-back zero vnil rest ts_nil = refl
  trees-back (suc m) (vcons w ws) rest (ts_cons u us) = rw (append_assoc (value_bytes w) (values_bytes ws) rest, inner.back w _ u, trees-back m ws rest us)
  trees-back zero (vcons w ws) rest x'' = elim x'' [ ]
  trees-back (suc m) vnil rest x3 = elim x3 [ ]

  trees-forth : (m : ℕ) → Behind values_bytes (WithinTrees P n m) [] (value_trees (value_at n P) m)
  unfolding value_trees values_bytes
  trees-forth zero = done ts_nil refl
  trees-forth (suc m) = next inner.forth λ w u. next (trees-forth m) λ ws us. done (ts_cons u us) refl

  value-back : (v : Tree) (rest : List ℕ) → WithinTree P (suc n) v → value_at (suc n) P (value_bytes v ++ rest) ≡ got v rest
  unfolding value_at code byte and_then decode choose from_option value_behind value_bytes
  value-back (vleaf (kbool b)) rest t_bool = rw (bool-exact.back b rest tt)
  value-back (vleaf (kint i)) rest (t_int w) = rw (int-exact.back i rest w)
  value-back (vcon t c ws) rest (t_con i j us) = rw ((index-exact (length P.types)).back t _ i, (index-exact (length (constructors_of P t))).back c _ j, trees-back _ ws rest us)

  -- what stands behind the code b of a form is read as it must be; behind every other code nothing is
  abbrev Reading : ℕ → Form → Type 0
  Reading b form = Behind value_bytes (WithinTree P (suc n)) (one b) (value_behind P (value_at n P) form)

  bool-forth : Reading expr_bool bool_form
  unfolding value_behind value_bytes
  bool-forth = next bool-exact.forth λ b u. done t_bool refl

  int-forth : Reading expr_int int_form
  unfolding value_behind value_bytes
  int-forth = next int-exact.forth λ i u. done (t_int u) refl

  con-forth : Reading expr_construct con_form
  unfolding value_behind value_bytes
  con-forth =
      next (index-exact (length P.types)).forth λ t u.
      next (index-exact (length (constructors_of P t))).forth λ c v.
      next (trees-forth (length (fields_of P t c))) λ ws us. done (t_con u v us) refl

  value-forth : Behind value_bytes (WithinTree P (suc n)) [] (value_at (suc n) P)
  unfolding value_at value_behind
  value-forth =
      coded (entry bool-forth (entry int-forth (entry never (entry never (entry never (entry never (entry never (entry never (
      entry never (entry con-forth (entry never (entry never (entry never no_entry)))))))))))))

pub value-exact : (P : File) (n : ℕ) → Exact (value_at n P) value_bytes (WithinTree P n)
unfolding value_at
value-exact P zero = record { back = λ v rest w. elim w [ ]; forth = never }
value-exact P (suc n) = record { back = value-back P n (value-exact P n); forth = value-forth P n (value-exact P n) }

-- ---- a value that fits its type: "without the nesting limit", the levels are at most the bytes
module _ {P : File} where
  mutual
    unfolding value_bytes int_bytes

    pub has_within : {v : Tree} {τ : Ty} → TreeHas P v τ → (n : ℕ) → length (value_bytes v) ≤ n → WithinTree P n v
    has_within has_bool zero le = absurd (omega arith)
    has_within has_bool (suc n) le = t_bool
    has_within (has_int less) zero le = absurd (omega arith)
    has_within (has_int less) (suc n) le = t_int less
    has_within (has_named x small) n le = val-within x n le

    val-within : {v : Tree} {t j : ℕ} → TreeVal P v t j → (n : ℕ) → length (value_bytes v) ≤ n → WithinTree P n v
    val-within (val_con known fields size) zero le = absurd (omega arith)
    val-within (val_con {t} {c} {ws} known fields size) (suc n) le =
        t_con (look-inner-less P.types t c known) (look-less (constructors_of P t) c known) (
        subst (λ fs. WithinTrees P n (length fs) ws) (sym (look-get_d (constructors_of P t) c [] known)) (fields_within fields n (omega arith)))

    fields_within : {t : ℕ} {fs : List Field} {ws : Trees} {ks : List ℕ} → FieldTrees P t fs ws ks → (n : ℕ) → length (values_bytes ws) ≤ n → WithinTrees P n (length fs) ws
    fields_within fields_nil n le = ts_nil
    fields_within (fields_bool {w} {ws} x r) n le = let sum = length-append (value_bytes w) (values_bytes ws) in ts_cons (has_within x n (omega arith)) (fields_within r n (omega arith))
    fields_within (fields_int {w} {ws} x r) n le = let sum = length-append (value_bytes w) (values_bytes ws) in ts_cons (has_within x n (omega arith)) (fields_within r n (omega arith))
    fields_within (fields_own {w} {ws} x r) n le = let sum = length-append (value_bytes w) (values_bytes ws) in ts_cons (val-within x n (omega arith)) (fields_within r n (omega arith))
    fields_within (fields_other {w} {ws} x r) n le = let sum = length-append (value_bytes w) (values_bytes ws) in ts_cons (has_within x n (omega arith)) (fields_within r n (omega arith))

-- ---- where a file has few types and constructors, a value is spelled by bytes
module _ {P : File} (few-types : length P.types ≤ byte_range) (few-constructors : (t : ℕ) → length (constructors_of P t) ≤ byte_range) where
  mutual
    unfolding value_bytes

    pub value-small : {n : ℕ} {v : Tree} → WithinTree P n v → All Byte (value_bytes v)
    value-small (t_bool {b}) = small-cons (omega arith) (small-cons (bit-small b) all_nil)
    value-small (t_int {i} less) = small-cons (omega arith) (int_small i)
    value-small (t_con {t} i j us) = small-cons (omega arith) (small-cons (omega arith) (small-cons (omega (arith, few-constructors t)) (values-small us)))

    values-small : {n m : ℕ} {ws : Trees} → WithinTrees P n m ws → All Byte (values_bytes ws)
    values-small ts_nil = all_nil
    values-small (ts_cons u us) = all_append (value-small u) (values-small us)

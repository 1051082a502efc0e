-- Values and heaps: figure 2 of the paper, v ::= c | χ[k](l..). A heap is a list of cells, each naming lower ones; evaluation
-- only appends. "A channel's value is the tree written out from its cell": the trees of a heap are a fold over it.
use Rattle.std.specs.Prelude.{ℕ, ◌+◌, ◌-◌, ◌*◌, ◌%◌, List, [], ◌∷◌, ◌++◌, Bool, true, false, not, get_or, ltb, leb, eqb}
use Rattle.language.specs.Limits.{int_range, sign_bit}
use Rattle.language.specs.Result.{both, one_of}
use Rattle.language.specs.Syntax.{Field, fbool, fint, own, other, Plain, pbool, pint, Op, oadd, osub, omul, oeq, olt, ole, oand, oor}

-- a constant: a Bool, or the 32 bits of an Int
pub data Constant : Type 0 where
  kbool : Bool → Constant
  kint : ℕ → Constant

-- a cell: a constant, or a constructor c of type t with its size and its fields' cells
pub data Cell : Type 0 where
  leaf : Constant → Cell
  con : ℕ → ℕ → ℕ → List ℕ → Cell

mutual
  pub data Tree : Type 0 where
    vleaf : Constant → Tree
    vcon : ℕ → ℕ → Trees → Tree

  pub data Trees : Type 0 where
    vnil : Trees
    vcons : Tree → Trees → Trees

-- ---- operators: "Int is 32 bits, and sums, differences and products wrap"; comparisons are signed
unfoldable pub constant_type : Constant → Plain
constant_type (kbool b) = pbool
constant_type (kint n) = pint

unfoldable pub truth : Constant → Bool
truth (kbool b) = b
truth (kint n) = false

unfoldable pub number : Constant → ℕ
number (kbool b) = 0
number (kint n) = n

-- the order of two's complement is that of the bits with the sign turned over
unfoldable pub signed_less : ℕ → ℕ → Bool
signed_less a b = ltb ((a + sign_bit) % int_range) ((b + sign_bit) % int_range)

unfoldable pub apply_op : Op → Constant → Constant → Constant
apply_op oadd x y = kint ((number x + number y) % int_range)
apply_op osub x y = kint ((number x + (int_range - number y)) % int_range)
apply_op omul x y = kint ((number x * number y) % int_range)
apply_op oeq x y = kbool (eqb (number x) (number y))
apply_op olt x y = kbool (signed_less (number x) (number y))
apply_op ole x y = kbool (not (signed_less (number y) (number x)))
apply_op oand x y = kbool (both (truth x) (truth y))
apply_op oor x y = kbool (one_of (truth x) (truth y))

-- whether the left side alone decides: document 02, R-2, "`06` evaluates its right side only when the left is true, `07` only when the
-- left is false"
unfoldable pub decides : Op → Bool → Bool
decides oadd b = false
decides osub b = false
decides omul b = false
decides oeq b = false
decides olt b = false
decides ole b = false
decides oand b = not b
decides oor b = b

-- ---- cells of a heap
abbrev pub cell_at : List Cell → ℕ → Cell
cell_at h l = get_or h l (leaf (kbool false))

unfoldable pub constant_in : Cell → Constant
constant_in (leaf x) = x
constant_in (con t c k ls) = kbool false

unfoldable pub constructor_in : Cell → ℕ
constructor_in (leaf x) = 0
constructor_in (con t c k ls) = c

unfoldable pub size_in : Cell → ℕ
size_in (leaf x) = 0
size_in (con t c k ls) = k

unfoldable pub fields_in : Cell → List ℕ
fields_in (leaf x) = []
fields_in (con t c k ls) = ls

-- the sizes at the own-type fields, summed
unfoldable pub own_sum : List Cell → List Field → List ℕ → ℕ
own_sum h [] ls = 0
own_sum h (f ∷ fs) [] = 0
own_sum h (fbool ∷ fs) (l ∷ ls) = own_sum h fs ls
own_sum h (fint ∷ fs) (l ∷ ls) = own_sum h fs ls
own_sum h (own ∷ fs) (l ∷ ls) = size_in (cell_at h l) + own_sum h fs ls
own_sum h (other t k ∷ fs) (l ∷ ls) = own_sum h fs ls

-- no field above its k
unfoldable pub fields_within_of : List Cell → List Field → List ℕ → Bool
fields_within_of h [] ls = true
fields_within_of h (f ∷ fs) [] = true
fields_within_of h (fbool ∷ fs) (l ∷ ls) = fields_within_of h fs ls
fields_within_of h (fint ∷ fs) (l ∷ ls) = fields_within_of h fs ls
fields_within_of h (own ∷ fs) (l ∷ ls) = fields_within_of h fs ls
fields_within_of h (other t k ∷ fs) (l ∷ ls) = both (leb (size_in (cell_at h l)) k) (fields_within_of h fs ls)

-- ---- trees of a heap: the next cell's from those so far
unfoldable pub trees_at : List Tree → List ℕ → Trees
trees_at ts [] = vnil
trees_at ts (l ∷ ls) = vcons (get_or ts l (vleaf (kbool false))) (trees_at ts ls)

unfoldable pub tree_of : List Tree → Cell → Tree
tree_of ts (leaf x) = vleaf x
tree_of ts (con t c k ls) = vcon t c (trees_at ts ls)

unfoldable pub grow : List Tree → List Cell → List Tree
grow ts [] = ts
grow ts (c ∷ cs) = grow (ts ++ (tree_of ts c ∷ [])) cs

unfoldable pub trees : List Cell → List Tree
trees h = grow [] h

-- a location's value
abbrev pub tree_at : List Cell → ℕ → Tree
tree_at h l = get_or (trees h) l (vleaf (kbool false))

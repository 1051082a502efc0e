-- A file within the limits: each type, function, input and node by its number, in the scope that its place in the file gives it.
use Rattle.std.specs.Prelude.{ℕ, zero, suc, ◌+◌, ◌<◌, List, [], ◌∷◌, ◌++◌, ◌≡◌, length, get_or, take}
use Rattle.std.proofs.Common.{append-nil, add-zero, zero-add, arith}
use Rattle.std.proofs.Math.Option.{some}
use Rattle.std.proofs.Math.ListN.{get_elem? as look}
use Rattle.std.proofs.Math.Seq.{append_snoc}
use Rattle.language.specs.Syntax.{TypeDef, Function, Input, Node, File}
use Rattle.language.specs.Within.{WithinType, WithinTypes, wt_nil, wt_cons, WithinFunction, WithinFunctions, wf_nil, wf_cons, WithinInput, WithinNode, Within}
use Rattle.theory.specs.Lists.{none-is-not-some}
use Rattle.theory.specs.Alls.{all-at}

type_at : {ds : List TypeDef} (earlier : ℕ) → WithinTypes earlier ds → (t : ℕ) → t < length ds → WithinType (earlier + t) (get_or ds t [])
type_at earlier wt_nil t less = absurd (omega arith)
type_at earlier (wt_cons w ws) zero less = rw (add-zero earlier) w
type_at earlier (wt_cons w ws) (suc t) less = let on : suc earlier + t ≡ earlier + suc t = omega arith in rw on at (type_at (suc earlier) ws t (omega arith))

-- the functions before it are those before the list, and those in the list before it
function-at : {types : List TypeDef} {Fs : List Function} {F : Function} (earlier : List Function) → WithinFunctions types earlier Fs → (f : ℕ) → look Fs f ≡ some F → WithinFunction types (earlier ++ take f Fs) F
function-at earlier wf_nil f e = none-is-not-some e
function-at {types} {F} earlier (wf_cons {F = G} w ws) zero e = let same : G ≡ F = cc in rw (append-nil earlier) (rw same at w)
function-at {types} {F} earlier (wf_cons {F = G} {Fs = Fs} w ws) (suc f) e = rw (append_snoc earlier G (take f Fs)) at (function-at (earlier ++ (G ∷ [])) ws f e)

module _ {P : File} (w : Within P) where
  pub type-within : (t : ℕ) → t < length P.types → WithinType t (get_or P.types t [])
  type-within t less = rw (zero-add t) at (type_at 0 w.types t less)

  pub function-within : (f : ℕ) {F : Function} → look P.functions f ≡ some F → WithinFunction P.types (take f P.functions) F
  function-within f e = function-at [] w.functions f e

  pub input-within : (c : ℕ) {i : Input} → look P.inputs c ≡ some i → WithinInput P i
  input-within c e = all-at w.inputs c e

  pub node-within : (m : ℕ) {n : Node} → look P.nodes m ≡ some n → WithinNode P n
  node-within m e = all-at w.nodes m e

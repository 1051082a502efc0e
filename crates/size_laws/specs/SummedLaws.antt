-- Initial values and updates as the definition takes them are the expressions of channels with their numbers summed as they come.
use Rattle.std.specs.Prelude.{ℕ, suc, List, [], ◌∷◌, map, ◌≡◌, refl}
use Rattle.std.proofs.Common.{ap, ◌∙◌}
use Rattle.language.specs.Result.{ok, bind}
use Rattle.language.specs.Syntax.{Ty, Expr, Node, File, declared_types}
use Rattle.language.specs.Estimate.{Estimate, after}
use Rattle.language.specs.Checker.{Instance, Counted, SizedFile, sized_channel, sized_initials, sized_updates}
use Rattle.language.specs.Cells.{updates_numbers}
use Rattle.size_laws.specs.FileParts.{summed}
use Rattle.size_laws.specs.Sums.{after-after, after_none, through}

-- ---- initial values
pub initials-are : (P : File) (x : Estimate) (c : ℕ) (es : List Expr) (τs : List Ty) (L : List Instance) → sized_initials P c es τs L ≡ bind (summed P [] x c es τs L) (λ q. ok q.list)
unfolding sized_initials summed bind
initials-are P x c [] τs L = refl
initials-are P x c (e ∷ es) [] L = refl
initials-are P x c (e ∷ es) (τ ∷ τs) L =
    through (sized_channel P c [] e τ L) (λ (q : Counted). sized_initials P (suc c) es τs q.list) (λ (q : Counted). summed P [] (after x q.numbers) (suc c) es τs q.list) (λ (q : Counted). ok q.list)
    (λ q. initials-are P (after x q.numbers) (suc c) es τs q.list)

-- ---- updates, behind the numbers x
abbrev pub totalled : Estimate → SizedFile → Counted
totalled x r = record { numbers = after x (updates_numbers r.updates); list = r.list }

abbrev with_first : Estimate → SizedFile → SizedFile
with_first x r = record { updates = x ∷ r.updates; list = r.list }

pub updates-are : (P : File) (x : Estimate) (c : ℕ) (ns : List Node) (L : List Instance) →
    summed P (declared_types P) x c (map (λ (n : Node). n.update) ns) (map (λ (n : Node). n.declared) ns) L ≡ bind (sized_updates P c ns L) (λ r. ok (totalled x r))
unfolding sized_updates summed bind updates_numbers
updates-are P x c [] L = ap (λ y. ok (record { numbers = y; list = L })) (after_none x)
updates-are P x c (n ∷ ns) L =
    through (sized_channel P c (declared_types P) n.update n.declared L) (λ (q : Counted). summed P (declared_types P) (after x q.numbers) (suc c) (map (λ (m : Node). m.update) ns) (map (λ (m : Node). m.declared) ns) q.list)
    (λ (q : Counted). bind (sized_updates P (suc c) ns q.list) (λ (r : SizedFile). ok (with_first q.numbers r))) (λ (r : SizedFile). ok (totalled x r))
    (λ q. updates-are P (after x q.numbers) (suc c) ns q.list
    ∙ through (sized_updates P (suc c) ns q.list) (λ (r : SizedFile). ok (totalled (after x q.numbers) r)) (λ (r : SizedFile). ok (with_first q.numbers r)) (λ (r : SizedFile). ok (totalled x r))
    (λ r. ap (λ y. ok (record { numbers = y; list = r.list })) (after-after x q.numbers (updates_numbers r.updates))))

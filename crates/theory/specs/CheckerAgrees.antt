-- The size checker agrees with figures 5 to 7 on every file within the limits. What it accepts is derived with the same numbers.
-- What is derived it accepts with the same numbers, unless the derivation needs more than 1,024 different instances; then it
-- refuses with 14. Its list holds each instance of the derivation once, and no other.
use Rattle.std.specs.Prelude.{ℕ, ◌≤◌, ◌↔◌, ◌≡◌, refl, length}
use mathlib.Core.List.{List, [], Memᴰ as In}
use Rattle.std.proofs.Common.{ap, ◌∙◌, arith, length-append}
use Rattle.std.proofs.lemmas.List.{length-map}
use Rattle.language.specs.Limits.{instances_most}
use Rattle.language.specs.Refusals.{too_many_instances}
use Rattle.language.specs.Result.{Result, ok, no}
use Rattle.language.specs.Syntax.{File, declared_types, initial_values}
use Rattle.language.specs.Estimate.{Estimate}
use Rattle.language.specs.Typing.{WellSized}
use Rattle.language.specs.Checker.{Instance, SizedFile, sized_file}
use Rattle.language.specs.Instances.{Key, Distinct, MoreThan, AtMost, Needed, instances_of_initials, instances_of_file}
use Rattle.language.specs.Acceptance.{FewInstances}
use Rattle.language.specs.Within.{All, Within}
use Rattle.theory.specs.Alls.{all_in, all_left, all-member, all_right}
use Rattle.theory.specs.Outcomes.{Outcome, accepted, refused, Whatever, when-accepted, when-refused, outcome-map, bind-outcome}
use Rattle.theory.specs.Different.{not-more-and-at-most}
use Rattle.theory.specs.Calls.{Ordered, within-ordered}
use Rattle.theory.specs.Instances.{key_of, keys_of}
use Rattle.theory.specs.InstanceList.{settled-start, settled-grown}
use Rattle.theory.specs.AcceptedDerived.{Done}
use Rattle.theory.specs.DerivedAccepted.{TooMany, listed_then}
use Rattle.theory.specs.ChannelsAgree.{initials-derived, updates-derived, initials-agree, updates-agree}

-- ---- accepted, so derived
pub record Accepted (P : File) (q : SizedFile) : Type 0 where
  pub sizes : WellSized P q.updates
  -- the numbers of each record are those of a derivation of its body
  pub bodies : All (Done P) q.list
  pub once : Distinct (keys_of q.list)
  pub few : length q.list ≤ instances_most

an-initial-each : (P : File) → length (initial_values P) ≡ length (declared_types P)
an-initial-each P = simp (length-append, length-map)

accepted-outcome : (P : File) → Ordered P → Outcome (Accepted P) Whatever (sized_file P)
unfolding sized_file
accepted-outcome P ordered = bind-outcome (initials-derived P ordered 0 (initial_values P) (declared_types P) [] (an-initial-each P) settled-start) (λ L _ x.
    let s = settled-grown x.grown settled-start in
    outcome-map (λ q y. let t = settled-grown y.grown s in
    record { sizes = record { initials = x.typing; updates = y.typing }; bodies = t.all; once = t.tidy.once; few = t.tidy.few }) (updates-derived P ordered (length P.inputs) P.nodes L s))

pub accepted-is-derived : {P : File} {q : SizedFile} → Within P → sized_file P ≡ ok q → Accepted P q
accepted-is-derived {P} within is = when-accepted (accepted-outcome P (within-ordered within)) is

-- ---- derived, so accepted, or too many instances
pub record Exactly {P : File} {xs : List Estimate} (w : WellSized P xs) (q : SizedFile) : Type 0 where
  pub numbers : q.updates ≡ xs
  pub instances : (k : Key) → In k (keys_of q.list) ↔ Needed w k

pub derived-is-accepted : {P : File} {xs : List Estimate} → Within P → (w : WellSized P xs) → Outcome (Exactly w) (TooMany (Needed w) instances_most) (sized_file P)
unfolding sized_file instances_of_file
derived-is-accepted {P} within w =
    let ordered = within-ordered within in
    let initials = instances_of_initials w.initials in
    let all : All (Needed w) (instances_of_file w) = all_in (instances_of_file w) (λ k i. i) in
    bind-outcome (initials-agree P ordered (Needed w) w.initials [] (all_left initials _ all) settled-start) (λ L _ x.
    outcome-map (λ q y. let l = listed_then x y.listed in
    record { numbers = y.numbers; instances = λ k. (all-member l.grown.tidy.wanted, all-member l.stand) })
    (updates-agree P ordered (Needed w) w.updates L (all_right initials _ all) (settled-grown x.grown settled-start)))

-- the only refusal of a file whose sizes are derived is 14, and then the derivation needs more than 1,024 different instances
pub refused-is-too-many : {P : File} {xs : List Estimate} {n frame : ℕ} → Within P → (w : WellSized P xs) → sized_file P ≡ no n frame → TooMany (Needed w) instances_most n frame
refused-is-too-many within w is = when-refused (derived-is-accepted within w) is

-- a file that is accepted needs no more
accepted-needs-few : {P : File} {xs : List Estimate} {q : SizedFile} → Within P → (w : WellSized P xs) → sized_file P ≡ ok q → AtMost instances_most (Needed w)
accepted-needs-few {P} {q} within w is =
    let d = accepted-is-derived within is in
    let e = when-accepted (derived-is-accepted within w) is in
    record { these = keys_of q.list; few = omega (arith, d.few, length-map q.list key_of); all = λ k. (e.instances k).1 }

-- ---- both ways
pub record Accepts (P : File) (xs : List Estimate) : Type 0 where
  pub list : List Instance
  pub is : sized_file P ≡ ok (record { updates = xs; list = list })

pub record Refuses (P : File) (n : ℕ) : Type 0 where
  pub frame : ℕ
  pub is : sized_file P ≡ no n frame

accepted-few : {P : File} {xs : List Estimate} → Within P → Accepts P xs → FewInstances P xs
accepted-few within a = let w = (accepted-is-derived within a.is).sizes in record { sizes = w; few = accepted-needs-few within w a.is }

few-accepted : {P : File} {xs : List Estimate} → Within P → FewInstances P xs → Accepts P xs
few-accepted {P} {xs} within f = go (sized_file P) refl (derived-is-accepted within f.sizes)
  where
    go : (r : Result SizedFile) → sized_file P ≡ r → Outcome (Exactly f.sizes) (TooMany (Needed f.sizes) instances_most) r → Accepts P xs
    go (ok q) is (accepted x) = record { list = q.list; is = is ∙ (λ i. ok (record { updates = x.numbers i; list = q.list })) }
    go (no n frame) is (refused x) = absurd (not-more-and-at-most x.more f.few)

-- a file is accepted with numbers exactly if they are derived with at most 1,024 different instances
pub accepted-iff-few : {P : File} → Within P → (xs : List Estimate) → Accepts P xs ↔ FewInstances P xs
accepted-iff-few within xs = (accepted-few within, few-accepted within)

many-refused : {P : File} {xs : List Estimate} → Within P → (w : WellSized P xs) → MoreThan instances_most (Needed w) → Refuses P too_many_instances
many-refused {P} within w many = go (sized_file P) refl (derived-is-accepted within w)
  where
    go : (r : Result SizedFile) → sized_file P ≡ r → Outcome (Exactly w) (TooMany (Needed w) instances_most) r → Refuses P too_many_instances
    go (ok q) is (accepted x) = absurd (not-more-and-at-most many (accepted-needs-few within w is))
    go (no n frame) is (refused x) = record { frame = frame; is = is ∙ ap (λ m. no m frame) x.is }

-- a file whose sizes are derived is refused with 14 exactly if the derivation needs more than 1,024 different instances
pub refused-iff-many : {P : File} {xs : List Estimate} → Within P → (w : WellSized P xs) → Refuses P too_many_instances ↔ MoreThan instances_most (Needed w)
refused-iff-many within w = ((λ r. (refused-is-too-many within w r.is).more), many-refused within w)

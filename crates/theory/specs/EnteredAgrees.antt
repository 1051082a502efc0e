-- A derived body that is entered is accepted with the same numbers, or the derivation needs more instances than may be entered.
use Prim.Native.Nat.{ℕ, zero, suc, ◌≤◌, ◌<◌}
use Rattle.std.specs.Prelude.{List, [], ◌∷◌, ◌++◌, ◌≡◌, refl, length, set}
use Rattle.std.proofs.Math.Option.{none, some}
use Rattle.std.proofs.Common.{subst, arith}
use Rattle.std.proofs.lemmas.List.{length-map}
use Rattle.std.proofs.Math.ListN.{get_elem? as look}
use borrow.Author.Tests.{ltb-true, ltb-false}
use Rattle.language.specs.Result.{ok}
use Rattle.language.specs.Syntax.{Ty, Function, File}
use Rattle.language.specs.Sizes.{type_at, summed_measure}
use Rattle.language.specs.Estimate.{Estimate, nothing}
use Rattle.language.specs.Typing.{Place, inside}
use Rattle.language.specs.Checker.{Instance, Sized, Enter, find, enter_at}
use Rattle.language.specs.Within.{All, all_cons}
use Rattle.theory.specs.Outcomes.{Outcome, accepted, refused, when-accepted, bind-outcome, need-outcome, need-holds}
use Rattle.theory.specs.CheckerSteps.{found_or-outcome, body_run}
use Rattle.theory.specs.SameTests.{type-same}
use Rattle.theory.specs.Alls.{all_map, all_in}
use Rattle.theory.specs.Different.{distinct_cons}
use Rattle.theory.specs.Calls.{Ordered}
use Rattle.language.specs.Instances.{Key, key, instances_of}
use Rattle.theory.specs.Instances.{entered, key_of, keys_of, BodyTyping}
use Rattle.theory.specs.InstanceList.{Ready, none-left-is-full, grown-not, found-is-finished, key-stands, found-stands, not-found-is-new, ready-entered, grown-left, left-keys, left-stands, AnyKey}
use Rattle.theory.specs.DerivedAccepted.{Stand, Sole, sole-lasts, TooMany, Same, SameCount, ReadyFor, EntersAgree, agrees}

-- a list is ready whatever is wanted
ready-any : {P : File} {D : List Instance → Instance → Type 0} {K : Key → Type 0} {most left : ℕ} {p : Place} {L : List Instance} → Ready P D K most left p L →
    Ready P D AnyKey most left p L
ready-any rd = record { known = rd.known; tidy = record { once = rd.tidy.once; few = rd.tidy.few; fuel = rd.tidy.fuel; wanted = all_map (λ k x. tt) rd.tidy.wanted } }

-- what holds of every derivation of a body holds of every derivation of the same body
same-bodies : {P : File} {F G : Function} {σ τ : Ty} (C : Estimate → List Key → Type 0) (g : ℕ) (ks : List ℕ) → F ≡ G → σ ≡ τ →
    ((n : Estimate) (d : BodyTyping P g F ks σ n) → C n (instances_of d)) → (n : Estimate) (d : BodyTyping P g G ks τ n) → C n (instances_of d)
same-bodies {P} {G} {σ} C g ks p q h =
    subst (λ ρ. (n : Estimate) (d : BodyTyping P g G ks ρ n) → C n (instances_of d)) q (subst (λ H. (n : Estimate) (d : BodyTyping P g H ks σ n) → C n (instances_of d)) p h)

-- an instance that was found
found-agrees : {P : File} {K : Key → Type 0} {most left : ℕ} {F : Function} {τ : Ty} {m n : Estimate} (g : ℕ) (ks : List ℕ) (L : List Instance) → look P.functions g ≡ some F →
    type_at ks F.result ≡ some τ →
    (d : BodyTyping P g F ks τ n) → ReadyFor P K most left (inside g (suc (summed_measure F.measure ks))) L → find L g ks ≡ some m →
    SameCount P K most left n (key g ks ∷ instances_of d) L (record { numbers = m; list = L })
found-agrees {F} {τ} {n} g ks L l fits d rd e =
    let s = found-is-finished g ks L l rd.known e in
    record { numbers = s.numbers F τ n l fits d; listed = record { grown = grown-not rd.tidy; stand = all_cons (key-stands (found-stands g ks L e)) (s.stand F τ n l fits d) } }

-- a list that is full, and an instance more
full-list : {P : File} {D : List Instance → Instance → Type 0} {K : Key → Type 0} {most left : ℕ} {p : Place} {frame : ℕ} (g : ℕ) (ks : List ℕ) (L : List Instance) →
    Ready P D K most left p L →
    K (key g ks) → find L g ks ≡ none → most ≤ length L → TooMany K most 14 frame
full-list g ks L rd wanted new full = record {
  is = refl;
  more = record {
    these = key g ks ∷ keys_of L;
    distinct = distinct_cons (not-found-is-new g ks L new) rd.tidy.once;
    many = omega (arith, length-map L key_of);
    all = all_cons wanted rd.tidy.wanted;
  };
}

-- ---- an instance that is new
-- a body that was checked: every derivation of it has the numbers that were found
left-sole : {P : File} {most left : ℕ} {F : Function} {τ : Ty} {q : Sized} (g : ℕ) (ks : List ℕ) (L : List Instance) → look P.functions g ≡ some F → type_at ks F.result ≡ some τ →
    ((n : Estimate) (d : BodyTyping P g F ks τ n) → Same P AnyKey most left τ n (instances_of d) (L ++ (entered g ks nothing ∷ [])) q) →
    Sole P (set q.list (length L) (entered g ks q.numbers)) (entered g ks q.numbers)
left-sole {P} {most} {left} {F} {τ} {q} g ks L l fits h = record {
  numbers = λ G σ n k f d. let p : F ≡ G = cc in let s : τ ≡ σ = cc in same-bodies (λ m is. q.numbers ≡ m) g ks p s (λ m c. (h m c).numbers) n d;
  stand = λ G σ n k f d. let p : F ≡ G = cc in let s : τ ≡ σ = cc in same-bodies (λ m is. Stand N is) g ks p s
      (λ m c. rw (left-keys L (entered g ks nothing) (entered g ks q.numbers) refl (h m c).listed.grown) (h m c).listed.stand) n d;
}
  where
    N : List Instance
    N = set q.list (length L) (entered g ks q.numbers)

-- its record filled in
filled-agrees : {P : File} {most left : ℕ} {K : Key → Type 0} {τ : Ty} {n : Estimate} {is : List Key} {q : Sized} (g : ℕ) (ks : List ℕ) (L : List Instance) →
    Sole P (set q.list (length L) (entered g ks q.numbers)) (entered g ks q.numbers) →
    Same P K most left τ n is (L ++ (entered g ks nothing ∷ [])) q →
    SameCount P K most (suc left) n (key g ks ∷ is) L (record { numbers = q.numbers; list = set q.list (length L) (entered g ks q.numbers) })
filled-agrees {q} g ks L s x =
    let keys = left-keys L (entered g ks nothing) (entered g ks q.numbers) refl x.listed.grown in
    record {
      numbers = x.numbers;
      listed = record {
        grown = grown-left L (entered g ks nothing) (entered g ks q.numbers) refl x.listed.grown sole-lasts s;
        stand = rw keys (all_cons (left-stands L (entered g ks nothing) (entered g ks q.numbers) refl x.listed.grown) x.listed.stand);
      };
    }

module _ {P : File} {enter : Enter} {most left : ℕ} (ordered : Ordered P) (en : EntersAgree P enter most left) where
  body-agrees : {F : Function} {τ : Ty} {n : Estimate} (K : Key → Type 0) (g : ℕ) (ks : List ℕ) (L : List Instance) → look P.functions g ≡ some F → find L g ks ≡ none → length L < most →
      (d : BodyTyping P g F ks τ n) → K (key g ks) → All K (instances_of d) → ReadyFor P K most (suc left) (inside g (suc (summed_measure F.measure ks))) L →
      Outcome (Same P K most left τ n (instances_of d) (L ++ (entered g ks nothing ∷ []))) (TooMany K most) (body_run P enter g F ks L)
  body-agrees {F} K g ks L l new less d wanted all rd = (agrees en K d (ordered.calls g F l) all).runs _ (ready-entered sole-lasts g ks l new less wanted rd)

  body-sole : {K : Key → Type 0} {F : Function} {τ : Ty} {q : Sized} (g : ℕ) (ks : List ℕ) (L : List Instance) → look P.functions g ≡ some F → type_at ks F.result ≡ some τ →
      find L g ks ≡ none → length L < most →
      ReadyFor P K most (suc left) (inside g (suc (summed_measure F.measure ks))) L →
      body_run P enter g F ks L ≡ ok q →
      Sole P (set q.list (length L) (entered g ks q.numbers)) (entered g ks q.numbers)
  body-sole g ks L l fits new less rd e = left-sole g ks L l fits (λ n d. when-accepted (body-agrees AnyKey g ks L l new less d tt (all_in _ (λ k i. tt)) (ready-any rd)) e)

-- ---- every body
module _ (P : File) (most : ℕ) (ordered : Ordered P) where
  pub enters-agree : (left : ℕ) → EntersAgree P (enter_at P most left) most left
  unfolding enter_at
  enters-agree zero = record {
    enters = λ K frame g F ks τ n l fits d wanted all. record {
      runs = λ L rd. found_or-outcome (find L g ks) L
          (λ m e. found-agrees g ks L l fits d rd e) (λ new. refused (full-list g ks L rd wanted new (none-left-is-full rd.tidy)));
    };
  }
  enters-agree (suc left) = record {
    enters = λ K frame g F ks τ n l fits d wanted all. record {
      runs = λ L rd. found_or-outcome (find L g ks) L
          (λ m e. found-agrees g ks L l fits d rd e)
          (λ new. need-outcome _ _ _ (λ b. full-list g ks L rd wanted new (ltb-false _ _ b)) (λ b. let less = ltb-true _ _ b in
          bind-outcome (body-agrees ordered (enters-agree left) K g ks L l new less d wanted all rd) (λ q e x. need-holds _ _ (type-same x.type)
          (accepted (filled-agrees g ks L (body-sole ordered (enters-agree left) g ks L l fits new less rd e) x)))));
    };
  }

-- The members of a list below a number, in order, each once; and how many they are below each of them.
use Prim.Native.Nat.{ℕ, zero, suc, ◌+◌, ◌-◌, ◌≤◌, ◌<◌}
use Rattle.std.specs.Prelude.{List, [], ◌∷◌, ◌++◌, Bool, ◌≡◌, length}
use Rattle.std.proofs.Common.{append-nil, sym, ◌∙◌, arith, suc-add, length-append}
use Rattle.std.proofs.Math.Bool.{true, false}
use Rattle.std.proofs.Math.Option.{some}
use Rattle.std.proofs.Math.Path.{refl, ap}
use Rattle.std.proofs.Math.Nat.{zero-add}
use Rattle.std.proofs.Math.ListN.{get_elem? as look}
use Rattle.language.specs.Result.{choose}
use Rattle.language.specs.Slide.{mem}
use Rattle.theory.specs.Lists.{none-is-not-some, look-new, look-append}
use Rattle.theory.specs.Places.{below-or-last, look-snoc-cases}

unfoldable pub members_below : List ℕ → ℕ → List ℕ
members_below R zero = []
members_below R (suc n) = members_below R n ++ choose (mem n R) (n ∷ []) []

-- how many members are below n
abbrev pub rank : List ℕ → ℕ → ℕ
rank R n = length (members_below R n)

module _ (R : List ℕ) where
  pub member-next : (n : ℕ) → mem n R ≡ true → members_below R (suc n) ≡ members_below R n ++ (n ∷ [])
  unfolding members_below choose
  member-next n e = rw e

  pub no-member-next : (n : ℕ) → mem n R ≡ false → members_below R (suc n) ≡ members_below R n
  unfolding members_below choose
  no-member-next n e = rw e (append-nil (members_below R n))

  pub rank-next : (n : ℕ) → rank R (suc n) ≡ choose (mem n R) (suc (rank R n)) (rank R n)
  unfolding choose
  rank-next n = cases (mem n R) refl
    where
      cases : (b : Bool) → mem n R ≡ b → rank R (suc n) ≡ choose b (suc (rank R n)) (rank R n)
      cases true e = rw (member-next n e, length-append) (omega arith)
      cases false e = rw (no-member-next n e)

  pub rank-member : (n : ℕ) → mem n R ≡ true → rank R (suc n) ≡ suc (rank R n)
  unfolding choose
  rank-member n e = rank-next n ∙ ap (λ b. choose b (suc (rank R n)) (rank R n)) e

  rank-grows : (j n : ℕ) → rank R n ≤ rank R (j + n)
  unfolding members_below
  rank-grows zero n = rw zero-add (omega arith)
  rank-grows (suc j) n = rw (suc-add, length-append) (omega (arith, rank-grows j n))

  -- where every number is a member
  pub full-rank : (n : ℕ) → ((i : ℕ) → i < n → mem i R ≡ true) → rank R n ≡ n
  unfolding members_below
  full-rank zero all = refl
  full-rank (suc n) all = rank-member n (all n (omega arith)) ∙ ap suc (full-rank n (λ i less. all i (omega arith)))

  -- members keep their order
  pub rank_less : (l n : ℕ) → l < n → mem l R ≡ true → rank R l < rank R n
  rank_less l n less e =
      let up : (n - suc l) + suc l ≡ n = omega arith in
      omega (arith, ap (rank R) up, rank-grows (n - suc l) (suc l), rank-member l e)

  -- a member stands at the place that is its rank, and nothing else stands there
  pub member-at-rank : (n l : ℕ) → l < n → mem l R ≡ true → look (members_below R n) (rank R l) ≡ some l
  unfolding members_below
  member-at-rank zero l less e = absurd (omega arith)
  member-at-rank (suc n) l less e = below-or-last l n less
      (λ below. look-append (members_below R n) (choose (mem n R) (n ∷ []) []) (rank R l) (member-at-rank n l below e))
      (λ last. let m : mem n R ≡ true = ap (λ x. mem x R) (sym last) ∙ e in rw (last, member-next n m) (look-new (members_below R n) n))

pub record Ranked (R : List ℕ) (n i l : ℕ) : Type 0 where
  pub low : l < n
  pub member : mem l R ≡ true
  pub rank : rank R l ≡ i

pub member-ranked : (R : List ℕ) (n i : ℕ) {l : ℕ} → look (members_below R n) i ≡ some l → Ranked R n i l
unfolding members_below
member-ranked R zero i e = none-is-not-some e
member-ranked R (suc n) i {l} e = cases (mem n R) refl (λ z. member-ranked R n i z)
  where
    higher : Ranked R n i l → Ranked R (suc n) i l
    higher r = record { low = omega (arith, r.low); member = r.member; rank = r.rank }

    cases : (b : Bool) → mem n R ≡ b → (look (members_below R n) i ≡ some l → Ranked R n i l) → Ranked R (suc n) i l
    cases true m before = look-snoc-cases (members_below R n) n i (ap (λ x. look x i) (sym (member-next R n m)) ∙ e) (λ z. higher (before z))
        (λ end same. record { low = omega (arith, same); member = ap (λ x. mem x R) (sym same) ∙ m; rank = ap (rank R) (sym same) ∙ sym end })
    cases false m before = higher (before (ap (λ x. look x i) (sym (no-member-next R n m)) ∙ e))

-- Orders that respect the readings, said by places: each node stands exactly once, and what it reads stands before it.
use Rattle.std.specs.Prelude.{ℕ, ◌<◌, List, [], ◌∷◌, ◌++◌, true, false, ◌≡◌, refl, length}
use Rattle.std.proofs.Common.{append-nil, sym, ap, ◌∙◌, subst, subst₂, arith}
use Rattle.std.proofs.Math.Seq.{append_snoc}
use Rattle.language.specs.Within.{All}
use Rattle.language.specs.Slide.{mem}
use Rattle.language.specs.Order.{read_by, Follows, f_none, f_next, Respects}
use Rattle.theory.specs.Alls.{all_right, all_first}
use Rattle.theory.specs.OrderComplete.{follow-nodes}

module _ (R : List (List ℕ)) where
  pub record Placed (is : List ℕ) : Type 0 where
    pub nodes : All (λ i. i < length R) is
    pub every : (i : ℕ) → i < length R → mem i is ≡ true
    pub once : (before behind : List ℕ) (i : ℕ) → is ≡ before ++ (i ∷ behind) → mem i before ≡ false
    pub read_before : (before behind : List ℕ) (i : ℕ) → is ≡ before ++ (i ∷ behind) → All (λ j. mem j before ≡ true) (read_by R i)

  placed-follow : {is : List ℕ} → Placed is → (done left : List ℕ) → is ≡ done ++ left → Follows R done left
  placed-follow p done [] e = f_none
  placed-follow p done (i ∷ left) e = f_next (all_first (all_right done (i ∷ left) (subst (All (λ j. j < length R)) e p.nodes))) (p.once done left i e) (p.read_before done left i e)
      (placed-follow p (done ++ (i ∷ [])) left (e ∙ sym (append_snoc done i left)))

  pub placed-respect : {is : List ℕ} → Placed is → Respects R is
  placed-respect {is} p = record { follows = placed-follow p [] is refl; every = p.every }

  -- ---- and back
  record Here (done : List ℕ) (i : ℕ) : Type 0 where
    new : mem i done ≡ false
    read : All (λ j. mem j done ≡ true) (read_by R i)

  follow-here : {done is : List ℕ} → Follows R done is → (before behind : List ℕ) (i : ℕ) → is ≡ before ++ (i ∷ behind) → Here (done ++ before) i
  follow-here f_none [] behind i e = absurd (let z : ◌≡◌ {A = ℕ} 0 1 = cc in omega arith)
  follow-here f_none (b ∷ before) behind i e = absurd (let z : ◌≡◌ {A = ℕ} 0 1 = cc in omega arith)
  follow-here (f_next {i = k} {done} less new all rest) [] behind i e = let same : k ≡ i = cc in subst₂ Here (sym (append-nil done)) same (record { new = new; read = all })
  follow-here (f_next {i = k} {done} {is} less new all rest) (b ∷ before) behind i e =
      let same : k ≡ b = cc in
      let tail : is ≡ before ++ (i ∷ behind) = cc in
      subst (λ l. Here l i) (append_snoc done k before ∙ ap (λ x. done ++ (x ∷ before)) same) (follow-here rest before behind i tail)

  pub respect-placed : {is : List ℕ} → Respects R is → Placed is
  respect-placed r = record {
    nodes = follow-nodes r.follows;
    every = r.every;
    once = λ before behind i e. (follow-here r.follows before behind i e).new;
    read_before = λ before behind i e. (follow-here r.follows before behind i e).read;
  }

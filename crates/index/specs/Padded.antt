-- Words filled up with zeros to a fixed length: reading them, writing behind the last one, and what trailing zeros change: nothing.
use Rattle.std.specs.Prelude.{ℕ, zero, suc, ◌+◌, ◌≤◌, ◌<◌, List, [], ◌∷◌, ◌++◌, ◌≡◌, refl, length, get_or, set, replicate}
use Rattle.std.proofs.Common.{append-nil, sym, ap, ◌∙◌, arith, length-append}
use Rattle.std.proofs.lemmas.List.Edits.{sets}
use Rattle.std.proofs.Math.Seq.{append_snoc}
use Rattle.language.specs.Layout.{padded}

-- nothing filled up is zeros
pub padded-none : (n : ℕ) → padded n [] ≡ replicate n 0
unfolding padded
padded-none zero = refl
padded-none (suc n) = ap (λ ws. 0 ∷ ws) (padded-none n)

padded-none-at : (n i : ℕ) → get_or (padded n []) i 0 ≡ 0
unfolding padded
padded-none-at zero i = refl
padded-none-at (suc n) zero = refl
padded-none-at (suc n) (suc i) = padded-none-at n i

-- each word is the list's, and 0 behind it
pub padded-at : (n : ℕ) (ls : List ℕ) (i : ℕ) → i < n → get_or (padded n ls) i 0 ≡ get_or ls i 0
unfolding padded
padded-at zero ls i h = absurd (omega arith)
padded-at (suc n) [] i h = padded-none-at (suc n) i
padded-at (suc n) (l ∷ ls) zero h = refl
padded-at (suc n) (l ∷ ls) (suc i) h = padded-at n ls i (omega arith)

pub padded-beyond : (n : ℕ) (ls : List ℕ) (i : ℕ) → n ≤ i → get_or (padded n ls) i 0 ≡ 0
unfolding padded
padded-beyond zero ls i h = refl
padded-beyond (suc n) [] zero h = absurd (omega arith)
padded-beyond (suc n) [] (suc i) h = padded-none-at n i
padded-beyond (suc n) (l ∷ ls) zero h = absurd (omega arith)
padded-beyond (suc n) (l ∷ ls) (suc i) h = padded-beyond n ls i (omega arith)

-- a word written over one of the list, and one written behind it
pub padded-set : (n : ℕ) (ls ms : List ℕ) (w v : ℕ) → length ls < n → set (padded n (ls ++ (w ∷ ms))) (length ls) v ≡ padded n (ls ++ (v ∷ ms))
unfolding padded
padded-set zero ls ms w v h = absurd (omega arith)
padded-set (suc n) [] ms w v h = refl
padded-set (suc n) (l ∷ ls) ms w v h = ap (λ ws. l ∷ ws) (padded-set n ls ms w v (omega arith))

-- beyond the length nothing is written, and nothing is asked for
pub padded-next : (n : ℕ) (ls : List ℕ) (v : ℕ) → set (padded n ls) (length ls) v ≡ padded n (ls ++ (v ∷ []))
unfolding padded
padded-next zero ls v = refl
padded-next (suc n) [] v = refl
padded-next (suc n) (l ∷ ls) v = ap (λ ws. l ∷ ws) (padded-next n ls v)

-- several, one after the other
pub padded-sets : (n : ℕ) (ls vs : List ℕ) → length ls + length vs ≤ n → sets (padded n ls) (length ls) vs ≡ padded n (ls ++ vs)
padded-sets n ls [] h = ap (padded n) (sym (append-nil ls))
padded-sets n ls (v ∷ vs) h =
    let on : suc (length ls) ≡ length (ls ++ (v ∷ [])) = omega (arith, length-append ls (v ∷ [])) in
    ap (λ l. sets l (suc (length ls)) vs) (padded-next n ls v) ∙ ap (λ m. sets (padded n (ls ++ (v ∷ []))) m vs) on
    ∙ padded-sets n (ls ++ (v ∷ [])) vs (omega (arith, length-append ls (v ∷ []))) ∙ ap (padded n) (append_snoc ls v vs)

-- zeros at the end are there already
padded-twice : (n k : ℕ) (ms : List ℕ) → length ms ≤ k → padded n (padded k ms) ≡ padded n ms
unfolding padded
padded-twice zero k ms h = refl
padded-twice (suc n) zero [] h = refl
padded-twice (suc n) zero (m ∷ ms) h = absurd (omega arith)
padded-twice (suc n) (suc k) [] h = ap (λ ws. 0 ∷ ws) (padded-twice n k [] (omega arith))
padded-twice (suc n) (suc k) (m ∷ ms) h = ap (λ ws. m ∷ ws) (padded-twice n k ms (omega arith))

pub padded-within : (n : ℕ) (ls : List ℕ) (k : ℕ) (ms : List ℕ) → length ms ≤ k → padded n (ls ++ padded k ms) ≡ padded n (ls ++ ms)
unfolding padded
padded-within n [] k ms h = padded-twice n k ms h
padded-within zero (l ∷ ls) k ms h = refl
padded-within (suc n) (l ∷ ls) k ms h = ap (λ ws. l ∷ ws) (padded-within n ls k ms h)

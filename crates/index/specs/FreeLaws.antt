-- Whether a type has a constructor without a field of the type itself, by its entry: the loop's way.
use Rattle.std.specs.Prelude.{ℕ, suc, ◌+◌, ◌*◌, ◌%◌, ◌≤◌, ◌<◌, true, false, ◌≡◌, refl, length, get_or, drop, eqb}
use mathlib.Core.List.{List, [], ◌∷◌}
use Rattle.std.proofs.Math.Path.{sym}
use Rattle.std.proofs.Common.{◌∙◌, add-one, arith, drop_of_length-le, drop-cons}
use borrow.Author.Tests.{ne_eqb}
use Rattle.language.specs.Limits.{byte_range}
use Rattle.language.specs.Result.{one_of}
use Rattle.language.specs.Syntax.{Field, fbool, fint, own, other, TypeDef, owns, self_free}
use Rattle.index.specs.Tables.{type_words, constructor_words}
use Rattle.index.specs.Enters.{TellsType, SelfFree}

pub owns-fewer : (fs : List Field) → owns fs ≤ length fs
unfolding owns
owns-fewer [] = omega arith
owns-fewer (fbool ∷ fs) = omega (arith, owns-fewer fs)
owns-fewer (fint ∷ fs) = omega (arith, owns-fewer fs)
owns-fewer (own ∷ fs) = omega (arith, owns-fewer fs)
owns-fewer (other t k ∷ fs) = omega (arith, owns-fewer fs)

-- the constructors before c have such fields, so those from c on decide
pub record FreeFrom (types : List ℕ) (t c : ℕ) : Type 0 where
  pub says : (d : TypeDef) → TellsType types t d → self_free d ≡ self_free (drop c d)

pub free-start : (types : List ℕ) (t : ℕ) → FreeFrom types t 0
free-start types t = record { says = λ d q. refl }

module _ {types : List ℕ} {t c n : ℕ} (a : (n ≡ get_or types (type_words * t) 0 % byte_range) × (n < byte_range)) (v : FreeFrom types t c) where
  constructors-are : (d : TypeDef) → TellsType types t d → n ≡ length d
  constructors-are d q = omega (arith, a.0, q.constructors, q.few)

  module _ {k : ℕ} (h : c < n) (b : (k ≡ get_or types (type_words * t + 2 + constructor_words * c) 0 % byte_range) × (k < byte_range)) where
    owns-are : (d : TypeDef) → TellsType types t d → k ≡ owns (get_or d c [])
    owns-are d q = let less : c < length d = omega (arith, constructors-are d q) in omega (arith, b.0, q.owns c less, q.few_fields c less, owns-fewer (get_or d c []))

    next-decides : (d : TypeDef) → TellsType types t d → self_free d ≡ one_of (eqb k 0) (self_free (drop (suc c) d))
    unfolding self_free
    next-decides d q = v.says d q ∙ rw (drop-cons d c [] (omega (arith, constructors-are d q)), owns-are d q)

    pub free-found : k ≡ 0 → SelfFree types t true
    unfolding one_of
    free-found e = record { says = λ d q. sym (next-decides d q ∙ rw e) }

    pub free_on : (k ≡ 0 → ⊥) → FreeFrom types t (c + 1)
    unfolding one_of
    free_on e = record { says = λ d q. next-decides d q ∙ rw (add-one, ne_eqb k 0 e) }

  pub free-none : n ≤ c → SelfFree types t false
  unfolding self_free
  free-none h = record { says = λ d q. sym (v.says d q ∙ rw (drop_of_length-le d {i = c} (omega (arith, constructors-are d q)))) }

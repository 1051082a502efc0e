-- A scope of the reader's in a file: its types are the file's, and what it may call are functions of the file. So for every body,
-- initial value and update of a file within the limits.
use Rattle.std.specs.Prelude.{ℕ, zero, suc, ◌<◌, List, [], ◌∷◌, ◌++◌, map, ◌≡◌, get_or, take, drop}
use Rattle.std.proofs.lemmas.List.{map-append}
use Rattle.std.proofs.Common.{append-nil, sym, ap, ◌∙◌}
use Rattle.std.proofs.Math.Option.{some}
use Rattle.std.proofs.Math.Path.{refl}
use Rattle.std.proofs.Math.ListN.{length, get_elem? as look}
use Rattle.language.specs.Limits.{nesting_most}
use Rattle.language.specs.Syntax.{Function, File}
use Rattle.language.specs.Scope.{Scope, wider, arities_of, named_count, body_scope, outer_scope}
use Rattle.language.specs.Within.{WithinExpr, Within}
use Rattle.theory.specs.Lists.{none-is-not-some, look-append}
use Rattle.encoding.specs.WithinParts.{function-within}
use Rattle.theory.specs.Places.{look_at, look-mapped}

-- function f of the file takes n arguments
pub record Takes (P : File) (f n : ℕ) : Type 0 where
  pub function : Function
  pub is : look P.functions f ≡ some function
  pub arity : n ≡ length function.parameters

pub record Known (P : File) (S : Scope) : Type 0 where
  pub types : S.types ≡ P.types
  pub functions : (f : ℕ) → f < length S.arities → Takes P f (get_or S.arities f 0)

-- ---- more variables call the same functions
pub wider-known : {P : File} {S : Scope} (v s : ℕ) → Known P S → Known P (wider v s S)
unfolding wider
wider-known v s k = record { types = k.types; functions = k.functions }

-- ---- a scope whose arities are those of the file's first functions
known-first : {P : File} {S : Scope} (Fs rest : List Function) → P.functions ≡ Fs ++ rest → S.types ≡ P.types → S.arities ≡ arities_of Fs → Known P S
known-first {P} {S} Fs rest split types arities = record { types = types; functions = takes }
  where
    takes : (f : ℕ) → f < length S.arities → Takes P f (get_or S.arities f 0)
    takes f less =
        let there = look-mapped (λ (F : Function). length F.parameters) Fs f (look_at (map (λ (F : Function). length F.parameters) Fs) f 0 (rw arities at less)) in
        record { function = there.of; is = rw split (look-append Fs rest f there.at); arity = ap (λ l. get_or l f 0) arities ∙ there.is }

pub outer-known : (P : File) (channels : ℕ) → Known P (outer_scope P.types P.functions channels)
unfolding outer_scope
outer-known P channels = known-first P.functions [] (sym (append-nil P.functions)) refl refl

-- ---- the body of a function, with the functions before it
pub record BodyKnown (P : File) (F : Function) : Type 0 where
  pub scope : Scope
  pub known : Known P scope
  pub variables : scope.variables ≡ length F.parameters
  pub sizes : scope.sizes ≡ named_count F.parameters
  pub channels : scope.channels ≡ 0
  pub within : WithinExpr nesting_most scope F.body

split_at : {A : Type 0} (l : List A) (i : ℕ) {a : A} → look l i ≡ some a → l ≡ (take i l ++ (a ∷ [])) ++ drop (suc i) l
split_at [] i e = none-is-not-some e
split_at (b ∷ l) zero {a} e = let same : b ≡ a = cc in ap (λ c. c ∷ l) same
split_at (b ∷ l) (suc i) e = ap (λ (m : List _). b ∷ m) (split_at l i e)

module _ {P : File} (w : Within P) where
  pub body-known : (f : ℕ) {F : Function} → look P.functions f ≡ some F → BodyKnown P F
  unfolding body_scope
  body-known f {F} e = record {
    scope = body_scope P.types (take f P.functions) F.parameters;
    known = known-first (take f P.functions ++ (F ∷ [])) (drop (suc f) P.functions) (split_at P.functions f e) refl (sym (map-append (λ (G : Function). length G.parameters) (take f P.functions) (F ∷ [])));
    variables = refl;
    sizes = refl;
    channels = refl;
    within = (function-within w f e).body;
  }

-- The channels that the `13`s of an expression name, gathered as the bits of a word: what is said of the word holds where each has a bit.
use Rattle.std.specs.Prelude.{ℕ, ◌^◌, ◌≤◌, ◌<◌, ◌≡◌, refl}
use mathlib.Core.List.{List, [], ◌∷◌, ◌++◌, append-nil}
use Rattle.std.proofs.Common.{sym, ◌∙◌, subst, arith}
use Rattle.std.proofs.Math.Path.{ap}
use Rattle.std.specs.Int.Bits.{bit_or, or_zero_r}
use Rattle.language.specs.Syntax.{Expr, ebool, eint, evar, enow, elast, elet, eif, eop, ecall, econ, ecase, eadj, efit, Exprs, enil, econs}
use Rattle.language.specs.Order.{readings, all_readings}
use Rattle.language.specs.Within.{All}
use Rattle.theory.specs.Alls.{all_left, all_right, all_first}
use Rattle.channel_sets.specs.Sets.{word_bits, set_of}
use Rattle.channel_sets.specs.SetLaws.{union_assoc, set-append, set_single}
use Rattle.heads.specs.Parted.{last_parts}

-- each of some channels has a bit
abbrev pub HaveBits : List ℕ → Type 0
HaveBits cs = All (λ c. c < word_bits) cs

-- a word is the set of some channels
pub record Gathers (cs : List ℕ) (set : ℕ) : Type 0 where
  pub is : HaveBits cs → set ≡ set_of cs

-- a word is another one with some channels more
pub record Joins (cs : List ℕ) (set set' : ℕ) : Type 0 where
  pub is : HaveBits cs → set' ≡ bit_or set (set_of cs)

-- ---- no channel, and one
pub gathers-none : Gathers [] 0
unfolding set_of
gathers-none = record { is = λ all. refl }

module _ (c : ℕ) where
  pub gathers-one : {set : ℕ} → set ≡ 2 ^ c → Gathers (c ∷ []) set
  gathers-one q = record { is = λ all. q ∙ sym (set_single c) }

  pub gathers-bitless : word_bits ≤ c → Gathers (c ∷ []) 0
  gathers-bitless le = record { is = λ all. absurd (omega (arith, le, all_first all)) }

-- ---- several
joins-none : (set : ℕ) → Joins [] set set
unfolding set_of
joins-none set = record { is = λ all. sym (or_zero_r set) }

module _ {cs ds : List ℕ} where
  joins-more : {set one set' : ℕ} → Gathers cs one → Joins ds (bit_or set one) set' → Joins (cs ++ ds) set set'
  joins-more {set} {one} g j = record {
    is = λ all.
        j.is (all_right cs ds all) ∙ ap (λ (x : ℕ). bit_or (bit_or set x) (set_of ds)) (g.is (all_left cs ds all)) ∙ union_assoc set (set_of cs) (set_of ds) ∙ ap (bit_or set) (sym (set-append cs ds));
  }

  gathers-more : {set set' : ℕ} → Gathers cs set → Joins ds set set' → Gathers (cs ++ ds) set'
  gathers-more g j = record { is = λ all. j.is (all_right cs ds all) ∙ ap (λ (x : ℕ). bit_or x (set_of ds)) (g.is (all_left cs ds all)) ∙ sym (set-append cs ds) }

-- ---- an expression: what it names before the parts that end it, and what these name
abbrev pub named_before : Expr → List ℕ
named_before (ebool b) = []
named_before (eint n) = []
named_before (evar v) = []
named_before (enow c) = c ∷ []
named_before (elast c) = []
named_before (elet a b) = []
named_before (eif a b d) = []
named_before (eop o a b) = []
named_before (ecall f es) = []
named_before (econ t c es) = []
named_before (ecase t e r bs) = readings e
named_before (eadj k e) = []
named_before (efit k a b d) = []

module _ (a b : Expr) where
  two-named : readings a ++ readings b ≡ all_readings (econs a (econs b enil))
  unfolding readings
  two-named = ap (λ (l : List ℕ). readings a ++ l) (sym (append-nil (readings b)))

  three-named : (d : Expr) → readings a ++ (readings b ++ readings d) ≡ all_readings (econs a (econs b (econs d enil)))
  unfolding readings
  three-named d = ap (λ (l : List ℕ). readings a ++ (readings b ++ l)) (sym (append-nil (readings d)))

named-parted : (e : Expr) → readings e ≡ named_before e ++ all_readings (last_parts e)
unfolding readings
named-parted (ebool b) = refl
named-parted (eint n) = refl
named-parted (evar v) = refl
named-parted (enow c) = refl
named-parted (elast c) = refl
named-parted (elet a b) = two-named a b
named-parted (eif a b d) = three-named a b d
named-parted (eop o a b) = two-named a b
named-parted (ecall f es) = refl
named-parted (econ t c es) = refl
named-parted (ecase t e r bs) = refl
named-parted (eadj k e) = sym (append-nil (readings e))
named-parted (efit k a b d) = three-named a b d

pub gathers-whole : (e : Expr) {set set' : ℕ} → Gathers (named_before e) set → Joins (all_readings (last_parts e)) set set' → Gathers (readings e) set'
gathers-whole e {set'} g j = subst (λ (cs : List ℕ). Gathers cs set') (sym (named-parted e)) (gathers-more g j)

-- ---- a list of expressions
pub joins-nil : (set : ℕ) → Joins (all_readings enil) set set
unfolding readings
joins-nil set = joins-none set

pub joins-cons : (e : Expr) (es : Exprs) {set one set' : ℕ} → Gathers (readings e) one → Joins (all_readings es) (bit_or set one) set' → Joins (all_readings (econs e es)) set set'
unfolding readings
joins-cons e es g j = joins-more g j

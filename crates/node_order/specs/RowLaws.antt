-- Rows of readings: read on through one node after the other they hold what each node reads directly or by others.
use Rattle.std.specs.Prelude.{ℕ, suc, ◌+◌, ◌/◌, ◌^◌, ◌≤◌, ◌<◌, List, Bool, false, not, Option, None, ◌≡◌, refl, length, get_or, set}
use Rattle.std.proofs.Math.Bool.{true}
use Rattle.std.proofs.Math.Path.{sym, ap}
use Rattle.std.proofs.Common.{ap₂, ◌∙◌, subst, arith, length-set, get_or-set_same, get_or-set_other}
use Rattle.std.proofs.Math.ListN.{get_or-eq_default}
use Rattle.std.proofs.Math.Dec.{eqb}
use Rattle.std.specs.Int.Bits.{bit_or}
use Rattle.language.specs.Result.{both, one_of, choose}
use Rattle.language.specs.Slide.{mem}
use Rattle.language.specs.Order.{read_by, read_through}
use Rattle.theory.specs.Lists.{false-is-not-true}
use Rattle.theory.specs.Choices.{one_none}
use Rattle.theory.specs.Places.{below_or_not, equal_or_not}
use Rattle.theory.specs.ReadThrough.{below_step, length-through, none_itself}
use Rattle.channel_sets.specs.Sets.{in_set}
use Rattle.channel_sets.specs.SetLaws.{in-union, in-empty, in-high}
use Rattle.node_order.specs.Lowest.{Below, LowestBelow}
use Rattle.node_order.specs.LowestLaws.{below_more, below-fewer, lowest-none, lowest-less, lowest-same}
use Rattle.node_order.specs.Rows.{ready_in, self_in, joined_by, Table, Lower, ReadsLower, ReadOn, ReadThrough, SelfReader}

-- ---- a node that is ready
module _ (done c reads : ℕ) {there : Bool} (t : there ≡ in_set done c) where
  pub not-ready : there ≡ true → not there ≡ ready_in done c reads
  unfolding ready_in both
  not-ready e = rw (← t, e)

  pub ready-if : {own : ℕ} → own ≡ reads → there ≡ false → eqb (bit_or done own) done ≡ ready_in done c reads
  unfolding ready_in both
  ready-if o e = rw (← t, e, o)

-- ---- a node's readings joined to another's
module _ (c through own : ℕ) where
  pub joined-there : in_set own c ≡ true → bit_or own through ≡ joined_by c through own
  unfolding joined_by choose
  joined-there e = sym (ap (λ b. choose b (bit_or own through) own) e)

  pub joined-not : in_set own c ≡ false → own ≡ joined_by c through own
  unfolding joined_by choose
  joined-not e = sym (ap (λ b. choose b (bit_or own through) own) e)

-- ---- one node's readings joined to those that read it: done up to i
pub record ReadingOn (inputs k : ℕ) (row row₁ : List ℕ) (i : ℕ) : Type 0 where
  pub before : (j : ℕ) → j < i → get_or row₁ j 0 ≡ joined_by (inputs + k) (get_or row k 0) (get_or row j 0)
  pub behind : (j : ℕ) → i ≤ j → get_or row₁ j 0 ≡ get_or row j 0

-- nothing is read beyond a row, and nothing is joined to it
joined-none : (c through : ℕ) → joined_by c through 0 ≡ 0
unfolding joined_by choose
joined-none c through = ap (λ b. choose b (bit_or 0 through) 0) (in-empty c)

module _ {inputs k : ℕ} {row : List ℕ} where
  pub on_none : ReadingOn inputs k row row 0
  on_none = record { before = λ j less. absurd (omega (arith, less)); behind = λ j le. refl }

  module _ {row₁ : List ℕ} {i : ℕ} (g : ReadingOn inputs k row row₁ i) where
    own_is : get_or row₁ i 0 ≡ get_or row i 0
    own_is = g.behind i (omega arith)

    put-here : (v : ℕ) → v ≡ joined_by (inputs + k) (get_or row k 0) (get_or row₁ i 0) → get_or (set row₁ i v) i 0 ≡ joined_by (inputs + k) (get_or row k 0) (get_or row i 0)
    put-here v e = below_or_not i (length row₁)
        (λ inside. get_or-set_same row₁ i v 0 inside ∙ e ∙ ap (joined_by (inputs + k) (get_or row k 0)) own_is)
        (λ beyond.
        let nothing : get_or row i 0 ≡ 0 = sym own_is ∙ get_or-eq_default row₁ 0 {n = i} beyond in
        get_or-eq_default (set row₁ i v) 0 {n = i} (omega (arith, beyond, length-set row₁ i v)) ∙ sym (joined-none (inputs + k) (get_or row k 0)) ∙ ap (joined_by (inputs + k) (get_or row k 0)) (sym nothing))

    pub on-more : (v : ℕ) → v ≡ joined_by (inputs + k) (get_or row k 0) (get_or row₁ i 0) → ReadingOn inputs k row (set row₁ i v) (i + 1)
    on-more v e = record {
      before = λ j less. equal_or_not j i (λ same. rw same (put-here v e)) (λ other. get_or-set_other row₁ i j v 0 other ∙ g.before j (omega (arith, less, other)));
      behind = λ j le. get_or-set_other row₁ i j v 0 (λ same. omega (arith, le, same)) ∙ g.behind j (omega (arith, le));
    }

    pub on-all : {nodes : ℕ} → nodes ≤ i → ReadOn inputs nodes k row row₁
    on-all le = record { each = λ j less. g.before j (omega (arith, less, le)) }

pub on-put : {inputs k : ℕ} {row row₁ row₂ : List ℕ} {i own through v : ℕ} → ReadingOn inputs k row row₁ i → own ≡ get_or row₁ i 0 → through ≡ get_or row k 0 → v ≡ joined_by (inputs + k) through own → row₂ ≡ set row₁ i v → ReadingOn inputs k row row₂ (i + 1)
on-put {inputs} {k} {v = v} g o t e f = rw f (on-more g v (e ∙ (λ i. joined_by (inputs + k) (t i) (o i))))

-- ---- and through all nodes
in-joined : (c through own d : ℕ) → in_set (joined_by c through own) d ≡ one_of (in_set own d) (both (in_set own c) (in_set through d))
unfolding joined_by choose both
in-joined c through own d = by (in_set own c)
  where
    by : (b : Bool) → in_set (choose b (bit_or own through) own) d ≡ one_of (in_set own d) (both b (in_set through d))
    by true = in-union own through d
    by false = sym (one_none (in_set own d))

module _ {inputs : ℕ} (R : List (List ℕ)) (k : ℕ) {row row' : List ℕ} where
  pub table_step : k < length R → Table inputs row (read_through k R) → ReadOn inputs (length R) k row row' → Table inputs row' (read_through (suc k) R)
  table_step less t s = record {
    each = λ i j in-i in-j.
        let long = length-through R k in
        let more = length-through R (suc k) in
        let in_rows : i < length (read_through k R) = omega (arith, in-i, more, long) in
        let in-row-j : j < length (read_through k R) = omega (arith, in-j, more, long) in
        let in-row-k : k < length (read_through k R) = omega (arith, less, long) in
        ap (λ (x : ℕ). in_set x (inputs + j)) (s.each i (omega (arith, in-i, more))) ∙ in-joined (inputs + k) (get_or row k 0) (get_or row i 0) (inputs + j) ∙
        ap₂ one_of (t.each i j in_rows in-row-j) (ap₂ both (t.each i k in_rows in-row-k) (t.each k j in-row-k in-row-j)) ∙ sym (below_step R k i j);
  }

-- read on through the nodes below k
pub record ReadingThrough (inputs nodes : ℕ) (row row₁ : List ℕ) (k : ℕ) : Type 0 where
  pub says : (R : List (List ℕ)) → length R ≡ nodes → Table inputs row R → Table inputs row₁ (read_through k R)

module _ {inputs nodes : ℕ} {row : List ℕ} where
  pub through-none : ReadingThrough inputs nodes row row 0
  unfolding read_through
  through-none = record { says = λ R long t. t }

  module _ {row₁ : List ℕ} {k : ℕ} (g : ReadingThrough inputs nodes row row₁ k) where
    pub through-more : {row₂ : List ℕ} → k < nodes → ReadOn inputs nodes k row₁ row₂ → ReadingThrough inputs nodes row row₂ (k + 1)
    through-more {row₂} less s = record {
      says = λ R long t.
          let next : suc k ≡ k + 1 = omega arith in
          subst (λ m. Table inputs row₂ (read_through m R)) next (table_step R k (omega (arith, less, long)) (g.says R long t) (subst (λ m. ReadOn inputs m k row₁ row₂) (sym long) s));
    }

    pub through-all : k ≤ nodes → nodes ≤ k → ReadThrough inputs nodes row row₁
    through-all most all = record { says = λ R long t. let same : k ≡ length R = omega (arith, most, all, long) in subst (λ m. Table inputs row₁ (read_through m R)) same (g.says R long t) }

-- ---- each node reads only channels below its own
module _ (row : List ℕ) (inputs i : ℕ) {own : ℕ} (e : own ≡ get_or row i 0) where
  shifted : own / 2 ^ (inputs + i) ≡ get_or row i 0 / 2 ^ (inputs + i)
  shifted = ap (λ (x : ℕ). x / 2 ^ (inputs + i)) e

  pub lower-here : own / 2 ^ (inputs + i) ≡ 0 → Lower row inputs i
  lower-here q = record { is = sym shifted ∙ q }

  pub lower-not : {nodes : ℕ} → i < nodes → (own / 2 ^ (inputs + i) ≡ 0 → ⊥) → ReadsLower row inputs nodes false
  lower-not less other = record { says = (λ q. false-is-not-true q, λ g. absurd (other (shifted ∙ (g.each i less).is))) }

pub lower-all : {row : List ℕ} {inputs i nodes : ℕ} → Below (Lower row inputs) i → nodes ≤ i → ReadsLower row inputs nodes true
lower-all g le = record { says = (λ _. below-fewer g le, λ _. refl) }

-- ---- the lowest node that reads itself
module _ {row : List ℕ} {inputs nodes : ℕ} where
  pub lower-self : ReadsLower row inputs nodes true → SelfReader row inputs nodes None
  unfolding mem
  lower-self l = record {
    less = λ e. cc;
    says = λ R long few named t.
        let lower : (i j : ℕ) → mem j (read_by R i) ≡ true → j < i = λ i j e. below_or_not i (length R)
        (λ inside. below_or_not j i (λ less. less) (λ le. false-is-not-true (sym (in-high (inputs + i) (get_or row i 0) (inputs + j) ((l.says.0 refl).each i (omega (arith, inside, long))).is (omega (arith, le))) ∙ t.each i j inside (named i j e) ∙ e)))
        (λ beyond. false-is-not-true (ap (mem j) (sym (get_or-eq_default R _ {n = i} beyond)) ∙ e)) in
        lowest-none {i = nodes} (record { each = λ i less. none_itself R lower i }) (omega arith);
  }

  pub through-self : {row₂ : List ℕ} {r : Option ℕ} → ReadThrough inputs nodes row row₂ → LowestBelow (self_in row₂ inputs) nodes r → SelfReader row inputs nodes r
  through-self {row₂} s l = record {
    less = λ e. lowest-less (rw e at l);
    says = λ R long few named t.
        let whole = s.says R long t in
        let size = length-through R (length R) in
        lowest-same (λ i less. whole.each i i (omega (arith, less, long, size)) (omega (arith, less, long, size))) l;
  }

-- ---- a row filled from its start on: at i it has what f gives
pub record Filled (f : ℕ → ℕ) (row : List ℕ) (i : ℕ) : Type 0 where
  pub is : get_or row i 0 ≡ f i

pub filled_more : {f : ℕ → ℕ} {row row₁ : List ℕ} {i n v : ℕ} → Below (Filled f row) i → i < n → length row ≡ n → v ≡ f i → row₁ ≡ set row i v → Below (Filled f row₁) (i + 1)
filled_more {row = row} {i = i} {v = v} g less long e q = rw q (below_more
    (record { each = λ k low. record { is = get_or-set_other row i k v 0 (λ same. omega (arith, low, same)) ∙ (g.each k low).is } })
    (record { is = get_or-set_same row i v 0 (omega (arith, less, long)) ∙ e }))

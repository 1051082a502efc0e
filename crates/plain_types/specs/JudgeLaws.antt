-- Every frame in file order: which test a frame's number has, the first that fails, and the definition's refusal by it.
use Rattle.std.specs.Prelude.{ℕ, zero, suc, ◌+◌, ◌-◌, ◌≤◌, ◌<◌, List, [], ◌∷◌, ◌++◌, map, Bool, true, false, ◌≡◌, refl, length, get_or}
use Rattle.std.proofs.Math.Option.{some}
use Rattle.std.specs.Prelude.{Option, Some, None}
use Rattle.std.specs.Option.{unwrap_or}
use Rattle.std.proofs.Common.{sym, ap, ◌∙◌, subst, arith, length-append}
use Rattle.std.proofs.lemmas.List.{length-map}
use Rattle.std.proofs.Math.ListN.{get_or-eq_default, get_elem? as look}
use Rattle.language.specs.Limits.{functions_most, channels_most}
use Rattle.language.specs.Refusals.{no_frame, types_disagree}
use Rattle.language.specs.Result.{Result, ok, no, need_each}
use Rattle.language.specs.Syntax.{Function, Input, Node, File, function_frame}
use Rattle.language.specs.PlainTyping.{WellPlain}
use Rattle.language.specs.PlainTypes.{plain_function, plain_initial, plain_input, plain_node, plain_types}
use Rattle.theory.specs.Lists.{false-is-not-true, look-get_d, look-append, look-past, look-map}
use Rattle.theory.specs.Places.{below_or_not}
use Rattle.theory.specs.Alls.{all-at}
use Rattle.theory.specs.Tests.{first_refused, first-none, first-at, verdict, verdict-refused, each-verdict}
use Rattle.theory.specs.PlainTypesAgree.{well-plain}
use Rattle.encoding.specs.FrameLines.{line_at}
use Rattle.index.specs.declared.Counts.{Counts}
use Rattle.encoding.specs.WithinParts.{node-within}
use Rattle.index.specs.Sections.{channels_of, counts_in}
use Rattle.index.specs.Indexed.{channel_line, NodeIndexed, Indexed, Counted}
use Rattle.heads.specs.Places.{line_behind_types}
use Rattle.plain_types.specs.Verdicts.{FunctionFits, InitialFits, NodeFits, frame_tests, refused_frame, named_frame, FrameFits, JudgesAll}
use Rattle.plain_types.specs.FrameLaws.{there}

-- ---- the test of each frame
module _ (P : File) where
  abbrev function_tests : List Bool
  function_tests = map (plain_function P) P.functions

  abbrev input_tests : List Bool
  input_tests = map (plain_input P) P.inputs

  abbrev node_tests : List Bool
  node_tests = map (plain_node P) P.nodes

  function-test : (i : ℕ) {F : Function} → look P.functions i ≡ some F → get_or (frame_tests P) i true ≡ plain_function P F
  function-test i e = look-get_d (frame_tests P) i true (look-append function_tests (input_tests ++ node_tests) i (look-map (plain_function P) P.functions i e))

  behind-functions : (c i : ℕ) {b : Bool} → i ≡ length P.functions + c → look (input_tests ++ node_tests) c ≡ some b → get_or (frame_tests P) i true ≡ b
  behind-functions c i {b} q e =
      let same : i ≡ length function_tests + c = omega (arith, q, length-map P.functions (plain_function P)) in
      look-get_d (frame_tests P) i true (ap (look (frame_tests P)) same ∙ look-past function_tests (input_tests ++ node_tests) c ∙ e)

  input-test : (c i : ℕ) {I : Input} → i ≡ length P.functions + c → look P.inputs c ≡ some I → get_or (frame_tests P) i true ≡ plain_input P I
  input-test c i q e = behind-functions c i q (look-append input_tests node_tests c (look-map (plain_input P) P.inputs c e))

  node-test : (m c i : ℕ) {n : Node} → i ≡ length P.functions + c → c ≡ length P.inputs + m → look P.nodes m ≡ some n → get_or (frame_tests P) i true ≡ plain_node P n
  node-test m c i q k e =
      let same : c ≡ length input_tests + m = omega (arith, k, length-map P.inputs (plain_input P)) in
      behind-functions c i q (ap (look (input_tests ++ node_tests)) same ∙ look-past input_tests node_tests m ∙ look-map (plain_node P) P.nodes m e)

  tests-count : length (frame_tests P) ≡ length P.functions + length P.inputs + length P.nodes
  tests-count = omega (
    arith,
    length-append function_tests (input_tests ++ node_tests),
    length-append input_tests node_tests,
    length-map P.functions (plain_function P),
    length-map P.inputs (plain_input P),
    length-map P.nodes (plain_node P),
  )

input-is : (P : File) (I : Input) → plain_input P I ≡ plain_initial P I.declared I.initial
unfolding plain_input
input-is P I = refl

-- ---- frame i behind the types
module _ (text index : List ℕ) (counts : Counts) (are : counts ≡ counts_in index) (i : ℕ) where
  counted-are : {P : File} → Indexed text index P → Counted counts P
  counted-are {P} h = subst (λ n. Counted n P) (sym are) h.counted

  pub frame-function : {r : Bool} → i < counts.functions → FunctionFits text index i r → FrameFits text index i r
  frame-function less v = record {
    says = λ {P} h.
        let c = counted-are h in
        let F = there P.functions i (omega (arith, less, c.function_count)) in
        v.says h F.at ∙ sym (function-test P i F.at);
  }

  module _ (over : counts.functions ≤ i) where
    pub frame-input : {r : Bool} → i - counts.functions < counts.inputs → InitialFits text index i (i - counts.functions) r → FrameFits text index i r
    frame-input less v = record {
      says = λ {P} h.
          let c = counted-are h in
          let j = i - counts.functions in
          let q : i ≡ length P.functions + j = omega (arith, over, c.function_count) in
          let I = there P.inputs j (omega (arith, less, c.input_count)) in
          let w = all-at h.within.inputs j I.at in
          v.says h q (omega (arith, less, c.input_count)) (h.each_input j I.at) w.declared w.initial ∙ sym (input-is P I.of) ∙ sym (input-test P j i q I.at);
    }

    module _ (over₂ : counts.inputs ≤ i - counts.functions) where
      pub frame-node : {r : Bool} → i - counts.functions - counts.inputs < counts.nodes → NodeFits text index i (i - counts.functions) r → FrameFits text index i r
      frame-node less v = record {
        says = λ {P} h.
            let c = counted-are h in
            let j = i - counts.functions in
            let m = i - counts.functions - counts.inputs in
            let q : i ≡ length P.functions + j = omega (arith, over, c.function_count) in
            let k : j ≡ length P.inputs + m = omega (arith, over₂, c.input_count) in
            let n = there P.nodes m (omega (arith, less, c.node_count)) in
            v.says h q (omega (arith, less, k, c.node_count)) (subst (λ a. NodeIndexed (line_at text (channel_line P a)) (channels_of index) a n.of) (sym k) (h.each_node m n.at)) (node-within h.within m n.at)
            ∙ sym (node-test P m j i q k n.at);
      }

      pub frame-none : counts.nodes ≤ i - counts.functions - counts.inputs → FrameFits text index i true
      frame-none over₃ = record {
        says = λ {P} h.
            let c = counted-are h in
            sym (get_or-eq_default (frame_tests P) true (omega (arith, tests-count P, over, over₂, over₃, c.function_count, c.input_count, c.node_count)));
      }

-- ---- the first that fails
fails-less : (bs : List Bool) (i : ℕ) → get_or bs i true ≡ false → i < length bs
fails-less [] i e = false-is-not-true (sym e)
fails-less (b ∷ bs) zero e = omega arith
fails-less (b ∷ bs) (suc i) e = omega (arith, fails-less bs i e)

-- how many tests there can be
abbrev pub bodies_most : ℕ
bodies_most = functions_most + channels_most

tests-few : (P : File) {text index : List ℕ} → Indexed text index P → length (frame_tests P) ≤ bodies_most
tests-few P h = let w = h.within in omega (arith, tests-count P, w.few_functions, w.few_inputs, w.few_nodes)

-- ---- a frame by its number
frame-named : (line n : ℕ) → line + 1 ≡ n → Some (line + 1) ≡ named_frame n
frame-named line zero e = absurd (omega (arith, e))
frame-named line (suc n) e = ap Some e

named-number : (n : ℕ) {r : Option ℕ} → r ≡ named_frame n → unwrap_or r no_frame ≡ n
named-number zero e = rw e
named-number (suc n) e = rw e

named-some : (n : ℕ) {frame : ℕ} → Some frame ≡ named_frame n → frame ≡ 0 → ⊥
named-some zero e z = let f : ◌≡◌ {A = ℕ} 0 1 = cc in omega arith
named-some (suc n) {frame} e z = let same : frame ≡ suc n = cc in omega (arith, same, z)

-- the frames before i agree
pub record AgreeBefore (text index : List ℕ) (i : ℕ) : Type 0 where
  pub says : {P : File} → Indexed text index P → (j : ℕ) → j < i → get_or (frame_tests P) j true ≡ true

module _ (text index : List ℕ) where
  pub before-none : AgreeBefore text index 0
  before-none = record { says = λ h j less. absurd (omega (arith, less)) }

  module _ {i : ℕ} (a : AgreeBefore text index i) {b : Bool} (v : FrameFits text index i b) where
    pub before_more : b ≡ true → AgreeBefore text index (i + 1)
    before_more z = record {
      says = λ {P} h j less. below_or_not j i (λ l. a.says h j l) (λ over. let same : i ≡ j = omega (arith, less, over) in subst (λ m. get_or (frame_tests P) m true ≡ true) same (sym (v.says h) ∙ z));
    }

    pub judged-refused : {line : ℕ} → b ≡ false → line ≡ line_behind_types index i → JudgesAll text index (Some (line + 1))
    judged-refused {line} z q = record {
      says = λ {P} h.
          let e : get_or (frame_tests P) i true ≡ false = sym (v.says h) ∙ z in
          let less : i < bodies_most = omega (arith, fails-less (frame_tests P) i e, tests-few P h) in
          let number : line + 1 ≡ function_frame P 0 + i = omega (arith, q, less, h.counted.type_count) in
          frame-named _ _ (number ∙ sym (first-at (function_frame P 0) (frame_tests P) i (a.says h) e));
    }

  pub judged-all : {i : ℕ} → bodies_most ≤ i → AgreeBefore text index i → JudgesAll text index None
  judged-all over a = record {
    says = λ {P} h. ap named_frame (sym (first-none (function_frame P 0) (frame_tests P) (λ j less. a.says h j (omega (arith, less, over, tests-few P h)))));
  }

-- ---- the definition's refusal is the verdict on that frame
pub refused-verdict : {A : Type 0} (P : File) (x : Result A) → plain_types P x ≡ verdict types_disagree (refused_frame P) x
unfolding plain_types
refused-verdict P x =
    let same : function_frame P 0 ≡ suc (length P.types) = omega arith in
    subst (λ m. need_each types_disagree m (frame_tests P) x ≡ verdict types_disagree (first_refused m (frame_tests P)) x) (sym same) (each-verdict types_disagree (length P.types) (frame_tests P) x)

-- what the public function promises, as its caller uses it
pub plain-types-verdict : {text index : List ℕ} {r : Option ℕ} {P : File} {A : Type 0} → JudgesAll text index r → Indexed text index P → (x : Result A) →
    plain_types P x ≡ verdict types_disagree (unwrap_or r no_frame) x
plain-types-verdict {P} v h x = refused-verdict P x ∙ ap (λ m. verdict types_disagree m x) (sym (named-number _ (v.says h)))

-- where no frame is named it goes on, and plain types are right; else it is refused there
pub plain-types-passes : {text index : List ℕ} {P : File} {A : Type 0} → JudgesAll text index None → Indexed text index P → (x : Result A) → plain_types P x ≡ x
unfolding verdict
plain-types-passes v h x = plain-types-verdict v h x

pub plain-types-refused : {text index : List ℕ} {frame : ℕ} {P : File} {A : Type 0} → JudgesAll text index (Some frame) → Indexed text index P → (x : Result A) → plain_types P x ≡ no types_disagree frame
plain-types-refused {frame} {P} v h x = plain-types-verdict v h x ∙ verdict-refused types_disagree frame x (named-some (refused_frame P) (v.says h))

pub verdict-well : {text index : List ℕ} {P : File} → JudgesAll text index None → Indexed text index P → WellPlain P
verdict-well {P} v h = well-plain P (ok P) (plain-types-passes v h (ok P))

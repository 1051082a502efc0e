-- Words entered into a scope: what was below stays, and behind it stand the words; a scope of a file that was read with more variables.
use Prim.Native.Nat.{ℕ, zero, suc, ◌+◌, ◌-◌, ◌≤◌, ◌<◌}
use mathlib.Core.List.{List, [], ◌∷◌, ◌++◌, map, map-append, append_assoc, append-nil}
use Rattle.std.specs.Prelude.{true, ◌≡◌, get_or, leb}
use Rattle.std.proofs.Math.Path.{refl, sym, ap, ap₂}
use Rattle.std.proofs.Common.{◌∙◌, arith, add-zero, add-suc, length-set, take-suc, take-suc-set, take_all, leb-true}
use Rattle.std.proofs.Math.Numerals.{add-one}
use Rattle.std.proofs.Math.ListN.{length, take, set, length-append, get_or-map}
use Rattle.std.proofs.lemmas.List.{length-map, take-set-le}
use Rattle.language.specs.Limits.{variables_most, size_variables_most}
use Rattle.language.specs.Syntax.{Plain, pbool, Expr, File}
use Rattle.language.specs.Scope.{Scope, wider, room_in}
use Rattle.language.specs.Within.{All, all_nil, all_cons, WithinPlain, WithinExpr, w_bool, w_int, w_var, w_now, w_last, w_let, w_if, w_op, w_call, w_con, w_case, w_adj, w_fit}
use Rattle.language.specs.Layout.{tag_step}
use Rattle.theory.specs.Alls.{all_append}
use Rattle.theory.specs.Lists.{take-fewer, both_left, both_right}
use Rattle.text.specs.Bytes.{plain_word}
use Rattle.encoding.specs.Known.{wider-known}
use Rattle.plain_types.specs.declared.words.PlainType.{PlainType}
use Rattle.plain_types.specs.declared.words.Want.{Want}
use Rattle.plain_types.specs.Agrees.{meaning}
use Rattle.plain_types.specs.Words.{WordOf, wanted_type, wanted_word, entered}
use Rattle.plain_types.specs.Asks.{Kept, Stage}

-- ---- an expression has a level, its parts one less
pub no-level : {S : Scope} {e : Expr} → WithinExpr zero S e → ⊥
no-level w = elim w [ ]

pub less-deep : {levels left : ℕ} → levels ≡ suc left → left ≡ levels - 1
less-deep deep = omega (arith, deep)

-- ---- a scope of an expression has room
expr-room : {n : ℕ} {S : Scope} {e : Expr} → WithinExpr n S e → room_in S ≡ true
expr-room (w_bool r) = r
expr-room (w_int r i) = r
expr-room (w_var r v) = r
expr-room (w_now r c) = r
expr-room (w_last r c) = r
expr-room (w_let r a b) = r
expr-room (w_if r a b d) = r
expr-room (w_op r a b) = r
expr-room (w_call r f es) = r
expr-room (w_con r t c es) = r
expr-room (w_case r t e ρ bs) = r
expr-room (w_adj r s e) = r
expr-room (w_fit r k a b d) = r

pub room-variables : {n : ℕ} {S : Scope} {e : Expr} → WithinExpr n S e → S.variables ≤ variables_most
unfolding room_in
room-variables {S} w = leb-true S.variables variables_most (both_left (leb S.variables variables_most) (leb S.sizes size_variables_most) (expr-room w))

pub room-sizes : (S : Scope) → room_in S ≡ true → S.sizes ≤ size_variables_most
unfolding room_in
room-sizes S r = leb-true S.sizes size_variables_most (both_right (leb S.variables variables_most) (leb S.sizes size_variables_most) r)

-- ---- keeping
pub kept_same : {n : ℕ} {scope : List ℕ} → Kept n scope scope
kept_same = record { low = refl; long = refl }

pub kept_then : {n : ℕ} {scope scope₁ scope₂ : List ℕ} → Kept n scope scope₁ → Kept n scope₁ scope₂ → Kept n scope scope₂
kept_then k l = record { low = l.low ∙ k.low; long = l.long ∙ k.long }

-- what is kept up to a higher place is kept up to a lower one
pub kept-below : {n : ℕ} {scope scope' : List ℕ} (m : ℕ) → m ≤ n → Kept n scope scope' → Kept m scope scope'
kept-below {n} {scope} {scope'} m h k = record { low = take-fewer m n scope' scope h k.low; long = k.long }

pub kept_put : (n : ℕ) (scope : List ℕ) (i a : ℕ) → n ≤ i → Kept n scope (set scope i a)
kept_put n scope i a h = record { low = take-set-le n scope i a h; long = length-set scope i a }

-- ---- words entered
pub word_at : (τs : List Plain) (j : ℕ) → get_or (map plain_word τs) j 0 ≡ plain_word (get_or τs j pbool)
unfolding plain_word
word_at τs j = get_or-map plain_word τs j pbool

module _ (index : List ℕ) (want : Want) (scope : List ℕ) (to : ℕ) where
  pub entered-none : scope ≡ entered index want scope to 0
  unfolding entered
  entered-none = refl

  pub entered-more : {scope₁ scope₂ : List ℕ} {kind : PlainType} {word : ℕ} (i : ℕ) → scope₁ ≡ entered index want scope to i → kind ≡ wanted_type index want i → WordOf kind word → scope₂ ≡ set scope₁ (to + i) word → scope₂ ≡ entered index want scope to (i + 1)
  unfolding entered
  entered-more i e k w q = rw add-one (q ∙ ap₂ (λ (l : List ℕ) (a : ℕ). set l (to + i) a) e (w.is ∙ ap (λ x. plain_word (meaning x)) k))

  pub entered-kept : (n : ℕ) → Kept to scope (entered index want scope to n)
  unfolding entered
  entered-kept zero = kept_same
  entered-kept (suc n) = kept_then (entered-kept n) (kept_put to (entered index want scope to n) (to + n) (wanted_word index want n) (omega arith))

  pub entered_all : {scope₁ : List ℕ} {i n : ℕ} → (i ≤ n) × (scope₁ ≡ entered index want scope to i) → n ≤ i → scope₁ ≡ entered index want scope to n
  entered_all {i} {n} e h = let same : i ≡ n = omega (arith, e.0, h) in e.1 ∙ ap (entered index want scope to) same

  pub entered-words : (words : List ℕ) (n : ℕ) → n ≤ length words → ((j : ℕ) → j < n → wanted_word index want j ≡ get_or words j 0) → to + n ≤ length scope → take (to + n) (entered index want scope to n) ≡ take to scope ++ take n words
  unfolding entered
  entered-words words zero few each room = rw (add-zero to) (sym (append-nil (take to scope)))
  entered-words words (suc n) few each room =
      let before : List ℕ = entered index want scope to n in
      let long : length before ≡ length scope = (entered-kept n).long in
      rw (add-suc to n)
      (take-suc-set before (to + n) (wanted_word index want n) (omega (arith, long, room))
      ∙ ap₂ (λ (l : List ℕ) (a : ℕ). l ++ (a ∷ [])) (entered-words words n (omega (arith, few)) (λ j less. each j (omega (arith, less))) (omega (arith, room))) (each n (omega arith))
      ∙ append_assoc (take to scope) (take n words) (get_or words n 0 ∷ [])
      ∙ ap (λ (l : List ℕ). take to scope ++ l) (sym (take-suc words n 0 (omega (arith, few)))))

-- ---- a scope of a file that was read
module _ {text index scope : List ℕ} {line variables : ℕ} {P : File} {C : List Plain} {S : Scope} {Γ : List Plain} (st : Stage text index scope line variables P C S Γ) where
  pub stage-kept : {scope' : List ℕ} → Kept variables scope scope' → Stage text index scope' line variables P C S Γ
  stage-kept k = record {
    indexed = st.indexed;
    less = st.less;
    known = st.known;
    channel = st.channel;
    channels = st.channels;
    words = k.low ∙ st.words;
    small = st.small;
    long = st.long;
    in_scope = st.in_scope;
    room = omega (arith, k.long, st.room);
  }

  stage-more : {scope' : List ℕ} (n sizes : ℕ) (τs : List Plain) → length τs ≡ n → All (WithinPlain tag_step) τs → take (variables + n) scope' ≡ take variables scope ++ map plain_word τs → length scope' ≡ length scope →
      Stage text index scope' line (variables + n) P C (wider n sizes S) (Γ ++ τs)
  unfolding wider
  stage-more n sizes τs same small words long = record {
    indexed = st.indexed;
    less = st.less;
    known = wider-known n sizes st.known;
    channel = st.channel;
    channels = st.channels;
    words = words ∙ ap (λ (l : List ℕ). l ++ map plain_word τs) st.words ∙ sym (map-append plain_word Γ τs);
    small = all_append st.small small;
    long = omega (arith, length-append Γ τs, same, st.long);
    in_scope = omega (arith, st.in_scope);
    room = omega (arith, long, st.room);
  }

  -- one more variable, whose word is written behind the scope
  pub stage-bound : {word : ℕ} (σ : Plain) → word ≡ plain_word σ → WithinPlain tag_step σ → variables + 1 ≤ variables_most → Stage text index (set scope variables word) line (variables + 1) P C (wider 1 0 S) (Γ ++ (σ ∷ []))
  stage-bound {word} σ w small h = stage-more 1 0 (σ ∷ []) refl (all_cons small all_nil)
      (rw (add-one variables) (take-suc-set scope variables word (omega (arith, h, st.room))) ∙ ap (λ (a : ℕ). take variables scope ++ (a ∷ [])) w)
      (length-set scope variables word)

  -- and those of a list of types, entered
  pub stage-entered : (want : Want) (n sizes : ℕ) (τs : List Plain) → length τs ≡ n → All (WithinPlain tag_step) τs → ((j : ℕ) → j < n → meaning (wanted_type index want j) ≡ get_or τs j pbool) → variables + n ≤ variables_most →
      Stage text index (entered index want scope variables n) line (variables + n) P C (wider n sizes S) (Γ ++ τs)
  stage-entered want n sizes τs same small each h = stage-more n sizes τs same small
      (entered-words index want scope variables (map plain_word τs) n (omega (arith, same, length-map τs plain_word)) (λ j less. ap plain_word (each j less) ∙ sym (word_at τs j)) (omega (arith, h, st.room))
      ∙ ap (λ (l : List ℕ). take variables scope ++ l) (take_all n (map plain_word τs) (omega (arith, same, length-map τs plain_word))))
      (entered-kept index want scope variables n).long

-- The types of the variables that may be named stand as words in the scope, those of channels in the index.
use Rattle.std.specs.Prelude.{ℕ, ◌+◌, ◌≤◌, ◌<◌, List, map, ◌≡◌, length, get_or}
use Rattle.std.proofs.Math.Option.{some}
use Rattle.std.proofs.Common.{sym, ap, ◌∙◌, subst, arith, get_or-take}
use Rattle.std.proofs.lemmas.List.{length-map}
use Rattle.std.proofs.Math.ListN.{get_elem? as look}
use Rattle.language.specs.Limits.{types_most}
use Rattle.language.specs.Syntax.{Ty, Input, Node, File, declared_types}
use Rattle.language.specs.Scope.{Scope}
use Rattle.language.specs.Within.{WithinDeclared, w_tbool, w_tint, w_tnamed}
use Rattle.language.specs.Typing.{Place as Stand}
use Rattle.theory.specs.Lists.{look-get_d, look-less, look-map}
use Rattle.theory.specs.Places.{look-append-cases, Mapped, look-mapped}
use Rattle.theory.specs.Alls.{all-at}
use Rattle.text.specs.Bytes.{declared_word}
use Rattle.index.specs.Sections.{channels_of}
use Rattle.index.specs.Indexed.{declared_at}
use Rattle.encoding.specs.WithinParts.{input-within, node-within}
use Rattle.sizes.specs.declared.SizedType.{SizedType}
use Rattle.sizes.specs.Promises.{meaning}
use Rattle.size_steps.specs.declared.Site.{Site}
use Rattle.size_steps.specs.Sites.{Bounded, bounded_bool, bounded_int, bounded_named, bounded-small, Sited}
use Rattle.size_steps.specs.Leaves.{ChannelTyped}
use Rattle.size_laws.specs.Promises.{Lent, IndexedFile}

-- a type, and the word that stands for it
pub record Told (word : ℕ) (τ : Ty) : Type 0 where
  pub is : declared_word τ ≡ word
  pub small : Bounded τ

-- ---- variables
pub variable-told : {P : File} {S : Scope} {q : Stand} {Γ : List Ty} {Δ scope sizes : List ℕ} {p : Site} → Sited P S q Γ Δ scope sizes p → (v : ℕ) {τ : Ty} → look Γ v ≡ some τ → Told (get_or scope v 0) τ
variable-told {Γ} {scope} {p} s v e =
    let less : v < p.place.variables = omega (arith, look-less Γ v e, s.variables) in
    record { is = sym (sym (get_or-take p.place.variables scope v 0 less) ∙ ap (λ l. get_or l v 0) s.types ∙ look-get_d (map declared_word Γ) v 0 (look-map declared_word Γ v e)); small = all-at s.small v e }

-- ---- channels
bounded-declared : {types : ℕ} {τ : Ty} → types ≤ types_most → WithinDeclared types τ → Bounded τ
bounded-declared few w_tbool = bounded_bool
bounded-declared few w_tint = bounded_int
bounded-declared few (w_tnamed {t} {k} less bound) = bounded_named {t = t} {k = k} (omega (arith, few, less)) bound.1

-- the index has the declared type of channel c
record DeclaredIn (index : List ℕ) (P : File) (c : ℕ) (τ : Ty) : Type 0 where
  told : declared_at (channels_of index) c ≡ declared_word τ
  within : WithinDeclared (length P.types) τ

module _ {t : Lent} {P : File} (h : IndexedFile t P) where
  input-declared : (c : ℕ) {τ : Ty} → Mapped (λ (i : Input). i.declared) P.inputs c τ → DeclaredIn t.index P c τ
  input-declared c m = rw m.is (record { told = (h.each_input c m.at).declared; within = (input-within h.within c m.at).declared })

  node-declared : (m : ℕ) {τ : Ty} → Mapped (λ (n : Node). n.declared) P.nodes m τ → DeclaredIn t.index P (length P.inputs + m) τ
  node-declared m n = rw n.is (record { told = (h.each_node m n.at).channel.declared; within = (node-within h.within m n.at).declared })

  declared-in : (c : ℕ) {τ : Ty} → look (declared_types P) c ≡ some τ → DeclaredIn t.index P c τ
  declared-in c {τ} e = look-append-cases (map (λ (i : Input). i.declared) P.inputs) (map (λ (n : Node). n.declared) P.nodes) c e
      (λ z. input-declared c (look-mapped (λ (i : Input). i.declared) P.inputs c z))
      (λ m is z. let place : length P.inputs + m ≡ c = omega (arith, is, length-map P.inputs (λ (i : Input). i.declared)) in subst (λ k. DeclaredIn t.index P k τ) place (node-declared m (look-mapped (λ (n : Node). n.declared) P.nodes m z)))

  pub channel-bounded : (c : ℕ) {τ : Ty} → look (declared_types P) c ≡ some τ → Bounded τ
  channel-bounded c e = bounded-declared h.within.few_types (declared-in c e).within

  -- what the index has is the declared type
  pub channel-typed : (c : ℕ) {τ : Ty} {ty : SizedType} → look (declared_types P) c ≡ some τ → ChannelTyped t.index c ty → meaning ty ≡ τ
  channel-typed c {τ} e v = v.says τ (bounded-small (channel-bounded c e)) (sym (declared-in c e).told)

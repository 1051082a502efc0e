-- The initial values and the updates of a file stand where the tables tell, each under its channel's declared type.
use Rattle.std.specs.Prelude.{ℕ, suc, ◌+◌, ◌≤◌, List, [], ◌∷◌, ◌++◌, map, ◌≡◌, refl, length}
use Rattle.std.proofs.Common.{append-nil, sym, ap, ◌∙◌, subst, arith}
use Rattle.std.proofs.Math.Option.{some}
use Rattle.std.proofs.lemmas.List.{length-map}
use Rattle.std.proofs.Math.ListN.{get_elem? as look}
use Rattle.language.specs.Syntax.{Ty, Expr, Input, Node, File, declared_types, initial_values}
use Rattle.theory.specs.Lists.{look-append, look-past, look-map}
use Rattle.index.specs.declared.Counts.{Counts}
use Rattle.index.specs.Indexed.{Counted as CountsAre}
use Rattle.encoding.specs.WithinParts.{input-within, node-within}
use Rattle.size_laws.specs.Promises.{Lent, IndexedFile}
use Rattle.size_laws.specs.FileParts.{Few, Standing, initial_word, update_word, Lasting, no_more, one_more, channel_count}

-- ---- the expressions of a file, each where the tables tell
module _ {t : Lent} {P : File} {word last : ℕ} where
  lasting-map : {A : Type 0} (f : A → Expr) (g : A → Ty) (l : List A) (c : ℕ) → c + length l ≤ last → ((i : ℕ) (a : A) → look l i ≡ some a → Standing t P word (c + i) (f a) (g a)) → {es : List Expr} {τs : List Ty} →
      Lasting t P word last (c + length l) es τs → Lasting t P word last c (map f l ++ es) (map g l ++ τs)
  lasting-map f g [] c few each {es} {τs} ls = let same : c + 0 ≡ c = omega arith in subst (λ k. Lasting t P word last k es τs) same ls
  lasting-map f g (a ∷ l) c few each {es} {τs} ls =
      let first : c + 0 ≡ c = omega arith in
      let behind : c + suc (length l) ≡ suc c + length l = omega arith in
      one_more {c = c} (omega (arith, few)) (subst (λ k. Standing t P word k (f a) (g a)) first (each 0 a refl))
      (lasting-map f g l (suc c) (omega (arith, few)) (λ i b e. let on : c + suc i ≡ suc c + i = omega arith in subst (λ k. Standing t P word k (f b) (g b)) on (each (suc i) b e)) (subst (λ k. Lasting t P word last k es τs) behind ls))

  lasting-nodes : (f : Node → Expr) → length P.inputs + length P.nodes ≡ last → ((m : ℕ) (n : Node) → look P.nodes m ≡ some n → Standing t P word (length P.inputs + m) (f n) n.declared) →
      Lasting t P word last (length P.inputs) (map f P.nodes) (map (λ (n : Node). n.declared) P.nodes)
  lasting-nodes f count each =
      rw (append-nil (map f P.nodes), append-nil (map (λ (n : Node). n.declared) P.nodes)) at
      (lasting-map f (λ (n : Node). n.declared) P.nodes (length P.inputs) (omega (arith, count)) each {es = []} {τs = []} (no_more (omega (arith, count))))

module _ {t : Lent} {P : File} (i : IndexedFile t P) where
  node-declared : (m : ℕ) {n : Node} → look P.nodes m ≡ some n → look (declared_types P) (length P.inputs + m) ≡ some n.declared
  node-declared m e =
      let types = map (λ (j : Input). j.declared) P.inputs in
      let place : length P.inputs + m ≡ length types + m = omega (arith, length-map P.inputs (λ (j : Input). j.declared)) in
      ap (look (declared_types P)) place ∙ look-past types (map (λ (n : Node). n.declared) P.nodes) m ∙ look-map (λ (n : Node). n.declared) P.nodes m e

  input-stands : (c : ℕ) (j : Input) → look P.inputs c ≡ some j → Standing t P initial_word c j.initial j.declared
  input-stands c j e = record { channels = 0; spelled = (i.each_input c e).initial; within = (input-within i.within c e).initial; declared = look-append (map (λ (k : Input). k.declared) P.inputs) _ c (look-map (λ (k : Input). k.declared) P.inputs c e) }

  initial-stands : (m : ℕ) (n : Node) → look P.nodes m ≡ some n → Standing t P initial_word (length P.inputs + m) n.initial n.declared
  initial-stands m n e = record { channels = 0; spelled = (i.each_node m e).channel.initial; within = (node-within i.within m e).initial; declared = node-declared m e }

  update-stands : (m : ℕ) (n : Node) → look P.nodes m ≡ some n → Standing t P update_word (length P.inputs + m) n.update n.declared
  update-stands m n e = record { channels = length P.inputs + length P.nodes; spelled = (i.each_node m e).update; within = (node-within i.within m e).update; declared = node-declared m e }

  module _ {n : Counts} (k : CountsAre n P) where
    pub counts-few : Few n
    counts-few = let w = i.within in record { types = rw k.type_count at w.few_types; functions = rw k.function_count at w.few_functions; inputs = rw k.input_count at w.few_inputs; nodes = rw k.node_count at w.few_nodes }

    all-channels : length P.inputs + length P.nodes ≡ channel_count n
    all-channels = omega (arith, k.input_count, k.node_count)

    pub initials-last : Lasting t P initial_word (channel_count n) 0 (initial_values P) (declared_types P)
    initials-last =
        let none : 0 + length P.inputs ≡ length P.inputs = omega arith in
        lasting-map (λ (j : Input). j.initial) (λ (j : Input). j.declared) P.inputs 0 (omega (arith, all-channels)) (λ c j e. let same : c ≡ 0 + c = omega arith in subst (λ m. Standing t P initial_word m j.initial j.declared) same (input-stands c j e))
        (subst (λ m. Lasting t P initial_word (channel_count n) m (map (λ (m : Node). m.initial) P.nodes) (map (λ (m : Node). m.declared) P.nodes)) (sym none) (lasting-nodes (λ (m : Node). m.initial) all-channels initial-stands))

    pub updates-last : Lasting t P update_word (channel_count n) n.inputs (map (λ (m : Node). m.update) P.nodes) (map (λ (m : Node). m.declared) P.nodes)
    updates-last = subst (λ c. Lasting t P update_word (channel_count n) c (map (λ (m : Node). m.update) P.nodes) (map (λ (m : Node). m.declared) P.nodes)) k.input_count (lasting-nodes (λ (m : Node). m.update) all-channels update-stands)

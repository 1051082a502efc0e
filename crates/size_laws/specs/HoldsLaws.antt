-- The list of instances in words: a record added on entry, and its numbers filled in; the rest of the words stays 0.
use Rattle.std.specs.Prelude.{ℕ, zero, suc, ◌+◌, ◌*◌, ◌-◌, ◌≤◌, ◌<◌, List, [], ◌∷◌, ◌++◌, ◌≡◌, length, drop, set, replicate}
use Rattle.std.proofs.Common.{append_assoc, sym, ap, ◌∙◌, subst, arith, length-append, length-set, drop-drop}
use Rattle.std.proofs.Math.Option.{none, some}
use Rattle.std.proofs.Math.ListN.{get_elem? as look}
use Rattle.std.proofs.lemmas.List.{map-append}
use Rattle.language.specs.Limits.{instances_most}
use Rattle.language.specs.Syntax.{Function, File}
use Rattle.language.specs.Within.{All, all_cons}
use Rattle.language.specs.Estimate.{Estimate as Exact, nothing}
use Rattle.language.specs.Checker.{Instance, find}
use Rattle.theory.specs.Alls.{all_append, all_snoc, all_left, all_right, all_rest, all_first}
use Rattle.theory.specs.Lists.{none-is-not-some, look-less, look-append, look-new, look-past}
use Rattle.theory.specs.Places.{look-append-cases}
use Rattle.theory.specs.Different.{Distinct, distinct_append}
use Rattle.theory.specs.Instances.{entered, key_of, keys_of}
use Rattle.theory.specs.InstanceList.{not-found-is-new}
use Rattle.index.specs.SectionLaws.{drop-zeros}
use Rattle.estimate.specs.declared.Estimate.{Estimate}
use Rattle.estimate.specs.Stands.{Stands}
use Rattle.instances.specs.Listed.{instance_words_count, numbers_from, key_words, result_word, SizesAre, Writes, Adds, Notes, Finishes}
use Rattle.instances.specs.ListLaws.{key-wide}
use Rattle.size_steps.specs.Agreement.{Row, Met, Table, table, Holds}
use Rattle.size_laws.specs.ListKept.{Extends, filled_in}

-- behind what is written all stays 0
zeros-behind : {words words' ws : List ℕ} (from used used' : ℕ) → Writes words from ws words' → from + length ws ≤ used' → used ≤ used' →
    drop used words ≡ replicate (length words - used) 0 → drop used' words' ≡ replicate (length words' - used') 0
zeros-behind {words} {words'} {ws} from used used' w le more rest =
    let far : used' ≡ from + length ws + (used' - (from + length ws)) = omega (arith, le) in
    let near : used' ≡ used + (used' - used) = omega (arith, more) in
    let fewer : length words - used - (used' - used) ≡ length words' - used' = omega (arith, more, w.long) in
    ap (λ k. drop k words') far ∙ sym (drop-drop (used' - (from + length ws)) (from + length ws) words')
    ∙ ap (drop (used' - (from + length ws))) w.behind ∙ drop-drop (used' - (from + length ws)) (from + length ws) words
    ∙ ap (λ k. drop k words) (sym far ∙ near) ∙ sym (drop-drop (used' - used) used words) ∙ ap (drop (used' - used)) rest ∙ drop-zeros (used' - used) (length words - used) ∙ ap (λ k. replicate k 0) fewer

-- how wide what is added is
added-wide : (f : ℕ) (sizes : List ℕ) → length (key_words f sizes ++ (0 ∷ 0 ∷ 0 ∷ [])) ≡ instance_words_count
added-wide f sizes = length-append (key_words f sizes) (0 ∷ 0 ∷ 0 ∷ []) ∙ omega (arith, key-wide f sizes)

-- ---- what is known of each instance, with one more, and with one that was finished
-- an instance that was entered: what is known of it, if the file has its function
abbrev pub Entrant : File → Instance → ℕ → Type 0
Entrant P r word = (F : Function) → look P.functions r.function ≡ some F → Met F r.sizes word

met-added : (P : File) {memo memo' : List ℕ} {word : ℕ} (L : List Instance) (r : Instance) → ((i : ℕ) (x : Instance) → look L i ≡ some x → Entrant P x (result_word memo i)) → Notes memo (length L) word memo' → length L < instances_most → Entrant P r word →
    (i : ℕ) (x : Instance) → look (L ++ (r ∷ [])) i ≡ some x → Entrant P x (result_word memo' i)
met-added P {memo} {memo'} {word} L r before n room new i x there F is = look-append-cases L (r ∷ []) i there
    (λ e. subst (Met F x.sizes) (sym (n.kept i (look-less L i e))) (before i x e F is)) last
  where
    last : (j : ℕ) → i ≡ length L + j → look (r ∷ []) j ≡ some x → Met F x.sizes (result_word memo' i)
    last zero at e =
        let same : r ≡ x = cc in
        let place : result_word memo' i ≡ word = ap (result_word memo') (let here : i ≡ length L = omega (arith, at) in here) ∙ n.here room in
        subst (Met F x.sizes) (sym place) (subst (λ (y : Instance). Met F y.sizes word) same (new F (ap (λ (y : Instance). look P.functions y.function) same ∙ is)))
    last (suc j) at e = none-is-not-some e

met-finished : (P : File) (memo : List ℕ) {L : List Instance} (M : List Instance) (r : Instance) (n : Exact) (g : Extends (M ++ (r ∷ [])) L) → ((i : ℕ) (x : Instance) → look L i ≡ some x → Entrant P x (result_word memo i)) →
    (i : ℕ) (x : Instance) → look (M ++ (entered r.function r.sizes n ∷ g.more)) i ≡ some x → Entrant P x (result_word memo i)
met-finished P memo {L} M r n g before i x there F is = look-append-cases M (entered r.function r.sizes n ∷ g.more) i there (λ e. was x (look-append M (r ∷ g.more) i e) F is) behind
  where
    was : (y : Instance) → look (M ++ (r ∷ g.more)) i ≡ some y → Entrant P y (result_word memo i)
    was y e = before i y (ap (λ l. look l i) (g.is ∙ append_assoc M (r ∷ []) g.more) ∙ e)

    behind : (j : ℕ) → i ≡ length M + j → look (entered r.function r.sizes n ∷ g.more) j ≡ some x → Met F x.sizes (result_word memo i)
    behind zero at e =
        let same : entered r.function r.sizes n ≡ x = cc in
        subst (λ (y : Instance). Met F y.sizes (result_word memo i)) same
        (was r (ap (look (M ++ (r ∷ g.more))) at ∙ look-past M (r ∷ g.more) 0) F (ap (λ (y : Instance). look P.functions y.function) same ∙ is))
    behind (suc j) at e = was x (ap (look (M ++ (r ∷ g.more))) at ∙ look-past M (r ∷ g.more) (suc j) ∙ e) F is

module _ {P : File} {list : Table} {used : ℕ} {L : List Instance} (h : Holds P list used L) where
  pub holds-added : {f word : ℕ} {sizes ks words' memo' : List ℕ} → Adds list.words used f sizes words' → Notes list.memo used word memo' → used < instances_most → SizesAre sizes ks → find L f ks ≡ none →
      Row P (entered f ks nothing) → Entrant P (entered f ks nothing) word → Holds P (table words' memo') (used + 1) (L ++ (entered f ks nothing ∷ []))
  holds-added {f} {word} {sizes} {ks} {words'} {memo'} a n few are new row met = record {
    listed = a.says L ks h.listed h.count are (omega (arith, few, h.lent));
    count = omega (arith, h.count, length-append L (entered f ks nothing ∷ []));
    rows = all_snoc h.rows row;
    once = rw (map-append key_of L (entered f ks nothing ∷ [])) (distinct_append h.once (not-found-is-new f ks L new));
    met = λ i r F there is. met-added P L (entered f ks nothing) (λ j x e G i. h.met j x G e i) (subst (λ k. Notes list.memo k word memo') h.count n) (omega (arith, few, h.count)) met i r there F is;
    lent = omega (arith, h.lent, a.writes.long);
    rest = zeros-behind (instance_words_count * used) (instance_words_count * used) (instance_words_count * (used + 1)) a.writes (omega (arith, added-wide f sizes)) (omega arith) h.rest;
  }

  pub holds-finished : {words' : List ℕ} {x : Estimate} {n : Exact} (M : List Instance) (r : Instance) → Finishes list.words (length M) x words' → Extends (M ++ (r ∷ [])) L → Stands x n →
      Holds P (table words' list.memo) used (set L (length M) (entered r.function r.sizes n))
  holds-finished {n = n} M r w g s = record {
    listed = w.says L r n h.listed there s;
    count = h.count ∙ sym (length-set L (length M) filled);
    rows = subst (All (Row P)) (sym (filled_in M r filled g)) (all_append (all_left M (r ∷ g.more) split) (all_cons (all_first (all_right M (r ∷ g.more) split)) (all_rest (all_right M (r ∷ g.more) split))));
    once = subst Distinct (sym (ap keys_of (filled_in M r filled g) ∙ map-append key_of M (filled ∷ g.more) ∙ sym (map-append key_of M (r ∷ g.more)) ∙ ap keys_of (sym joined))) h.once;
    met = λ i x F e is. met-finished P list.memo M r n g (λ j y d G k. h.met j y G d k) i x (ap (λ l. look l i) (sym (filled_in M r filled g)) ∙ e) F is;
    lent = omega (arith, h.lent, w.writes.long);
    rest = zeros-behind (instance_words_count * length M + numbers_from) (instance_words_count * used) (instance_words_count * used) w.writes (omega (arith, within)) (omega arith) h.rest;
  }
    where
      filled : Instance
      filled = entered r.function r.sizes n

      there : look L (length M) ≡ some r
      there = ap (λ l. look l (length M)) g.is ∙ look-append (M ++ (r ∷ [])) g.more (length M) (look-new M r)

      joined : L ≡ M ++ (r ∷ g.more)
      joined = g.is ∙ append_assoc M (r ∷ []) g.more

      split : All (Row P) (M ++ (r ∷ g.more))
      split = subst (All (Row P)) joined h.rows

      within : length M < used
      within = omega (arith, h.count, ap length joined, length-append M (r ∷ g.more))

-- One branch of a case: skipped, or checked for every split.
use Rattle.size_steps.specs.Outcomes.{Sizing}
use Rattle.std.specs.Prelude.{ℕ, zero, suc, ◌+◌, ◌*◌, ◌-◌, ◌%◌, ◌≤◌, ◌<◌, ◌≡◌, refl, length, get_or}
use mathlib.Core.List.{List, [], ◌∷◌}
use Rattle.std.proofs.Math.Option.{some}
use Rattle.std.proofs.Math.Path.{sym, ap}
use Rattle.std.proofs.Common.{◌∙◌, arith, le-leb}
use Rattle.std.proofs.Math.ListN.{get_elem? as look}
use Rattle.std.proofs.lemmas.Bool.{lt-leb}
use Rattle.language.specs.Limits.{byte_range, size_most, size_variables_most}
use Rattle.language.specs.Result.{choose}
use Rattle.language.specs.Syntax.{Constructor, owns, File, constructors_of}
use Rattle.language.specs.Format.{expr_bytes}
use Rattle.language.specs.Scope.{wider}
use Rattle.language.specs.Within.{All, all_nil, all_cons}
use Rattle.language.specs.Sizes.{sum}
use Rattle.language.specs.Splits.{splits}
use Rattle.language.specs.Estimate.{nothing}
use Rattle.theory.specs.Lists.{look-get_d, look-less}
use Rattle.theory.specs.Alls.{all_map}
use Rattle.text.specs.declared.Cursor.{Cursor}
use Rattle.index.specs.FreeLaws.{owns-fewer}
use Rattle.index.specs.Tables.{type_words, constructor_words}
use Rattle.heads.specs.Skips.{Skips}
use Rattle.heads.specs.ScopeShapes.{known-shapes}
use Rattle.index.specs.Indexed.{frame_part}
use Rattle.index.specs.FramePartLaws.{part-is-line}
use Rattle.text.specs.Places.{past}
use Rattle.encoding.specs.Known.{wider-known}
use Rattle.estimate.specs.declared.Estimate.{Estimate}
use Rattle.estimate.specs.Stands.{Makes}
use Rattle.splits.specs.Moves.{Starts}
use Rattle.splits.specs.SplitSizes.{splits-are}
use Rattle.splits.specs.Walks.{starts-keep, walk-starts}
use Rattle.index.specs.Sections.{frames_of, types_of, functions_of}
use Rattle.size_steps.specs.declared.Site.{Site}
use Rattle.size_steps.specs.declared.Subject.{Subject}
use Rattle.size_steps.specs.Sites.{moved_on_of, Kept, kept-all, kept_then, site-kept}
use Rattle.size_steps.specs.Agreement.{agrees}
use Rattle.size_laws.specs.Promises.{Lent, Buffers, buffers, IndexedFile, UpToMost, SizesBranch, SizesSplits}
use Rattle.size_steps.specs.Leaves.{leaf_of}
use Rattle.size_laws.specs.HereLaws.{fits-of}
use Rattle.size_laws.specs.TurnLaws.{grown-is}

-- ---- how many fields of a constructor are of the type itself
abbrev pub own_word : Lent → ℕ → ℕ → ℕ
own_word t u c = get_or (types_of t.index) (type_words * u + 2 + constructor_words * c) 0

pub owns-told : {t : Lent} {P : File} {u n : ℕ} (c : ℕ) {fs : Constructor} → IndexedFile t P → u < length P.types → look (constructors_of P u) c ≡ some fs → (n ≡ own_word t u c % byte_range) × (n < byte_range) → n ≡ owns fs
owns-told {t} {P} {u} {n} c {fs} i less there told =
    let tells = (i.each_type u less).tells in
    let at = look-less (constructors_of P u) c there in
    let is = look-get_d (constructors_of P u) c [] there in
    let few = owns-fewer (get_or (constructors_of P u) c []) in
    omega (arith, told.0, few, tells.few_fields c at, tells.owns c at, ap owns is)

-- ---- every size of a split is at most the whole
sizes-in-sum : (ks : List ℕ) (n : ℕ) → sum ks ≤ n → All (λ k. k ≤ n) ks
unfolding sum
sizes-in-sum [] n le = all_nil
sizes-in-sum (k ∷ ks) n le = all_cons {a = k} (omega (arith, le)) (sizes-in-sum ks n (omega (arith, le)))

split-most : (r n : ℕ) → r ≤ n → n ≤ size_most → All (All UpToMost) (splits r n)
unfolding splits
split-most zero n le most = all_cons all_nil all_nil
split-most (suc r) n le most = all_map (λ ks s. all_map (λ (k : ℕ) less. omega (arith, less, most)) (sizes-in-sum ks n (omega (arith, s.sums)))) (splits-are (suc r) n (omega arith) (omega (arith, le)))

module _ {s : Subject} {k own : ℕ} {t : Lent} {b : Buffers} {p : Site} (told : (own ≡ own_word t s.of k % byte_range) × (own < byte_range)) where
  -- ---- the subject is too small for the constructor
  pub branch-skipped : {line : List ℕ} {next : Cursor} {o : Site} {numbers : Estimate} {r : Sizing} → s.size ≤ own → line ≡ frame_part t.text (frames_of t.index) p.place.line →
      Skips line (types_of t.index) (functions_of t.index) p.place.at p.place.levels next → o ≡ moved_on_of p next p.used → Makes nothing numbers → r ≡ leaf_of s.ty numbers o → SizesBranch s k t b p r b
  unfolding choose
  branch-skipped {next} {numbers} small cut skips moved made is = record {
    says = λ P S q Γ Δ L left h fs w there end e part.
        let is-line = part-is-line h.indexed p.place.line h.site.line cut in
        let over = skips.says _ e (known-shapes h.indexed (wider-known _ _ h.site.known)) part.within (rw is-line part.spelled) in
        rw (le-leb s.size (owns fs) (omega (arith, small, owns-told k h.indexed w.of there told))) (agrees (is ∙ ap (leaf_of s.ty numbers) moved)
        (record { type = refl; small = w.ty; numbers = made.says; ends = over ∙ ap (λ (l : List ℕ). past l p.place.at.at (length (expr_bytes e))) is-line ∙ sym part.ends; holds = h.holds }));
    grows = grown-is (is ∙ ap (leaf_of s.ty numbers) moved) (omega arith);
    kept = kept-all;
  }

  -- ---- it is not: from the first split on
  pub branch-split : {sizes : List ℕ} {r : Sizing} {b' : Buffers} → own < s.size → size_variables_most ≤ length b.sizes → Starts b.sizes p.sizes own (s.size - 1) sizes →
      SizesSplits s k t (buffers b.list b.scope sizes) p r b' → SizesBranch s k t b p r b'
  unfolding choose wider
  branch-split {sizes} {r} {b'} large room starts v = record {
    says = λ P S q Γ Δ L left h fs w there end e part.
        let same : own ≡ owns fs = owns-told k h.indexed w.of there told in
        let fits = fits-of part.within in
        let chain = walk-starts {n = s.size - 1} (omega (arith, room, fits.sizes, h.site.sizes_in, h.site.size_count, same)) (omega (arith, large)) (omega (arith, w.size)) starts in
        rw (lt-leb s.size (owns fs) (omega (arith, large, same))) (v.says P S q Γ Δ L left (record { indexed = h.indexed; site = site-kept h.site split-kept; holds = h.holds; deep = h.deep })
        fs w there end e part (splits (owns fs) (s.size - 1)) (rw same at chain) (split-most (owns fs) (s.size - 1) (omega (arith, large, same)) (omega (arith, w.size))));
    grows = v.grows;
    kept = kept_then split-kept v.kept;
  }
    where
      split-kept : Kept p b.scope b.sizes b.scope sizes
      split-kept = record { variables = refl; sizes_too = (starts-keep starts).low }

-- The scope of a branch: the fields of its constructor are bound to variables, those of the type itself at the sizes of a split.
use Rattle.std.specs.Prelude.{ℕ, suc, ◌+◌, ◌≤◌, ◌<◌, List, [], ◌∷◌, ◌++◌, map, ◌≡◌, refl, length, take, drop}
use Rattle.std.proofs.lemmas.List.{map-append}
use Rattle.std.proofs.Math.Option.{some}
use Rattle.std.proofs.Common.{sym, ap, ◌∙◌, arith, length-append, length-drop, length-take-le, take-add}
use Rattle.std.proofs.Math.ListN.{get_elem? as look}
use Rattle.language.specs.Limits.{byte_range, variables_most, size_variables_most}
use Rattle.language.specs.Syntax.{Field, fbool, fint, own, other, Constructor, owns, Ty, File, constructors_of}
use Rattle.language.specs.Scope.{Scope, wider}
use Rattle.language.specs.Within.{All, all_nil, all_cons, WithinField, w_fbool, w_fint, w_own, w_other}
use Rattle.language.specs.Sizes.{field_types}
use Rattle.language.specs.Typing.{Place as Stand}
use Rattle.language.specs.Checker.{Instance}
use Rattle.theory.specs.Alls.{all_append}
use Rattle.text.specs.Bytes.{declared_word}
use Rattle.encoding.specs.Known.{wider-known}
use Rattle.type_rows.specs.Rows.{ToldFields, FieldsBound}
use Rattle.type_rows.specs.ToldLaws.{told-fields}
use Rattle.index.specs.Sections.{types_of}
use Rattle.size_steps.specs.declared.Site.{Site}
use Rattle.size_steps.specs.Sites.{Bounded, bounded_bool, bounded_int, bounded_named, widened_by, Sited}
use Rattle.size_laws.specs.Promises.{Lent, Buffers, buffers, Here, UpToMost}
use Rattle.size_laws.specs.HereLaws.{Fits}

pub field-types-long : (t : ℕ) (fs : List Field) (ks : List ℕ) → length (field_types t fs ks) ≡ length fs
unfolding field_types
field-types-long t [] ks = refl
field-types-long t (fbool ∷ fs) ks = ap suc (field-types-long t fs ks)
field-types-long t (fint ∷ fs) ks = ap suc (field-types-long t fs ks)
field-types-long t (own ∷ fs) [] = ap suc (field-types-long t fs [])
field-types-long t (own ∷ fs) (k ∷ ks) = ap suc (field-types-long t fs ks)
field-types-long t (other u j ∷ fs) ks = ap suc (field-types-long t fs ks)

pub fields-bounded : {t : ℕ} {fs : List Field} {ks : List ℕ} → t < byte_range → All (WithinField t) fs → All UpToMost ks → All Bounded (field_types t fs ks)
unfolding field_types
fields-bounded less all_nil sizes = all_nil
fields-bounded less (all_cons w_fbool ws) sizes = all_cons bounded_bool (fields-bounded less ws sizes)
fields-bounded less (all_cons w_fint ws) sizes = all_cons bounded_int (fields-bounded less ws sizes)
fields-bounded less (all_cons w_own ws) all_nil = all_cons (bounded_named {k = 0} less (omega arith)) (fields-bounded less ws all_nil)
fields-bounded less (all_cons w_own ws) (all_cons le sizes) = all_cons (bounded_named less le) (fields-bounded less ws sizes)
fields-bounded {t} less (all_cons (w_other {t = u} {k} earlier bound) ws) sizes = all_cons (bounded_named {t = u} {k = k} (omega (arith, earlier, less)) bound.1) (fields-bounded less ws sizes)

-- ---- under the fields of a constructor at the split that stands behind the sizes in scope
pub here-fields : {t : Lent} {b : Buffers} {p : Site} {P : File} {S : Scope} {q : Stand} {Γ : List Ty} {Δ : List ℕ} {L : List Instance} {left u : ℕ} (c : ℕ) {fs : Constructor} {scope : List ℕ} → Here t b p P S q Γ Δ L left →
    u < length P.types → look (constructors_of P u) c ≡ some fs → variables_most ≤ length b.scope → size_variables_most ≤ length b.sizes → Fits (wider (length fs) (owns fs) S) →
    All UpToMost (take (owns fs) (drop p.sizes b.sizes)) → FieldsBound (types_of t.index) b.scope b.sizes u c p.place.variables p.sizes scope →
    Here t (buffers b.list scope b.sizes) (widened_by p (length fs) (owns fs)) P (wider (length fs) (owns fs) S) q
    (Γ ++ field_types u fs (take (owns fs) (drop p.sizes b.sizes))) (Δ ++ take (owns fs) (drop p.sizes b.sizes)) L left
unfolding wider
here-fields {t} {b} {p} {P} {S} {q} {Γ} {Δ} {L} {left} {u} c {fs} {scope} h less there room sizeRoom fits most bound = record {
  indexed = h.indexed;
  site = record {
    known = wider-known (length fs) (owns fs) s.known;
    channels = s.channels;
    frame = s.frame;
    line = s.line;
    around = s.around;
    variables = omega (arith, length-append Γ (field_types u fs ks), field-types-long u fs ks, s.variables);
    variables_in = omega (arith, length-append Γ (field_types u fs ks), field-types-long u fs ks, s.variables_in);
    types = written.0 ∙ ap (λ (l : List ℕ). l ++ map declared_word (field_types u fs ks)) s.types ∙ sym (map-append declared_word Γ (field_types u fs ks));
    small = all_append s.small (fields-bounded (omega (arith, told.small)) told.within most);
    size_count = omega (arith, length-append Δ ks, long, s.size_count);
    sizes_in = omega (arith, length-append Δ ks, long, s.sizes_in);
    sizes_are = take-add p.sizes (owns fs) b.sizes ∙ ap (λ (l : List ℕ). l ++ ks) s.sizes_are;
  };
  holds = h.holds;
  deep = h.deep;
}
  where
    s : Sited P S q Γ Δ b.scope b.sizes p
    s = h.site

    ks : List ℕ
    ks = take (owns fs) (drop p.sizes b.sizes)

    told : ToldFields (types_of t.index) u c fs
    told = told-fields h.indexed u c less there

    long : length ks ≡ owns fs
    long = length-take-le (owns fs) (drop p.sizes b.sizes) (omega (arith, length-drop p.sizes b.sizes, sizeRoom, fits.sizes, h.site.size_count, h.site.sizes_in))

    written : (take (p.place.variables + length fs) scope ≡ take p.place.variables b.scope ++ map declared_word (field_types u fs ks)) × (drop (p.place.variables + length fs) scope ≡ drop (p.place.variables + length fs) b.scope)
    written = bound.says fs ks told refl long (omega (arith, room, fits.variables, h.site.variables, h.site.variables_in))

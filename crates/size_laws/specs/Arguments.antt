-- The arguments of a call that were checked: their types are the parameters' at the sizes of the named ones, which stand first
-- among the callee's sizes, unused 0.
use Rattle.std.specs.Prelude.{ℕ, zero, suc, ◌*◌, ◌%◌, ◌≤◌, ◌<◌, List, [], ◌∷◌, ◌++◌, map, true, ◌≡◌, refl, length, get_or, take, drop, replicate}
use Rattle.std.proofs.Math.Option.{some}
use Rattle.std.proofs.Common.{sym, ap, ◌∙◌, subst, arith, take_all}
use Rattle.std.proofs.lemmas.List.{length-replicate}
use Rattle.std.proofs.Math.ListN.{get_elem? as look}
use Rattle.std.proofs.Math.Seq.{take-append_seam}
use Rattle.language.specs.Limits.{byte_range, parameters_most, size_variables_most}
use Rattle.language.specs.Syntax.{Plain, pbool, pint, pnamed, Ty, Exprs, Expr, ecall, Function, File}
use Rattle.language.specs.Layout.{padded}
use Rattle.language.specs.Scope.{Scope, named_count}
use Rattle.language.specs.Within.{All, WithinExprs}
use Rattle.language.specs.Sizes.{sizes_of, parameter_types, same_types}
use Rattle.language.specs.Typing.{Place as Stand}
use Rattle.language.specs.Checker.{Instance, Sizeds}
use Rattle.theory.specs.SameTests.{same-types}
use Rattle.theory.specs.Padding.{padded-length}
use Rattle.index.specs.Tables.{function_words}
use Rattle.index.specs.Padded.{padded-none}
use Rattle.text.specs.Bytes.{declared_word}
use Rattle.theory.specs.Alls.{all_map}
use Rattle.encoding.specs.FrameLines.{line_at}
use Rattle.instances.specs.ListLaws.{sizes-taken}
use Rattle.type_rows.specs.Rows.{NamedSizes}
use Rattle.index.specs.Sections.{functions_of}
use Rattle.size_steps.specs.declared.Site.{Site}
use Rattle.size_steps.specs.declared.Counted.{Counted}
use Rattle.size_steps.specs.Sites.{Bounded, bounded-small}
use Rattle.size_steps.specs.Agreement.{Table, CountedAs}
use Rattle.size_laws.specs.Promises.{Lent, Buffers, Here, ExprsPart, Argued}
use Rattle.size_laws.specs.Parts.{CallPart}
use Rattle.size_laws.specs.HereLaws.{ends_at, suc-same}
use Rattle.size_steps.specs.Leaves.{SizesFor}

-- ---- which function is called, and its arguments
pub record Called (t : Lent) (p : Site) (P : File) (S : Scope) (f n end : ℕ) (e : Expr) : Type 0 where
  pub function : Function
  pub is : look P.functions f ≡ some function
  pub count : n ≡ length function.parameters
  pub few : n ≤ parameters_most
  pub list : Exprs
  pub form : e ≡ ecall f list
  pub part : ExprsPart (line_at t.text p.place.line) p S n end list

abbrev pub ArityOf : List ℕ → ℕ → ℕ → Type 0
ArityOf functions f n = (n ≡ get_or functions (function_words * f) 0 % byte_range) × (n < byte_range)

pub called : {t : Lent} {b : Buffers} {p : Site} {P : File} {S : Scope} {q : Stand} {Γ : List Ty} {Δ : List ℕ} {L : List Instance} {left f n end : ℕ} {e : Expr} → ArityOf (functions_of t.index) f n →
    Here t b p P S q Γ Δ L left → CallPart f (line_at t.text p.place.line) p S end e → Called t p P S f n end e
called {t} {p} {S} {f} {n} {end} arity h part =
    let i = part.head in
    let k = h.site.known.functions f i.less in
    let tells = (h.indexed.each_function f k.is).tells in
    let count : n ≡ length k.function.parameters = omega (arith, arity.0, tells.count, tells.few) in
    let all : get_or S.arities f 0 ≡ n = omega (arith, count, k.arity) in
    record {
      function = k.function;
      is = k.is;
      count = count;
      few = omega (arith, count, tells.few);
      list = i.list;
      form = i.is;
      part = record {
        spelled = i.spelled;
        within = subst (λ m. WithinExprs p.place.levels S m i.list) all (subst (λ m. WithinExprs m S (get_or S.arities f 0) i.list) (sym (suc-same i.deep)) i.within);
        ends = ends_at part i.is i.long;
      };
    }

-- ---- parameters at sizes
pub parameters-long : (ps : List Plain) (ks : List ℕ) → length (parameter_types ps ks) ≡ length ps
unfolding parameter_types
parameters-long [] ks = refl
parameters-long (pbool ∷ ps) ks = ap suc (parameters-long ps ks)
parameters-long (pint ∷ ps) ks = ap suc (parameters-long ps ks)
parameters-long (pnamed t ∷ ps) [] = ap suc (parameters-long ps [])
parameters-long (pnamed t ∷ ps) (k ∷ ks) = ap suc (parameters-long ps ks)

-- ---- sizes of parameters
sizes-counted : (ps : List Plain) (ks : List ℕ) → length (sizes_of (parameter_types ps ks)) ≡ named_count ps
unfolding sizes_of parameter_types named_count
sizes-counted [] ks = refl
sizes-counted (pbool ∷ ps) ks = sizes-counted ps ks
sizes-counted (pint ∷ ps) ks = sizes-counted ps ks
sizes-counted (pnamed t ∷ ps) [] = ap suc (sizes-counted ps [])
sizes-counted (pnamed t ∷ ps) (k ∷ ks) = ap suc (sizes-counted ps ks)

named-few : (ps : List Plain) → named_count ps ≤ length ps
unfolding named_count
named-few [] = omega arith
named-few (pbool ∷ ps) = omega (arith, named-few ps)
named-few (pint ∷ ps) = omega (arith, named-few ps)
named-few (pnamed t ∷ ps) = omega (arith, named-few ps)

padded-zeros : (n : ℕ) (ks : List ℕ) → length ks ≤ n → padded n ks ≡ ks ++ drop (length ks) (replicate n 0)
unfolding padded
padded-zeros n [] le = padded-none n
padded-zeros zero (k ∷ ks) le = absurd (omega (arith, le))
padded-zeros (suc n) (k ∷ ks) le = ap (λ l. k ∷ l) (padded-zeros n ks (omega (arith, le)))

-- ---- arguments that agree with the parameters
pub argued : {P : File} {F : Function} {next : ℕ} {table : Table} {row named named' : List ℕ} {n m : ℕ} {a : Counted} {x : Sizeds} → n ≡ length F.parameters → n ≤ parameters_most → named ≡ replicate size_variables_most 0 →
    CountedAs P next table row a x → same_types (parameter_types F.parameters (sizes_of x.types)) x.types ≡ true → NamedSizes row n named m named' → Argued F (sizes_of x.types) n m row named'
argued {F} {row} {named} {named'} {n} {m} {x} count few zeros c agree v =
    let ks = sizes_of x.types in
    let same : parameter_types F.parameters ks ≡ x.types = same-types _ _ agree in
    let long : length ks ≡ named_count F.parameters = ap (λ τs. length (sizes_of τs)) (sym same) ∙ sizes-counted F.parameters ks in
    let all : length x.types ≡ n = ap length (sym same) ∙ parameters-long F.parameters ks ∙ sym count in
    let within : length ks ≤ parameters_most = omega (arith, long, count, few, named-few F.parameters) in
    let words : take n row ≡ map declared_word x.types = subst (λ k. take k row ≡ map declared_word x.types) all c.types in
    let told = v.says x.types (record { words = words; long = all; small = all_map (λ τ. bounded-small) c.small }) (omega (arith, within, ap length zeros, length-replicate {A = ℕ} size_variables_most 0)) in
    let sizes : named' ≡ padded parameters_most ks = told.1 ∙ ap (λ l. ks ++ drop (length ks) l) zeros ∙ sym (padded-zeros parameters_most ks within) in
    record {
      count = count;
      named = long;
      types = words ∙ ap (map declared_word) (sym same);
      small = subst (All Bounded) (sym same) c.small;
      size_count = told.0;
      front = ap (λ k. take k named') told.0 ∙ ap (take (length ks)) told.1 ∙ take-append_seam ks (drop (length ks) named);
      padded = sizes-taken named' ks within (ap (take parameters_most) sizes ∙ take_all parameters_most (padded parameters_most ks) (omega (arith, padded-length parameters_most ks)));
    }

pub sizes-for : {F : Function} {ks row sizes : List ℕ} {n m : ℕ} → Argued F ks n m row sizes → SizesFor F ks sizes
sizes-for {ks} {sizes} a = record { named = a.named; front = ap (λ k. take k sizes) (sym a.size_count) ∙ a.front }

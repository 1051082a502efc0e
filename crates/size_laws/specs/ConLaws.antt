-- `19`: what each return of a constructor gives.
use Rattle.language.specs.declared.refusals.RefusalAt.{RefusalAt}
use Rattle.std.specs.Prelude.{Ok, Err}
use Rattle.size_steps.specs.Outcomes.{Counting, Sizing}
use Rattle.std.specs.Prelude.{ℕ, suc, ◌+◌, ◌*◌, ◌%◌, ◌≤◌, ◌<◌, List, [], ◌≡◌, refl, length, get_or}
use Rattle.std.proofs.Math.Option.{some}
use Rattle.std.proofs.Common.{sym, ◌∙◌, subst, arith}
use Rattle.std.proofs.Math.Path.{ap}
use Rattle.std.proofs.Math.ListN.{get_elem? as look}
use Rattle.language.specs.Limits.{byte_range, fields_most}
use Rattle.language.specs.Syntax.{Constructor, TypeDef, Ty, Expr, econ, Exprs, enil, econs, File, constructors_of}
use Rattle.language.specs.Result.{Result, ok, no}
use Rattle.language.specs.Scope.{Scope}
use Rattle.language.specs.Within.{WithinExprs}
use Rattle.language.specs.Typing.{Place as Stand}
use Rattle.language.specs.Checker.{Instance, Sizeds, Enter, sized, sizeds}
use Rattle.theory.specs.Outcomes.{Sat, accepted, refused, bind-outcome}
use Rattle.theory.specs.Places.{look_at}
use Rattle.index.specs.Tables.{type_words, constructor_words}
use Rattle.encoding.specs.ExprLists.{expr_count, exprs-counted}
use Rattle.encoding.specs.FrameLines.{line_at}
use Rattle.index.specs.Sections.{types_of}
use Rattle.size_steps.specs.declared.Site.{Site}
use Rattle.size_steps.specs.declared.Counted.{Counted}
use Rattle.size_steps.specs.Agreement.{grows_same, grows-all-to, all-no, from_some}
use Rattle.size_laws.specs.SeveralAgree.{not-grown-as, all-know}
use Rattle.size_laws.specs.Promises.{Lent, Buffers, Here, entering, Sizes, SizesAll, ExprsPart}
use Rattle.size_laws.specs.Parts.{ConPart}
use Rattle.size_laws.specs.HereLaws.{ends_at, suc-same}
use Rattle.size_steps.specs.Leaves.{Makes}

-- as many types as expressions
any-sized : (P : File) (enter : Enter) (e : Expr) (p : Stand) (Γ : List Ty) (Δ : List ℕ) (L : List Instance) → Sat (λ q. Unit {0}) (sized P enter e p Γ Δ L)
any-sized P enter e p Γ Δ L = anything (sized P enter e p Γ Δ L)
  where
    anything : {A : Type 0} (r : Result A) → Sat (λ q. Unit {0}) r
    anything (ok a) = accepted tt
    anything (no n frame) = refused tt

sizeds-counted : (P : File) (enter : Enter) (es : Exprs) (p : Stand) (Γ : List Ty) (Δ : List ℕ) (L : List Instance) → Sat (λ (q : Sizeds). length q.types ≡ expr_count es) (sizeds P enter es p Γ Δ L)
unfolding sizeds expr_count
sizeds-counted P enter enil p Γ Δ L = accepted refl
sizeds-counted P enter (econs e es) p Γ Δ L = bind-outcome (any-sized P enter e p Γ Δ L) (λ q _ _. bind-outcome (sizeds-counted P enter es p Γ Δ q.list) (λ r _ y. accepted (ap suc y)))

-- ---- which constructor is made, and its fields
pub record Constructed (t : Lent) (p : Site) (P : File) (S : Scope) (of c n end : ℕ) (e : Expr) : Type 0 where
  pub fields : Constructor
  pub type : of < length P.types
  pub is : look (constructors_of P of) c ≡ some fields
  pub count : n ≡ length fields
  pub few : n ≤ fields_most
  pub list : Exprs
  pub form : e ≡ econ of c list
  pub part : ExprsPart (line_at t.text p.place.line) p S n end list

abbrev pub FieldsOf : List ℕ → ℕ → ℕ → ℕ → Type 0
FieldsOf types of c n = (n ≡ get_or types (type_words * of + 1 + constructor_words * c) 0 % byte_range) × (n < byte_range)

pub constructed : {t : Lent} {b : Buffers} {p : Site} {P : File} {S : Scope} {q : Stand} {Γ : List Ty} {Δ : List ℕ} {L : List Instance} {left of c n end : ℕ} {e : Expr} → FieldsOf (types_of t.index) of c n →
    Here t b p P S q Γ Δ L left → ConPart of c (line_at t.text p.place.line) p S end e → Constructed t p P S of c n end e
constructed {t} {p} {P} {S} {of} {c} {n} told h part =
    let i = part.head in
    let same = h.site.known.types in
    let type : of < length P.types = subst (λ (l : List TypeDef). of < length l) same i.less in
    let there : c < length (constructors_of P of) = subst (λ (l : List TypeDef). c < length (get_or l of [])) same i.less₂ in
    let tells = (h.indexed.each_type of type).tells in
    let count : n ≡ length (get_or (constructors_of P of) c []) = omega (arith, told.0, tells.fields c there, tells.few_fields c there) in
    let all : length (get_or (get_or S.types of []) c []) ≡ n = ap (λ (l : List TypeDef). length (get_or (get_or l of []) c [])) same ∙ omega (arith, count) in
    record {
      fields = get_or (constructors_of P of) c [];
      type = type;
      is = look_at (constructors_of P of) c [] there;
      count = count;
      few = omega (arith, count, tells.few_fields c there);
      list = i.list;
      form = i.is;
      part = record {
        spelled = i.spelled;
        within = subst (λ m. WithinExprs p.place.levels S m i.list) all (subst (λ m. WithinExprs m S (length (get_or (get_or S.types of []) c [])) i.list) (sym (suc-same i.deep)) i.within);
        ends = ends_at part i.is i.long;
      };
    }

-- ---- the returns
module _ {t : Lent} {b b₁ : Buffers} {p : Site} {of c n : ℕ} {row row₁ : List ℕ} {x : Counting} (told : FieldsOf (types_of t.index) of c n) (room : fields_most ≤ length row) (v : SizesAll t b p n row x b₁ row₁) where
  pub con-fields : {why : RefusalAt} {r : Sizing} → x ≡ Err why → r ≡ Err why → Sizes (ConPart of c) t b p r b₁
  unfolding sized
  con-fields d answer = record {
    says = λ P S q Γ Δ L left h end e part. let i = constructed told h part in
        rw i.form (all-no _ (v.says P S q Γ Δ L left h (omega (arith, room, i.few)) end i.list i.part) d answer);
    grows = not-grown-as answer;
    kept = v.kept;
  }

  pub con-made : {a : Counted} {r : Sizing} → x ≡ Ok a → Makes t.index row₁ p a of c r → Sizes (ConPart of c) t b p r b₁
  unfolding sized
  con-made d m = record {
    says = λ P S q Γ Δ L left h end e part. let i = constructed told h part in
        rw i.form (all-know _ (v.says P S q Γ Δ L left h (omega (arith, room, i.few)) end i.list i.part) (sizeds-counted P (entering P left) i.list q Γ Δ L) d (λ y count k.
        from_some 6 _ _ i.is (m.says t.text P q i.fields end b₁.list y h.indexed h.site.frame i.type i.is
        (omega (arith, count, exprs-counted i.part.within, i.count)) k)));
    grows = grows_same (grows-all-to v.grows d) m.grows;
    kept = v.kept;
  }

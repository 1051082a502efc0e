-- A body entered for the first time at its sizes: what each return of `body` gives.
use Rattle.language.specs.declared.refusals.RefusalAt.{RefusalAt}
use Rattle.language.specs.declared.refusals.Refusal.TheVariants.{SizesDisagree, TooManyInstances}
use Rattle.std.specs.Prelude.{Ok, Err}
use Rattle.size_steps.specs.Outcomes.{Sizing, Refused}
use Prim.Native.Nat.{ℕ, zero, suc, ◌+◌, ◌-◌, ◌≤◌, ◌<◌}
use Rattle.std.specs.Prelude.{List, [], ◌∷◌, ◌++◌, Bool, true, false, ◌≡◌, length, set}
use Rattle.std.proofs.Math.Option.{none, some}
use Rattle.std.proofs.Math.Path.{refl, sym}
use Rattle.std.proofs.Common.{ap, ◌∙◌, subst, arith, add-one, length-append}
use Rattle.std.proofs.Math.ListN.{get_elem? as look}
use borrow.Author.Tests.{lt-ltb, le-ltb}
use Rattle.language.specs.Limits.{instances_most}
use Rattle.language.specs.Result.{Result, ok, no, bind, need}
use Rattle.language.specs.Syntax.{Ty, Function, File, function_frame}
use Rattle.language.specs.Format.{expr_bytes}
use Rattle.language.specs.Sizes.{summed_measure, parameter_types, same_type}
use Rattle.language.specs.Scope.{named_count}
use Rattle.language.specs.Estimate.{Estimate as Exact, nothing}
use Rattle.language.specs.Typing.{inside, channels_at, frame_at}
use Rattle.language.specs.Checker.{Instance, Sized, Counted as CountedDef, find, found_or, enter_at}
use Rattle.theory.specs.Lists.{none-is-not-some, look-less}
use Rattle.theory.specs.Outcomes.{Sat}
use Rattle.theory.specs.Instances.{entered}
use Rattle.theory.specs.CheckerSteps.{body_run}
use Rattle.text.specs.Bytes.{declared_word}
use Rattle.text.specs.Places.{past}
use Rattle.encoding.specs.Spells.{Spells}
use Rattle.encoding.specs.FrameLines.{line_at}
use Rattle.index.specs.Indexed.{body_at, function_line}
use Rattle.encoding.specs.Known.{BodyKnown, body-known}
use Rattle.instances.specs.Listed.{Adds, Notes, Finishes}
use Rattle.sizes.specs.Promises.{meaning}
use Rattle.index.specs.Sections.{functions_of}
use Rattle.heads.specs.Places.{line_behind_types, function-line}
use Rattle.size_steps.specs.declared.Site.{Site}
use Rattle.size_steps.specs.declared.Checked.{Checked}
use Rattle.size_steps.specs.declared.Entry.{Entry}
use Rattle.size_steps.specs.Sites.{moved_on_of, around_one, Sited}
use Rattle.size_steps.specs.Agreement.{Row, Met, table, Holds, Agrees, agrees, refused, itself, Grows, not_grown, grows-to, grows_same, bind_is, bind-no, need-holds, need-fails}
use Rattle.size_laws.specs.SeveralAgree.{grown-as, bind-knows}
use Rattle.size_laws.specs.Promises.{Lent, Buffers, buffers, IndexedFile, Here, entering, Sizes, ExprPart, Given, ChecksBody}
use Rattle.size_steps.specs.Leaves.{leaf_of, body_of}
use Rattle.size_laws.specs.ListKept.{Extends, sized-keeps, enters_keep}
use Rattle.size_laws.specs.Arguments.{parameters-long}
use Rattle.size_laws.specs.HoldsLaws.{Entrant, holds-added, holds-finished}

-- ---- the definition, where there is no room, and where a body is entered
module _ (P : File) (frame g : ℕ) (F : Function) (ks : List ℕ) (τ : Ty) (L : List Instance) where
  no_room : (left : ℕ) → find L g ks ≡ none → instances_most ≤ length L → entering P left frame g F ks τ L ≡ no 14 frame
  unfolding enter_at found_or need
  no_room zero e full = rw e refl
  no_room (suc left) e full = rw (e, le-ltb (length L) instances_most full) refl

  -- what is left of a body that was checked
  abbrev pub leaving : Sized → Result CountedDef
  leaving q = need (same_type q.type τ) 11 (function_frame P g) (ok (record { numbers = q.numbers; list = set q.list (length L) (entered g ks q.numbers) }))

  entered-now : (left fewer : ℕ) → left ≡ suc fewer → find L g ks ≡ none → length L < instances_most →
      entering P left frame g F ks τ L ≡ bind (body_run P (entering P fewer) g F ks L) leaving
  unfolding enter_at found_or need
  entered-now left fewer one e less = rw (one, e, lt-ltb (length L) instances_most less) refl

-- ---- what is known where a body starts
module _ {P : File} {e : Entry} {F : Function} {ks scope sizes : List ℕ} (v : Given P e F ks scope sizes) where
  pub body-site : (p : Site) (index : List ℕ) → line_behind_types index e.function ≡ function_line P e.function → (k : BodyKnown P F) →
      Sited P k.scope (inside e.function (summed_measure F.measure ks)) (parameter_types F.parameters ks) ks scope sizes (body_of index p e)
  unfolding channels_at frame_at
  body-site p index told k = let a = v.argued in record {
    known = k.known;
    channels = λ c τ is. none-is-not-some is;
    frame = omega (arith, told);
    line = omega (arith, told, look-less P.functions e.function v.function);
    around = around_one {f = e.function} {w = summed_measure F.measure ks} told v.measures;
    variables = a.count ∙ sym (parameters-long F.parameters ks);
    variables_in = k.variables ∙ sym (parameters-long F.parameters ks);
    types = a.types;
    small = a.small;
    size_count = a.size_count;
    sizes_in = k.sizes ∙ sym a.named;
    sizes_are = a.front;
  }

  -- the file has one function of that number
  only : {G : Function} → look P.functions e.function ≡ some G → F ≡ G
  only {G} is = let both : some F ≡ some G = sym v.function ∙ is in cc

  pub body-row : (n : Exact) → Row P (entered e.function ks n)
  body-row n G is = v.argued.named ∙ ap (λ (H : Function). named_count H.parameters) (only is)

  pub body-met : {word : ℕ} (n : Exact) → word ≡ declared_word (meaning e.ty) → Entrant P (entered e.function ks n) word
  body-met {word} n w G is = subst (λ H. Met H ks word) (only is) (record { type = meaning e.ty; conditions = v.conditions; result = v.result; small = v.small; word = w })

-- ---- body
module _ (e : Entry) {t : Lent} {b : Buffers} (p : Site) where
  pub body-full : instances_most ≤ p.used → ChecksBody e t b p (Refused TooManyInstances (p.place.line + 1)) b
  body-full full = record {
    says = λ P F ks L left i h deep v new. rw (no_room P (suc p.place.line) e.function F ks (meaning e.ty) L left new (omega (arith, full, h.count))) (refused (ap (Refused TooManyInstances) (add-one p.place.line)));
    grows = not_grown;
  }

  -- the record added, and the body checked
  module _ {words memo : List ℕ} {word : ℕ} {q : Site} {x : Sizing} {b₁ : Buffers} (room : p.used < instances_most) (w : word ≡ declared_word (meaning e.ty))
      (a : Adds b.list.words p.used e.function b.sizes words × Notes b.list.memo p.used word memo) (at : q ≡ body_of t.index p e) (u : Sizes ExprPart t (buffers (table words memo) b.scope b.sizes) q x b₁) where
    inner : Sizes ExprPart t (buffers (table words memo) b.scope b.sizes) (body_of t.index p e) x b₁
    inner = subst (λ z. Sizes ExprPart t (buffers (table words memo) b.scope b.sizes) z x b₁) at u

    body-grows : Grows p.used x
    body-grows = grows_same (omega arith) inner.grows

    -- the body as the definition has it
    module _ (P : File) (F : Function) (ks : List ℕ) (L : List Instance) (left : ℕ) (i : IndexedFile t P) (h : Holds P b.list p.used L) (deep : instances_most ≤ left + length L)
        (v : Given P e F ks b.scope b.sizes) (new : find L e.function ks ≡ none) where
      told : line_behind_types t.index e.function ≡ function_line P e.function
      told = function-line i (look-less P.functions e.function v.function)

      known : BodyKnown P F
      known = body-known i.within e.function v.function

      here : Here t (buffers (table words memo) b.scope b.sizes) (body_of t.index p e) P known.scope (inside e.function (summed_measure F.measure ks)) (parameter_types F.parameters ks) ks (L ++ (entered e.function ks nothing ∷ [])) (left - 1)
      here = record {
        indexed = i;
        site = body-site v p t.index told known;
        holds = holds-added h a.0 a.1 room v.argued.padded new (body-row v nothing) (body-met v nothing w);
        deep = omega (arith, deep, length-append L (entered e.function ks nothing ∷ []), room, h.count);
      }

      part : ExprPart (line_at t.text (line_behind_types t.index e.function)) (body_of t.index p e) known.scope (past (line_at t.text (line_behind_types t.index e.function)) (body_at (functions_of t.index) e.function) (length (expr_bytes F.body))) F.body
      part = record {
        spelled = subst (λ n. Spells expr_bytes (line_at t.text n) (body_at (functions_of t.index) e.function) F.body) (sym told) (i.each_function e.function v.function).body;
        within = known.within;
        ends = refl;
      }

      body-agrees : Agrees P itself (past (line_at t.text (line_behind_types t.index e.function)) (body_at (functions_of t.index) e.function) (length (expr_bytes F.body))) b₁.list x (body_run P (entering P (left - 1)) e.function F ks L)
      body-agrees = inner.says P known.scope (inside e.function (summed_measure F.measure ks)) (parameter_types F.parameters ks) ks (L ++ (entered e.function ks nothing ∷ [])) (left - 1) here _ F.body part

      body-keeps : Sat (λ (y : Sized). Extends (L ++ (entered e.function ks nothing ∷ [])) y.list) (body_run P (entering P (left - 1)) e.function F ks L)
      body-keeps = sized-keeps P (entering P (left - 1)) (enters_keep P instances_most (left - 1)) F.body _ _ _ _

      entered_here : entering P left (suc p.place.line) e.function F ks (meaning e.ty) L ≡ bind (body_run P (entering P (left - 1)) e.function F ks L) (leaving P (suc p.place.line) e.function F ks (meaning e.ty) L)
      entered_here = entered-now P (suc p.place.line) e.function F ks (meaning e.ty) L left (left - 1) (omega (arith, deep, room, h.count)) new (omega (arith, room, h.count))

    pub body_refused : {why : RefusalAt} → x ≡ Err why → ChecksBody e t b p x b₁
    body_refused d = record {
      says = λ P F ks L left i h deep v new. rw (entered_here P F ks L left i h deep v new) (bind-no _ (body-agrees P F ks L left i h deep v new) d d);
      grows = body-grows;
    }

    module _ {k : Checked} {r : Bool} (d : x ≡ Ok k) (same : r ≡ same_type (meaning k.ty) (meaning e.ty)) where
      pub body-differs : r ≡ false → ChecksBody e t b p (Refused SizesDisagree (q.place.line + 1)) b₁
      body-differs no-match = record {
        says = λ P F ks L left i h deep v new. rw (entered_here P F ks L left i h deep v new) (bind_is _ (body-agrees P F ks L left i h deep v new) d (λ y c.
            need-fails _ (ap (λ τ. same_type τ (meaning e.ty)) (sym c.type) ∙ sym same ∙ no-match) (ap (λ z. Refused SizesDisagree (z.place.line + 1)) at ∙ ap (λ n. Refused SizesDisagree (n + 1)) (told P F ks L left i h deep v new))));
        grows = not_grown;
      }

      pub body-done : {words' : List ℕ} {m : Site} {z : Sizing} → r ≡ true → Finishes b₁.list.words p.used k.numbers words' → m ≡ moved_on_of p p.place.at k.used → z ≡ leaf_of e.ty k.numbers m →
          ChecksBody e t b p z (buffers (table words' b₁.list.memo) b₁.scope b₁.sizes)
      body-done {words'} match fin moved answer = let whole = answer ∙ ap (leaf_of e.ty k.numbers) moved in record {
        says = λ P F ks L left i h deep v new. rw (entered_here P F ks L left i h deep v new) (bind-knows _ (body-agrees P F ks L left i h deep v new) (body-keeps P F ks L left i h deep v new) d (λ y g c.
            need-holds 11 (function_frame P e.function) (ap (λ τ. same_type τ (meaning e.ty)) (sym c.type) ∙ sym same ∙ match)
            (agrees whole (record {
              type = refl;
              small = v.small;
              numbers = c.numbers;
              ends = refl;
              holds = holds-finished c.holds L (entered e.function ks nothing) (subst (λ n. Finishes b₁.list.words n k.numbers words') h.count fin) g c.numbers;
            }))));
        grows = grown-as whole (grows-to body-grows d);
      }

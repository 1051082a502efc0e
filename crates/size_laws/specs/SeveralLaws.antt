-- Arguments and fields, one after the other: what is known before each turn of the loop, and what each return gives.
use Rattle.language.specs.declared.refusals.RefusalAt.{RefusalAt}
use Rattle.std.specs.Prelude.{Ok, Err, Some, Option as Maybe}
use Rattle.size_steps.specs.Outcomes.{Counting, Sizing}
use Prim.Native.Nat.{ℕ, suc, ◌+◌, ◌-◌, ◌≤◌, ◌<◌}
use mathlib.Core.List.{List, [], ◌∷◌, ◌++◌, map, map-append}
use Rattle.std.proofs.Math.Option.{Option, none, some}
use Rattle.std.proofs.Math.Path.{◌≡◌, sym, ap, subst}
use Rattle.std.specs.Prelude.{refl, get_or, take, set}
use Rattle.std.proofs.Common.{◌∙◌, arith, length-append, take-suc-set}
use Rattle.std.proofs.Math.ListN.{length, length-set, get_elem? as look}
use Rattle.language.specs.Result.{Result, ok, no, bind, from}
use Rattle.language.specs.Syntax.{Ty, Exprs, enil, File}
use Rattle.language.specs.Format.{expr_bytes, exprs_bytes}
use Rattle.language.specs.Scope.{Scope}
use Rattle.language.specs.Within.{all_nil}
use Rattle.language.specs.Estimate.{nothing, after}
use Rattle.language.specs.Typing.{Place as Stand, frame_at}
use Rattle.language.specs.Checker.{Instance, Sized, Sizeds, sized, sizeds}
use Rattle.theory.specs.Alls.{all_snoc}
use Rattle.text.specs.declared.Cursor.{Cursor}
use Rattle.text.specs.Bytes.{declared_word}
use Rattle.text.specs.Places.{past, past-none}
use Rattle.encoding.specs.FrameLines.{line_at}
use Rattle.estimate.specs.Stands.{Stands}
use Rattle.index.specs.Indexed.{frame_part}
use Rattle.index.specs.FramePartLaws.{part-is-line}
use Rattle.index.specs.Sections.{frames_of}
use Rattle.heads.specs.declared.Form.TheVariants.{Variable}
use Rattle.text.specs.declared.Found.{Found}
use Rattle.heads.specs.Heads.{Shows, Heads}
use Rattle.heads.specs.HeadForms.{var-head}
use Rattle.heads.specs.Variables.{VariableRead, is_variable, no-variable}
use Rattle.sizes.specs.Promises.{meaning}
use Rattle.size_steps.specs.declared.Instances.{Instances}
use Rattle.size_steps.specs.declared.Scope.{Scope as ScopeHeld}
use Rattle.size_steps.specs.declared.Site.{Site}
use Rattle.size_steps.specs.declared.Checked.{Checked}
use Rattle.size_steps.specs.declared.Counted.{Counted}
use Rattle.size_steps.specs.Sites.{Bounded, moved_on_of, Kept, kept-all, kept_then, kept-moved}
use Rattle.size_steps.specs.Agreement.{Holds, Before, before_6, CheckedAs, CountedAs, Agrees, agrees, refused, beyond, itself, AgreesAll, agree, refused_all, beyond_all, grown_all, not_grown_all, grows-to}
use Rattle.size_steps.specs.Numbers.{NoneCounted, Joins, passed_to}
use Rattle.size_laws.specs.Promises.{Lent, Buffers, buffers_of, Here, entering, Sizes, SizesAll, ExprPart, ExprsPart}
use Rattle.size_laws.specs.HereLaws.{here-moved}
use Rattle.size_laws.specs.TurnLaws.{part-agrees, sizes-at}
use Rattle.size_laws.specs.TypesTold.{variable-told}
use Rattle.size_laws.specs.ExprsLeft.{none_within, MorePart, more-part, exprs-at}
use Rattle.size_laws.specs.Sums.{after_none, and_then, the_none_of, and_one, none_then, then-none, then-more}

-- ---- before part i of n: whole is the definition's answer for all of them, xs were checked and es are left; or an earlier pass
-- would have refused
pub data Gathered (t : Lent) (p : Site) (P : File) (S : Scope) (q : Stand) (Γ : List Ty) (Δ : List ℕ) (left n i end : ℕ) (b : Buffers) (row : List ℕ) (all : Counted) (whole : Result Sizeds) : Type 0 where
  gathered : {xs : Sizeds} {es : Exprs} → length xs.types ≡ i → CountedAs P all.next.at b.list row all xs → ExprsPart (line_at t.text p.place.line) (moved_on_of p all.next all.used) S (n - i) end es →
      whole ≡ bind (sizeds P (entering P left) es q Γ Δ xs.list) (λ ys. ok (and_then xs ys)) → Gathered t p P S q Γ Δ left n i end b row all whole
  lost : {k frame : ℕ} → Before k → whole ≡ no k frame → Gathered t p P S q Γ Δ left n i end b row all whole

pub record Gathers (t : Lent) (b₀ : Buffers) (p : Site) (n : ℕ) (row₀ : List ℕ) (i : ℕ) (b : Buffers) (row : List ℕ) (all : Counted) : Type 0 where
  pub says : (P : File) (S : Scope) (q : Stand) (Γ : List Ty) (Δ : List ℕ) (L : List Instance) (left : ℕ) → Here t b₀ p P S q Γ Δ L left → n ≤ length row₀ →
      (end : ℕ) (es : Exprs) → ExprsPart (line_at t.text p.place.line) p S n end es → Gathered t p P S q Γ Δ left n i end b row all (sizeds P (entering P left) es q Γ Δ L)
  pub grown : p.used ≤ all.used
  pub kept : Kept p b₀.scope b₀.sizes b.scope b.sizes
  pub long : length row ≡ length row₀

pub gathers-start : {t : Lent} {b : Buffers} {p : Site} {n : ℕ} {row : List ℕ} {all : Counted} → NoneCounted p.place.at p.used all → Gathers t b p n row 0 b row all
gathers-start {t} {p = p} {n = n} made = rw made.is (record {
  says = λ P S q Γ Δ L left h room end es part. gathered {xs = the_none_of L} refl (record { types = refl; small = all_nil; numbers = made.none.says; ends = refl; holds = h.holds })
      (subst (λ m. ExprsPart (line_at t.text p.place.line) (moved_on_of p p.place.at p.used) S m end es) (let same : n ≡ n - 0 = omega arith in same) (record { spelled = part.spelled; within = part.within; ends = part.ends })) (none_then L _);
  grown = omega arith;
  kept = kept-all;
  long = refl;
})

-- ---- a word more in the row
types_more : (row : List ℕ) (i : ℕ) (τs : List Ty) (τ : Ty) (word : ℕ) → length τs ≡ i → i < length row → word ≡ declared_word τ → take (length τs) row ≡ map declared_word τs →
    take (length (τs ++ (τ ∷ []))) (set row i word) ≡ map declared_word (τs ++ (τ ∷ []))
types_more row i τs τ word count less is so =
    let long : length (τs ++ (τ ∷ [])) ≡ suc i = omega (arith, length-append τs (τ ∷ []), count) in
    ap (λ k. take k (set row i word)) long ∙ take-suc-set row i word less ∙ ap (λ k. take k row ++ (word ∷ [])) (sym count) ∙ ap (λ l. l ++ (word ∷ [])) so ∙ ap (λ w. map declared_word τs ++ (w ∷ [])) is ∙ sym (map-append declared_word τs (τ ∷ []))

-- ---- one turn
module _ {t : Lent} {b₀ b : Buffers} {p : Site} {n i : ℕ} {row₀ row : List ℕ} {all : Counted} (v : Gathers t b₀ p n row₀ i b row all) (less : i < n) where
  -- one is left, and others behind it
  one_left : n - i ≡ suc (n - (i + 1))
  one_left = omega (arith, less)

  here-now : {P : File} {S : Scope} {q : Stand} {Γ : List Ty} {Δ : List ℕ} {L : List Instance} {left : ℕ} {xs : Sizeds} → Here t b₀ p P S q Γ Δ L left → CountedAs P all.next.at b.list row all xs →
      Here t b (moved_on_of p all.next all.used) P S q Γ Δ xs.list left
  here-now h c = here-moved h all.next v.kept c.holds v.grown

  module _ {P : File} {S : Scope} {q : Stand} {Γ : List Ty} {Δ : List ℕ} {left end : ℕ} {b₁ : Buffers} {all₁ : Counted} {xs : Sizeds} {es : Exprs} {word : ℕ} {whole : Result Sizeds}
      (count : length xs.types ≡ i) (room : i < length row) (c : CountedAs P all.next.at b.list row all xs) (m : MorePart (line_at t.text p.place.line) (moved_on_of p all.next all.used) S (n - (i + 1)) end es) where
    gathered-one : {row₁ : List ℕ} (y : Sized) → row₁ ≡ set row i word → word ≡ declared_word y.type → Bounded y.type → Stands all₁.numbers (after xs.numbers y.numbers) → Holds P b₁.list all₁.used y.list →
        all₁.next.at ≡ past (line_at t.text p.place.line) all.next.at (length (expr_bytes m.of.first)) → whole ≡ bind (sizeds P (entering P left) m.of.others q Γ Δ y.list) (λ ys. ok (and_then (and_one xs y) ys)) →
        Gathered t p P S q Γ Δ left n (i + 1) end b₁ row₁ all₁ whole
    gathered-one y put is small stands holds ends rest = rw put (gathered {xs = and_one xs y} (omega (arith, length-append xs.types (y.type ∷ []), count))
        (record { types = types_more row i xs.types y.type word count room is c.types; small = all_snoc c.small small; numbers = stands; ends = refl; holds = holds })
        (subst (λ k. ExprsPart (line_at t.text p.place.line) (moved_on_of p all₁.next all₁.used) S (n - (i + 1)) k m.of.others) (sym m.ends) (exprs-at _ m.next m.of.withins ends refl)) rest)

  -- an expression was checked
  module _ {o : Site} {x : Sizing} {b₁ : Buffers} (at : o ≡ moved_on_of p all.next all.used) (u : Sizes ExprPart t b o x b₁) where
    now : Sizes ExprPart t b (moved_on_of p all.next all.used) x b₁
    now = sizes-at at u

    now-kept : Kept p b₀.scope b₀.sizes b₁.scope b₁.sizes
    now-kept = kept_then v.kept (kept-moved now.kept)

    -- what it gave, and what the definition has of it
    module _ {P : File} {S : Scope} {q : Stand} {Γ : List Ty} {Δ : List ℕ} {L : List Instance} {left end : ℕ} (h : Here t b₀ p P S q Γ Δ L left) where
      first-agrees : {xs : Sizeds} {es : Exprs} → CountedAs P all.next.at b.list row all xs → (m : MorePart (line_at t.text p.place.line) (moved_on_of p all.next all.used) S (n - (i + 1)) end es) →
          Agrees P itself (past (line_at t.text p.place.line) all.next.at (length (expr_bytes m.of.first))) b₁.list x (sized P (entering P left) m.of.first q Γ Δ xs.list)
      first-agrees c m = part-agrees now (here-now h c) m.spelled m.of.within refl refl

      whole-first : (xs : Sizeds) {es : Exprs} {whole : Result Sizeds} (m : MorePart (line_at t.text p.place.line) (moved_on_of p all.next all.used) S (n - (i + 1)) end es) → whole ≡ bind (sizeds P (entering P left) es q Γ Δ xs.list) (λ ys. ok (and_then xs ys)) →
          whole ≡ bind (sized P (entering P left) m.of.first q Γ Δ xs.list) (λ (y : Sized). bind (sizeds P (entering P left) m.of.others q Γ Δ y.list) (λ ys. ok (and_then (and_one xs y) ys)))
      whole-first xs m is = is ∙ ap (λ l. bind (sizeds P (entering P left) l q Γ Δ xs.list) (λ ys. ok (and_then xs ys))) m.of.is ∙ then-more P (entering P left) q Γ Δ xs m.of.first m.of.others

    several-stops : {P : File} {end : ℕ} {A : Type 0} {view : A → Sized} {next : ℕ} {why : RefusalAt} {a : Result A} {whole : Result Sizeds} (κ : A → Result Sizeds) → Agrees P view next b₁.list x a → x ≡ Err why → whole ≡ bind a κ → AgreesAll P end b₁.list row (Err why) whole
    unfolding bind
    several-stops κ (agrees e g) d is = absurd (let same = sym e ∙ d in let z : ◌≡◌ {A = ℕ} 0 1 = cc in omega arith)
    several-stops {why} κ (refused {why = told} e) d is = let both : ◌≡◌ {A = Sizing} (Err why) (Err told) = sym d ∙ e in let same : why ≡ told = cc in rw is (refused_all (ap Err same))
    several-stops κ (beyond j) d is = rw is (beyond_all j)

    pub several-part : {why : RefusalAt} {r : Counting} → x ≡ Err why → r ≡ Err why → SizesAll t b₀ p n row₀ r b₁ row
    several-part {why} d answer = rw answer (record {
      says = λ P S q Γ Δ L left h room end es part. go h (v.says P S q Γ Δ L left h room end es part);
      grows = not_grown_all;
      kept = now-kept;
    })
      where
        go : {P : File} {S : Scope} {q : Stand} {Γ : List Ty} {Δ : List ℕ} {L : List Instance} {left end : ℕ} {whole : Result Sizeds} → Here t b₀ p P S q Γ Δ L left → Gathered t p P S q Γ Δ left n i end b row all whole →
            AgreesAll P end b₁.list row (Err why) whole
        go h (gathered {xs} count c part is) = let m = more-part part one_left in several-stops _ (first-agrees h {xs = xs} c m) d (whole-first h xs m is)
        go h (lost j is) = rw is (beyond_all j)

    gathers-on : {P : File} {S : Scope} {q : Stand} {Γ : List Ty} {Δ : List ℕ} {left end : ℕ} {k : Checked} {word : ℕ} {row₁ : List ℕ} {all₁ : Counted} {xs : Sizeds} {es : Exprs} {a : Result Sized} {whole : Result Sizeds} → x ≡ Ok k → word ≡ declared_word (meaning k.ty) → row₁ ≡ set row i word → Joins all k all₁ →
        length xs.types ≡ i → i < length row → CountedAs P all.next.at b.list row all xs → (m : MorePart (line_at t.text p.place.line) (moved_on_of p all.next all.used) S (n - (i + 1)) end es) →
        Agrees P itself (past (line_at t.text p.place.line) all.next.at (length (expr_bytes m.of.first))) b₁.list x a → whole ≡ bind a (λ (y : Sized). bind (sizeds P (entering P left) m.of.others q Γ Δ y.list) (λ ys. ok (and_then (and_one xs y) ys))) →
        Gathered t p P S q Γ Δ left n (i + 1) end b₁ row₁ all₁ whole
    unfolding bind
    gathers-on {P} {k = k} {all₁ = all₁} d is put joins count room c m (agrees {k = j} {x = y} e g) rest =
        let same : j ≡ k = (let both : Ok j ≡ Ok k = sym e ∙ d in cc) in
        let next : ℕ = past (line_at t.text p.place.line) all.next.at (length (expr_bytes m.of.first)) in
        let f : CheckedAs P next b₁.list k y = subst (λ z. CheckedAs P next b₁.list z y) same g in
        gathered-one {b₁ = b₁} {all₁ = all₁} count room c m y put (is ∙ ap declared_word f.type) f.small (joins.numbers.says _ _ c.numbers f.numbers)
        (subst (λ u. Holds P b₁.list u y.list) (sym joins.used) f.holds) (ap (λ z. z.at) joins.next ∙ f.ends) rest
    gathers-on d is put joins count room c m (refused e) rest = absurd (let same = sym e ∙ d in let z : ◌≡◌ {A = ℕ} 0 1 = cc in omega arith)
    gathers-on d is put joins count room c m (beyond j) rest = lost j rest

    pub several-turn : {k : Checked} {row₁ : List ℕ} {all₁ : Counted} (word : ℕ) → x ≡ Ok k → word ≡ declared_word (meaning k.ty) → row₁ ≡ set row i word → Joins all k all₁ → Gathers t b₀ p n row₀ (i + 1) b₁ row₁ all₁
    several-turn {k} {row₁} {all₁} word d is put joins = record {
      says = λ P S q Γ Δ L left h room end es part. go h room (v.says P S q Γ Δ L left h room end es part);
      grown = omega (arith, v.grown, grows-to now.grows d, joins.used);
      kept = now-kept;
      long = ap length put ∙ length-set row i word ∙ v.long;
    }
      where
        go : {P : File} {S : Scope} {q : Stand} {Γ : List Ty} {Δ : List ℕ} {L : List Instance} {left end : ℕ} {whole : Result Sizeds} → Here t b₀ p P S q Γ Δ L left → n ≤ length row₀ → Gathered t p P S q Γ Δ left n i end b row all whole →
            Gathered t p P S q Γ Δ left n (i + 1) end b₁ row₁ all₁ whole
        go h room (gathered {xs} count c part e) = let m = more-part part one_left in gathers-on d is put joins count (omega (arith, less, room, v.long)) c m (first-agrees h {xs = xs} c m) (whole-first h xs m e)
        go h room (lost j e) = lost j e

  -- a variable, whose word is taken over as it stands in the scope
  module _ {line : List ℕ} {r : Maybe Found} {number : ℕ} {next : Cursor} (cut : line ≡ frame_part t.text (frames_of t.index) p.place.line) (read : VariableRead line all.next.at r) (d : r ≡ Some (record { value = number; next = next })) where
    shows : Heads line all.next.at (record { form = Variable number; next = next })
    shows = go read d
      where
        go : {z : Maybe Found} → VariableRead line all.next.at z → z ≡ Some (record { value = number; next = next }) → Heads line all.next.at (record { form = Variable number; next = next })
        go (is_variable {f = w} s) e = let same : ◌≡◌ {A = Found} w (record { value = number; next = next }) = cc in record { shows = subst (λ (k : Found). Shows line all.next.at k.next.at (Variable k.value)) same s }
        go (no-variable f) e = absurd (let z : ◌≡◌ {A = ℕ} 0 1 = cc in omega arith)

    pub several-variable : {row₁ : List ℕ} {all₁ : Counted} (word : ℕ) → word ≡ get_or b.scope number 0 → row₁ ≡ set row i word → all₁ ≡ passed_to all next → Gathers t b₀ p n row₀ (i + 1) b row₁ all₁
    unfolding bind from sized
    several-variable {row₁} {all₁} word is put passed = rw passed (record {
      says = λ P S q Γ Δ L left h room end es part. go h room (v.says P S q Γ Δ L left h room end es part);
      grown = v.grown;
      kept = v.kept;
      long = ap length put ∙ length-set row i word ∙ v.long;
    })
      where
        typed : {P : File} {S : Scope} {q : Stand} {Γ : List Ty} {Δ : List ℕ} {L : List Instance} {left end : ℕ} {xs : Sizeds} {es : Exprs} {whole : Result Sizeds} → Here t b₀ p P S q Γ Δ L left → n ≤ length row₀ → length xs.types ≡ i →
            (c : CountedAs P all.next.at b.list row all xs) (m : MorePart (line_at t.text p.place.line) (moved_on_of p all.next all.used) S (n - (i + 1)) end es) →
            next.at ≡ past (line_at t.text p.place.line) all.next.at (length (expr_bytes m.of.first)) → (o : Option Ty) → look Γ number ≡ o →
            whole ≡ bind (from o 6 (frame_at P q) (λ τ. ok (record { type = τ; numbers = nothing; list = xs.list }))) (λ (y : Sized). bind (sizeds P (entering P left) m.of.others q Γ Δ y.list) (λ ys. ok (and_then (and_one xs y) ys))) →
            Gathered t p P S q Γ Δ left n (i + 1) end b row₁ (passed_to all next) whole
        typed {xs = xs} h room count c m ends (some τ) there rest =
            let told = variable-told (here-now h c).site number there in
            gathered-one {b₁ = b} {all₁ = passed_to all next} count (omega (arith, less, room, v.long)) c m (record { type = τ; numbers = nothing; list = xs.list }) put (is ∙ sym told.is) told.small
            (subst (Stands all.numbers) (after_none xs.numbers) c.numbers) c.holds ends rest
        typed h room count c m ends none there rest = lost before_6 rest

        go : {P : File} {S : Scope} {q : Stand} {Γ : List Ty} {Δ : List ℕ} {L : List Instance} {left end : ℕ} {whole : Result Sizeds} → Here t b₀ p P S q Γ Δ L left → n ≤ length row₀ → Gathered t p P S q Γ Δ left n i end b row all whole →
            Gathered t p P S q Γ Δ left n (i + 1) end b row₁ (passed_to all next) whole
        go {P} {q = q} {Γ = Γ} {Δ = Δ} {left = left} h room (gathered {xs} {es} count c part e) =
            let m = more-part part one_left in
            let here = subst (λ l. Heads l all.next.at (record { form = Variable number; next = next })) (part-is-line h.indexed p.place.line h.site.line cut) shows in
            let head = var-head here m.spelled m.of.within refl in
            typed {xs = xs} h room count c m head.ends (look Γ number) refl
            (e ∙ ap (λ l. bind (sizeds P (entering P left) l q Γ Δ xs.list) (λ ys. ok (and_then xs ys))) m.of.is ∙ then-more P (entering P left) q Γ Δ xs m.of.first m.of.others
            ∙ ap (λ f. bind (sized P (entering P left) f q Γ Δ xs.list) (λ (y : Sized). bind (sizeds P (entering P left) m.of.others q Γ Δ y.list) (λ ys. ok (and_then (and_one xs y) ys)))) head.is)
        go h room (lost j e) = lost j e

-- ---- all were checked
pub several-done : {t : Lent} {b₀ b : Buffers} {p : Site} {n i : ℕ} {row₀ row : List ℕ} {all : Counted} {r : Counting} → Gathers t b₀ p n row₀ i b row all → n ≤ i → r ≡ Ok all → SizesAll t b₀ p n row₀ r b row
unfolding exprs_bytes
several-done {t} {b₀} {b} {p} {n} {i} {row₀} {row} {all} v ended answer = rw answer (record {
  says = λ P S q Γ Δ L left h room end es part. go (v.says P S q Γ Δ L left h room end es part);
  grows = grown_all {k = all} v.grown;
  kept = v.kept;
})
  where
    go : {P : File} {S : Scope} {q : Stand} {Γ : List Ty} {Δ : List ℕ} {left end : ℕ} {whole : Result Sizeds} → Gathered t p P S q Γ Δ left n i end b row all whole → AgreesAll P end b.list row (Ok all) whole
    go {P} {q = q} {Γ = Γ} {Δ = Δ} {left = left} (gathered {xs} {es} count c part e) =
        let z : es ≡ enil = none_within part.within (omega (arith, ended)) in
        rw (e ∙ ap (λ l. bind (sizeds P (entering P left) l q Γ Δ xs.list) (λ ys. ok (and_then xs ys))) z ∙ then-none P (entering P left) q Γ Δ xs)
        (agree refl (record { types = c.types; small = c.small; numbers = c.numbers; ends = sym (part.ends ∙ ap (λ (l : Exprs). past (line_at t.text p.place.line) all.next.at (length (exprs_bytes l))) z ∙ past-none (line_at t.text p.place.line) all.next.at); holds = c.holds }))
    go (lost j e) = rw e (beyond_all j)

-- ---- where two arms meet, each thing is what the arm left in it
module _ {t : Lent} {b₀ : Buffers} {p : Site} {n : ℕ} {row₀ : List ℕ} {i : ℕ} {row : List ℕ} {all : Counted} {i' : Instances} {s' : ScopeHeld} {row' row₁ : List ℕ} {all' all₁ : Counted} where
  pub turned-variable : {i₁ : Instances} {s₁ : ScopeHeld} → Gathers t b₀ p n row₀ i (buffers_of i₁ s₁) row all → i < n →
      {line : List ℕ} {r : Maybe Found} {number : ℕ} {next : Cursor} → line ≡ frame_part t.text (frames_of t.index) p.place.line → VariableRead line all.next.at r → r ≡ Some (record { value = number; next = next }) → (word : ℕ) → word ≡ get_or s₁.types number 0 →
      row₁ ≡ set row i word → all₁ ≡ passed_to all next → i' ≡ i₁ → s' ≡ s₁ → row' ≡ row₁ → all' ≡ all₁ → Gathers t b₀ p n row₀ (i + 1) (buffers_of i' s') row' all'
  turned-variable v less cut read d word is put passed same-instances same-scope same_row same-all = rw (same-instances, same-scope, same_row, same-all) (several-variable v less cut read d word is put passed)

  pub turned-expr : {b : Buffers} → Gathers t b₀ p n row₀ i b row all → i < n → {o : Site} {x : Sizing} {k : Checked} {i₂ : Instances} {s₂ : ScopeHeld} → o ≡ moved_on_of p all.next all.used → Sizes ExprPart t b o x (buffers_of i₂ s₂) →
      x ≡ Ok k → (word : ℕ) → word ≡ declared_word (meaning k.ty) → row₁ ≡ set row i word → Joins all k all₁ →
      i' ≡ i₂ → s' ≡ s₂ → row' ≡ row₁ → all' ≡ all₁ → Gathers t b₀ p n row₀ (i + 1) (buffers_of i' s') row' all'
  turned-expr v less at u d word is put joins same-instances same-scope same_row same-all = rw (same-instances, same-scope, same_row, same-all) (several-turn v less at u word d is put joins)

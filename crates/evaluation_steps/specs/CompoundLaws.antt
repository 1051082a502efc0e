-- An expression that has parts, return by return: no slots for a call, an operand that is refused, and what the form makes of them.
use Rattle.std.specs.Prelude.{Ok, Err}
use Rattle.language.specs.declared.refusals.Refusal.{Refusal}
use Rattle.language.specs.declared.refusals.Refusal.TheVariants.{EnvironmentSpent}
use Rattle.evaluation_steps.specs.declared.Values.{Values}
use Rattle.new_cells.specs.Steps.{Evaluated, Numbered, by_number}
use Rattle.evaluation_steps.specs.Promises.{EvaluatedAll}
use Rattle.std.specs.Prelude.{ℕ, ◌-◌, ◌≤◌, ◌<◌, List, ◌++◌, ◌≡◌, length, take, drop}
use Rattle.std.proofs.Math.Path.{refl, ap, subst}
use Rattle.std.proofs.Common.{sym, ◌∙◌, subst₂, arith, le_refl, length-append, length-drop, take-take, length-take-le, le-leb}
use Rattle.std.proofs.lemmas.List.{take-append-le}
use Rattle.std.proofs.lemmas.Bool.{lt-leb}
use Rattle.language.specs.Limits.{byte_range}
use Rattle.language.specs.Syntax.{File}
use Rattle.language.specs.Format.{exprs_bytes}
use Rattle.language.specs.Scope.{Scope}
use Rattle.language.specs.Within.{All}
use Rattle.language.specs.Heap.{Cell}
use Rattle.language.specs.Evaluator.{Out, Outs, values, refused_all_of, bind_outs, Channels, evals, run}
use Rattle.theory.specs.CellWords.{Writable}
use Rattle.text.specs.declared.Cursor.{Cursor}
use Rattle.text.specs.Places.{past}
use Rattle.encoding.specs.FrameLines.{line_at}
use Rattle.encoding.specs.ExprLists.{exprs-counted}
use Rattle.heads.specs.declared.Form.{Form}
use Rattle.index.specs.Sections.{frames_of, types_of, functions_of}
use Rattle.index.specs.Indexed.{frame_place}
use Rattle.state_words.specs.Holds.{Holds}
use Rattle.new_cells.specs.Steps.{Kept}
use Rattle.evaluation_steps.specs.declared.Context.{Context}
use Rattle.evaluation_steps.specs.Operands.{the_operands_of, reserved_for, finished, operands-first, needs-met, needs-unmet}
use Rattle.evaluation_steps.specs.Forms.{operand_count, reserved_count, first_at}
use Rattle.evaluation_steps.specs.Contexts.{moved_to}
use Rattle.evaluation_steps.specs.Promises.{Room, Waits, Below, Stage, StandsAll, cells_in, AgreesAll, are_values, are_refused, as_value, EvalsAll}
use Rattle.evaluation_steps.specs.Asks.{AskForm, EvalsForm, Finishes}
use Rattle.evaluation_steps.specs.KeepLaws.{Moved, moved_by, kept_then, below-same, below_then, stage-moved}
use Rattle.evaluation_steps.specs.ExprLaws.{agrees-refused, kept-not, stage_at}
use Rattle.evaluation_steps.specs.PartLaws.{Parts, parts-of, first-behind}

-- ---- what the operands' answer says
record Gave (P : File) (words' row : List ℕ) (n end : ℕ) (v : Values) (o : Outs) : Type 0 where
  heap : List Cell
  is : o ≡ values (cells_in row n) heap
  held : Holds words' v.used heap
  writable : All (Writable P) heap
  place : v.next.at ≡ end

gave : {P : File} {words' row : List ℕ} {n end : ℕ} {v : Values} {x : EvaluatedAll} {o : Outs} → AgreesAll P words' row n end x o → x ≡ Ok v → Gave P words' row n end v o
gave {P} {words'} {row} {n} {end} {v} {x} {o} a e = go (subst (λ r. AgreesAll P words' row n end r o) e a)
  where
    go : {o : Outs} → AgreesAll P words' row n end (Ok v) o → Gave P words' row n end v o
    go (are_values {h = h} held writable stored place) = record { heap = h; is = ap (λ (ls : List ℕ). values ls h) (sym stored); held = held; writable = writable; place = place }

-- a refusal, by the number that the definition gives it
record GaveNot (k : Refusal) (o : Outs) : Type 0 where
  number : ℕ
  is : o ≡ refused_all_of number
  numbered : Numbered k number

gave_not : {P : File} {words' row : List ℕ} {n end : ℕ} {k : Refusal} {x : EvaluatedAll} {o : Outs} → AgreesAll P words' row n end x o → x ≡ Err k → GaveNot k o
gave_not {P} {words'} {row} {n} {end} {k} {x} {o} a e = go (subst (λ r. AgreesAll P words' row n end r o) e a)
  where
    go : {o : Outs} → AgreesAll P words' row n end (Err k) o → GaveNot k o
    go (are_refused {m = m} n) = record { number = m; is = refl; numbered = n }

-- ---- slots lent up to a place
pub cut_below : {top room : ℕ} {slots part part' slots' : List ℕ} → top ≤ room → room ≤ length slots → part ≡ take room slots → Below top part part' → slots' ≡ part' ++ drop room slots → Below top slots slots'
cut_below {top} {room} {slots} {part} {part'} le within cut b back =
    let long : length part ≡ room = ap length cut ∙ length-take-le room slots within in
    rw back (record {
      low = take-append-le top part' (drop room slots) (omega (arith, b.long, long)) ∙ b.low ∙ ap (take top) cut ∙ take-take top room slots le;
      long = length-append part' (drop room slots) ∙ omega (arith, b.long, long, length-drop room slots);
    })

module _ (text index ends now words slots : List ℕ) (p : Context) (form : Form) {w : ℕ} (wait : (w ≡ reserved_count (functions_of index) form) × (w < byte_range)) where
  module _ {P : File} {cells : ℕ} {S : Scope} {N : Channels} {h : List Cell} {o : Out} (st : Stage text index ends now words p P cells S N h) (ask : AskForm text index ends slots p form P cells S N h o) where
    parts : Parts text index ends p.line P S form p.at.at ask.expr
    parts = parts-of st.indexed st.known ask.stands form ask.compound ask.heads

    waits : reserved_for P ask.expr ≡ w
    waits = parts.reserved ∙ sym wait.0

  pub compound-full : {r : Evaluated} → length slots - p.top < w → r ≡ Err EnvironmentSpent → EvalsForm text index ends now words slots p form r words slots
  compound-full full q = record {
    says = λ {P} {cells} {S} {N} {h} st ask.
        agrees-refused by_number q (needs-unmet _ _ _ (ask.is ∙ operands-first P (run P cells p.calls) cells N (take p.top slots) (length slots - p.top) h ask.expr (parts st ask).compound)
        (lt-leb (reserved_for P ask.expr) (length slots - p.top) (omega (arith, full, waits st ask))));
    kept = kept-not q;
    below = below-same p.top slots;
  }

  module _ (room : Room words slots p) (free : w ≤ length slots - p.top) {n : ℕ} (count : (n ≡ operand_count (types_of index) (functions_of index) form) × (n < byte_range))
      {c : Cursor} (first : c.at ≡ first_at ends (frame_place (frames_of index) p.line) form p.at.at) {q₁ : Context} (there : q₁ ≡ moved_to p c p.used)
      {cut : ℕ} (until : cut ≡ length slots - w) {part part₁ slots₁ words₁ row₁ : List ℕ} (lent : part ≡ take cut slots) (back : slots₁ ≡ part₁ ++ drop cut slots)
      {x : EvaluatedAll} (v : EvalsAll text index ends now words part q₁ n x words₁ part₁ row₁) where
    here : EvalsAll text index ends now words part (moved_to p c p.used) n x words₁ part₁ row₁
    here = rw there at v

    pub so-below : Below p.top slots slots₁
    so-below = cut_below {room = cut} (omega (arith, until, room.top)) (omega (arith, until)) lent here.below back

    module _ {P : File} {cells : ℕ} {S : Scope} {N : Channels} {h : List Cell} {o : Out} (st : Stage text index ends now words p P cells S N h) (ask : AskForm text index ends slots p form P cells S N h o) where
      stands : StandsAll text index ends p.line S c.at n (the_operands_of ask.expr)
      stands = subst₂ (λ a b. StandsAll text index ends p.line S a b (the_operands_of ask.expr)) (sym first) (sym count.0) (parts st ask).stands

      asked : evals P (run P cells p.calls) cells N (the_operands_of ask.expr) (take p.top part) (length part - p.top) h ≡
          evals P (run P cells p.calls) cells N (the_operands_of ask.expr) (take p.top slots) (length slots - p.top - reserved_for P ask.expr) h
      asked =
          let env : take p.top part ≡ take p.top slots = ap (take p.top) lent ∙ take-take p.top cut slots (omega (arith, until, room.top)) in
          let long : length part ≡ cut = ap length lent ∙ length-take-le cut slots (omega (arith, until)) in
          let left : length part - p.top ≡ length slots - p.top - reserved_for P ask.expr = omega (arith, long, until, waits st ask) in
          ap (λ (E : List ℕ). evals P (run P cells p.calls) cells N (the_operands_of ask.expr) E (length part - p.top) h) env ∙
          ap (λ s. evals P (run P cells p.calls) cells N (the_operands_of ask.expr) (take p.top slots) s h) left

      given : AgreesAll P words₁ row₁ n (past (line_at text p.line) c.at (length (exprs_bytes (the_operands_of ask.expr)))) x
          (evals P (run P cells p.calls) cells N (the_operands_of ask.expr) (take p.top slots) (length slots - p.top - reserved_for P ask.expr) h)
      given = rw asked at (here.says (stage_at c st) stands)

      split : o ≡ bind_outs (evals P (run P cells p.calls) cells N (the_operands_of ask.expr) (take p.top slots) (length slots - p.top - reserved_for P ask.expr) h)
          (λ ls g. finished P (run P cells p.calls) cells N ask.expr (take p.top slots) (length slots - p.top) ls g)
      split = needs-met _ _ _ (ask.is ∙ operands-first P (run P cells p.calls) cells N (take p.top slots) (length slots - p.top) h ask.expr (parts st ask).compound)
          (le-leb (reserved_for P ask.expr) (length slots - p.top) (omega (arith, free, waits st ask)))

    pub compound-moved : {y : Values} → x ≡ Ok y → Moved words p.used words₁ y.used
    compound-moved d = moved_by here.kept (ap as_value d)

    pub compound-refused : {k : Refusal} {r : Evaluated} → x ≡ Err k → r ≡ Err k → EvalsForm text index ends now words slots p form r words₁ slots₁
    unfolding bind_outs
    compound-refused {k} {r} d q = rw q (record {
      says = λ {P} {cells} {S} {N} {h} st ask.
          let u = gave_not (given st ask) d in
          agrees-refused u.numbered refl (split st ask ∙ ap (λ (z : Outs). bind_outs z (λ ls g. finished P (run P cells p.calls) cells N ask.expr (take p.top slots) (length slots - p.top) ls g)) u.is);
      kept = subst (Kept words words₁ p.used) (ap as_value d) here.kept;
      below = so-below;
    })

    pub compound-done : {y : Values} {q₂ : Context} {r : Evaluated} {words₂ slots₂ : List ℕ} → x ≡ Ok y → q₂ ≡ moved_to p y.next y.used → Finishes text index ends now words₁ slots₁ q₂ form row₁ n r words₂ slots₂ →
        EvalsForm text index ends now words slots p form r words₂ slots₂
    unfolding bind_outs
    compound-done {y} {q₂} {r} {words₂} {slots₂} d e f = go (rw e at f)
      where
        m : Moved words p.used words₁ y.used
        m = compound-moved d

        go : Finishes text index ends now words₁ slots₁ (moved_to p y.next y.used) form row₁ n r words₂ slots₂ → EvalsForm text index ends now words slots p form r words₂ slots₂
        go f = record {
          says = λ {P} {cells} {S} {N} {h} st ask.
              let u = gave (given st ask) d in
              f.says (stage-moved st m y.next u.held u.writable) (record {
                expr = ask.expr;
                at = ask.at;
                next = p.at;
                stands = ask.stands;
                heads = ask.heads;
                compound = ask.compound;
                count = exprs-counted (stands st ask).within;
                behind = λ other. u.place ∙ ap (λ a. past (line_at text p.line) a (length (exprs_bytes (the_operands_of ask.expr)))) (first ∙ first-behind ends (frame_place (frames_of index) p.line) form p.at.at other);
                is = split st ask ∙ ap (λ (z : Outs). bind_outs z (λ ls g. finished P (run P cells p.calls) cells N ask.expr (take p.top slots) (length slots - p.top) ls g)) u.is ∙
                    ap (λ (E : List ℕ). finished P (run P cells p.calls) cells N ask.expr E (length slots - p.top) (cells_in row₁ n) u.heap) (sym so-below.low) ∙
                    ap (λ s. finished P (run P cells p.calls) cells N ask.expr (take p.top slots₁) (s - p.top) (cells_in row₁ n) u.heap) (sym so-below.long);
              });
          kept = kept_then m f.kept;
          below = below_then so-below f.below (le_refl p.top);
        }

    -- the slots of a call are still free
    pub still-free : Waits form p.top n slots₁
    still-free f e = omega (arith, free, room.top, so-below.long, same)
      where
        same : n ≡ w
        same = count.0 ∙ ap (operand_count (types_of index) (functions_of index)) e ∙ sym (wait.0 ∙ ap (reserved_count (functions_of index)) e)

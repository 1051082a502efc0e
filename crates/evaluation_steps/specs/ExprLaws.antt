-- An expression, return by return: what is read at once, and what is left to the functions of the forms.
use Rattle.std.specs.Prelude.{Option, Some, Ok, Err}
use Rattle.new_cells.specs.Steps.{Evaluated}
use Rattle.std.specs.Prelude.{ℕ, ◌-◌, List, true, ◌≡◌, refl, length, get_or, take}
use Rattle.std.proofs.Common.{sym, ◌∙◌, subst}
use Rattle.std.proofs.Math.Path.{ap}
use Rattle.language.specs.Syntax.{Expr, File}
use Rattle.language.specs.Scope.{Scope}
use Rattle.language.specs.Heap.{Cell}
use Rattle.language.specs.Evaluator.{Out, value, refused, Channels, eval, run}
use Rattle.text.specs.declared.Cursor.{Cursor}
use Rattle.encoding.specs.FrameLines.{line_at}
use Rattle.heads.specs.declared.Form.{Form}
use Rattle.heads.specs.declared.Form.TheVariants.{Bool as BoolForm, Int, Variable, Now, Last, Missing}
use Rattle.heads.specs.declared.Head.{Head}
use Rattle.text.specs.declared.Found.{Found}
use Rattle.language.specs.declared.refusals.Refusal.{Refusal}
use Rattle.heads.specs.Heads.{Heads, Shows, has_parts}
use Rattle.heads.specs.HeadForms.{no-missing, bool-head, int-head, var-head, channel-head, now_named, last_named}
use Rattle.heads.specs.Variables.{VariableRead, is_variable}
use Rattle.index.specs.Sections.{frames_of}
use Rattle.index.specs.Indexed.{frame_part}
use Rattle.state_words.specs.Words.{channel_at}
use Rattle.new_cells.specs.Steps.{Board, Numbered, Lies, Agrees, is_value, is_refused, Kept, Gives}
use Rattle.new_cells.specs.Asked.{MakesBool, MakesInt}
use Rattle.evaluation_steps.specs.declared.Context.{Context}
use Rattle.evaluation_steps.specs.Contexts.{moved_to}
use Rattle.evaluation_steps.specs.Promises.{Room, Stage}
use Rattle.evaluation_steps.specs.Asks.{AskExpr, EvalsExpr, EvalsForm}
use Rattle.evaluation_steps.specs.KeepLaws.{kept-refused, kept-value, below-same}

-- ---- an answer that nothing was written for
pub agrees-value : {P : File} {cells : ℕ} {words : List ℕ} {used l : ℕ} {h : List Cell} {r : Evaluated} {o : Out} → Lies P cells words used h → r ≡ Ok (record { cell = l; used = used }) → o ≡ value l h → Agrees P words r o
agrees-value {P} {words = words} v q e = rw (q, e) (is_value v.held v.writable)

pub agrees-refused : {P : File} {words : List ℕ} {n : Refusal} {m : ℕ} {r : Evaluated} {o : Out} → Numbered n m → r ≡ Err n → o ≡ refused m → Agrees P words r o
agrees-refused k q e = rw (q, e) (is_refused k)

pub kept-is : {words : List ℕ} {used l : ℕ} {r : Evaluated} → Board words used → r ≡ Ok (record { cell = l; used = used }) → Kept words words used r
kept-is b q = rw q (kept-value b)

pub kept-not : {words : List ℕ} {used : ℕ} {n : Refusal} {r : Evaluated} → r ≡ Err n → Kept words words used r
kept-not q = rw q kept-refused

-- the same line elsewhere
pub stage_at : {text index ends now words : List ℕ} {p : Context} {P : File} {cells : ℕ} {S : Scope} {N : Channels} {h : List Cell} (c : Cursor) → Stage text index ends now words p P cells S N h →
    Stage text index ends now words (moved_to p c p.used) P cells S N h
stage_at c st = record { indexed = st.indexed; told = st.told; less = st.less; known = st.known; now_cells = st.now_cells; last_cells = st.last_cells; few = st.few; lies = st.lies }

module _ (text index ends now words slots : List ℕ) (p : Context) (room : Room words slots p) {line : List ℕ} (part : line ≡ frame_part text (frames_of index) p.line) where
  module _ {head : Head} (heads : Heads line p.at.at head) where
    heads-in : {P : File} {cells : ℕ} {S : Scope} {N : Channels} {h : List Cell} → Stage text index ends now words p P cells S N h → Heads (line_at text p.line) p.at.at head
    heads-in st = subst (λ l. Heads l p.at.at head) (part ∙ (st.indexed.each_frame p.line st.less).line) heads

    pub expr-bool : {b : ℕ} {r : Evaluated} {words' : List ℕ} → head.form ≡ BoolForm b → Gives words p.used (MakesBool b) r words' → EvalsExpr text index ends now words slots p r words' slots
    unfolding eval
    expr-bool q g = record {
      says = λ {P} {cells} {S} {N} {h} st ask.
          let i = bool-head (heads-in st) ask.stands.spelled ask.stands.within q in
          g.says st.lies (record { truth = i.value; spelled = i.byte; is = ask.is ∙ ap (λ (a : Expr). eval P (run P cells p.calls) cells N a (take p.top slots) (length slots - p.top) h) i.is });
      kept = g.kept;
      below = below-same p.top slots;
    }

    pub expr-int : {n : ℕ} {r : Evaluated} {words' : List ℕ} → head.form ≡ Int n → Gives words p.used (MakesInt n) r words' → EvalsExpr text index ends now words slots p r words' slots
    unfolding eval
    expr-int q g = record {
      says = λ {P} {cells} {S} {N} {h} st ask.
          let i = int-head (heads-in st) ask.stands.spelled ask.stands.within q in
          g.says st.lies (record { is = ask.is ∙ ap (λ (a : Expr). eval P (run P cells p.calls) cells N a (take p.top slots) (length slots - p.top) h) i.is });
      kept = g.kept;
      below = below-same p.top slots;
    }

    module _ {l : ℕ} {r : Evaluated} (e : r ≡ Ok (record { cell = l; used = p.used })) where
      read : ((P : File) (cells : ℕ) (S : Scope) (N : Channels) (h : List Cell) (o : Out) → Stage text index ends now words p P cells S N h → AskExpr text index ends slots p P cells S N h o → o ≡ value l h) →
          EvalsExpr text index ends now words slots p r words slots
      read is = record { says = λ {P} {cells} {S} {N} {h} {o} st ask. agrees-value st.lies e (is P cells S N h o st ask); kept = kept-is room.board e; below = below-same p.top slots }

      pub expr-variable : {v : ℕ} → head.form ≡ Variable v → l ≡ get_or (take p.top slots) v 0 → EvalsExpr text index ends now words slots p r words slots
      unfolding eval
      expr-variable {v} q w = read (λ P cells S N h o st ask.
          let i = var-head (heads-in st) ask.stands.spelled ask.stands.within q in
          ask.is ∙ ap (λ (a : Expr). eval P (run P cells p.calls) cells N a (take p.top slots) (length slots - p.top) h) i.is ∙ ap (λ m. value m h) (sym w))

      pub expr-now : {c : ℕ} → head.form ≡ Now c → l ≡ get_or now c 0 → EvalsExpr text index ends now words slots p r words slots
      unfolding eval
      expr-now {c} q w = read (λ P cells S N h o st ask.
          let i = channel-head (heads-in st) ask.stands.spelled ask.stands.within (now_named q) in
          ask.is ∙ ap (λ (a : Expr). eval P (run P cells p.calls) cells N a (take p.top slots) (length slots - p.top) h) i.is ∙ ap (λ m. value m h) (sym (w ∙ st.now_cells c i.less)))

      pub expr-last : {c : ℕ} → head.form ≡ Last c → l ≡ channel_at words c → EvalsExpr text index ends now words slots p r words slots
      unfolding eval
      expr-last {c} q w = read (λ P cells S N h o st ask.
          let i = channel-head (heads-in st) ask.stands.spelled ask.stands.within (last_named q) in
          ask.is ∙ ap (λ (a : Expr). eval P (run P cells p.calls) cells N a (take p.top slots) (length slots - p.top) h) i.is ∙ ap (λ m. value m h) (sym (w ∙ st.last_cells c i.less)))

    pub expr-missing : {n : Refusal} {r : Evaluated} → head.form ≡ Missing → r ≡ Err n → EvalsExpr text index ends now words slots p r words slots
    expr-missing q e = record { says = λ st ask. absurd (no-missing (heads-in st) ask.stands.spelled q); kept = kept-not e; below = below-same p.top slots }

    -- p at the place behind the head
    pub expr-compound : {q : Context} {form : Form} {r : Evaluated} {words' slots' : List ℕ} → q ≡ moved_to p head.next p.used → form ≡ head.form → has_parts head.form ≡ true → EvalsForm text index ends now words slots q form r words' slots' →
        EvalsExpr text index ends now words slots p r words' slots'
    expr-compound {r = r} {words' = words'} {slots' = slots'} e f parts v = go (rw (e, f) at v)
      where
        go : EvalsForm text index ends now words slots (moved_to p head.next p.used) head.form r words' slots' → EvalsExpr text index ends now words slots p r words' slots'
        go v = record {
          says = λ st ask. v.says (stage_at head.next st) (record { expr = ask.expr; at = p.at.at; stands = ask.stands; heads = heads-in st; compound = parts; is = ask.is });
          kept = v.kept;
          below = v.below;
        }

  -- a variable as an operand
  pub operand-variable : {x : Option Found} {f : Found} {l : ℕ} {r : Evaluated} → VariableRead line p.at.at x → x ≡ Some f → l ≡ get_or (take p.top slots) f.value 0 → r ≡ Ok (record { cell = l; used = p.used }) → EvalsExpr text index ends now words slots p r words slots
  operand-variable {f = f} q e w s = expr-variable {head = record { form = Variable f.value; next = f.next }} (record { shows = shown (subst (VariableRead line p.at.at) e q) }) s refl w
    where
      shown : VariableRead line p.at.at (Some f) → Shows line p.at.at f.next.at (Variable f.value)
      shown (is_variable s) = s

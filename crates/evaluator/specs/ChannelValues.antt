-- The value of an expression that stands in the line of a channel: what is known of it there, and what evaluating it promises.
use Rattle.std.specs.Prelude.{ℕ, ◌+◌, ◌-◌, ◌≤◌, ◌<◌, List, [], ◌≡◌, length, get_or}
use Rattle.std.proofs.Common.{sym, ap, subst, arith}
use Rattle.language.specs.Limits.{nesting_most, channels_most}
use Rattle.language.specs.Syntax.{Expr, File}
use Rattle.language.specs.Format.{expr_bytes}
use Rattle.language.specs.Scope.{outer_scope}
use Rattle.language.specs.Within.{WithinExpr}
use Rattle.language.specs.Heap.{Cell}
use Rattle.language.specs.Evaluator.{Channels, eval, run}
use Rattle.language.specs.Machine.{Board as MachineBoard}
use Rattle.text.specs.declared.Cursor.{Cursor}
use Rattle.encoding.specs.Spells.{Spells}
use Rattle.encoding.specs.FrameLines.{line_at}
use Rattle.encoding.specs.Known.{outer-known}
use Rattle.heads.specs.Places.{channel_line_of, channel-line}
use Rattle.index.specs.Indexed.{channel_line, Indexed}
use Rattle.state_words.specs.Words.{channel_at}
use Rattle.new_cells.specs.Steps.{Evaluated, Lies, Agrees, Kept}
use Rattle.ends.specs.Ended.{LineEnded, BodiesTold}
use Rattle.evaluation_steps.specs.declared.Context.{Context}
use Rattle.evaluation_steps.specs.Promises.{Stage, Stands}
use Rattle.evaluation_steps.specs.Asks.{EvalsExpr}

abbrev pub channel_context : List ℕ → ℕ → Cursor → ℕ → ℕ → Context
channel_context index c at used calls = record { at = at; line = channel_line_of index c; top = 0; used = used; calls = calls }

-- what is lent: the slots are as many as there are
abbrev pub board_lent : ℕ → List ℕ → ℕ → MachineBoard
board_lent cells slots calls = record { cells = cells; slots = length slots; calls = calls }

-- ---- the promise
-- an expression that starts at a place of channel c's line and may name so many channels, in a file and a heap
pub record OfChannel (text index ends row words : List ℕ) (used : ℕ) (P : File) (cells c at channels : ℕ) (N : Channels) (h : List Cell) (e : Expr) : Type 0 where
  pub indexed : Indexed text index P
  pub bodies : BodiesTold text index ends P
  pub less : c < length P.inputs + length P.nodes
  pub now_cells : (k : ℕ) → k < channels → get_or row k 0 ≡ get_or N.now k 0
  pub last_cells : (k : ℕ) → k < channels → channel_at words k ≡ get_or N.last k 0
  pub few : channels ≤ channels_most
  pub lies : Lies P cells words used h
  pub within : WithinExpr nesting_most (outer_scope P.types P.functions channels) e
  pub spelled : Spells expr_bytes (line_at text (channel_line P c)) at e
  pub ended : LineEnded text index (channel_line P c) at e ends

pub record EvalsChannel (text index ends row : List ℕ) (c at used calls : ℕ) (words slots : List ℕ) (r : Evaluated) (words' slots' : List ℕ) : Type 0 where
  pub says : {P : File} {cells channels : ℕ} {N : Channels} {h : List Cell} {e : Expr} → OfChannel text index ends row words used P cells c at channels N h e → Agrees P words' r (eval P (run P cells calls) cells N e [] (length slots) h)
  pub kept : Kept words words' used r
  pub long : length slots' ≡ length slots

-- ---- where it is evaluated
pub channel-placed : (index : List ℕ) (c : ℕ) (at : Cursor) (used calls : ℕ) {line : ℕ} → line ≡ channel_line_of index c → ◌≡◌ {A = Context} (record { at = at; line = line; top = 0; used = used; calls = calls }) (channel_context index c at used calls)
channel-placed index c at used calls e = λ i. record { at = at; line = e i; top = 0; used = used; calls = calls }

-- ---- what it gives
module _ (text index ends row : List ℕ) (c : ℕ) (at : Cursor) (used calls : ℕ) (words slots : List ℕ) where
  module _ {P : File} {cells channels : ℕ} {N : Channels} {h : List Cell} {e : Expr} (o : OfChannel text index ends row words used P cells c at.at channels N h e) where
    its-line : channel_line_of index c ≡ channel_line P c
    its-line = channel-line c o.indexed o.less

    stage : Stage text index ends row words (channel_context index c at used calls) P cells (outer_scope P.types P.functions channels) N h
    unfolding outer_scope
    stage = record {
      indexed = o.indexed;
      told = o.bodies;
      less = omega (arith, its-line, o.less);
      known = outer-known P channels;
      now_cells = o.now_cells;
      last_cells = o.last_cells;
      few = o.few;
      lies = o.lies;
    }

    stands : Stands text index ends (channel_line_of index c) (outer_scope P.types P.functions channels) at.at e
    stands = subst (λ i. Stands text index ends i (outer_scope P.types P.functions channels) at.at e) (sym its-line) (record { levels = nesting_most; within = o.within; spelled = o.spelled; ended = o.ended })

  pub channel-evaluated : {p : Context} {x : Evaluated} {words' slots' : List ℕ} → p ≡ channel_context index c at used calls → EvalsExpr text index ends row words slots p x words' slots' → EvalsChannel text index ends row c at.at used calls words slots x words' slots'
  channel-evaluated {x = x} {words' = words'} {slots' = slots'} e v =
      let here : EvalsExpr text index ends row words slots (channel_context index c at used calls) x words' slots' = rw e at v in
      record {
        says = λ {P} {cells} {channels} {N} {h} {e = a} o. here.says (stage o) (record { expr = a; stands = stands o; is = ap (λ s. eval P (run P cells calls) cells N a [] s h) (all-free (length slots)) });
        kept = here.kept;
        long = here.below.long;
      }
    where
      all-free : (s : ℕ) → s ≡ s - 0
      all-free s = omega arith

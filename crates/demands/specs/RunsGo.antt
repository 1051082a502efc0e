-- Demand 3 of the delivered calls: their runs are the machine's, of which the theorem speaks.
use Rattle.std.specs.Prelude.{ℕ, List, [], ◌∷◌, map, ◌≡◌, refl}
use Rattle.std.proofs.Common.{sym, ap, ◌∙◌, subst}
use Rattle.language.specs.Syntax.{File}
use Rattle.language.specs.Estimate.{Estimate}
use Rattle.language.specs.Heap.{Tree}
use Rattle.language.specs.Machine.{answer}
use Rattle.language.specs.PlainMachine.{initial_trees}
use Rattle.language.specs.Run.{FirstCall, Call, Reported, begun, called, Goes, ends, goes, CallsAllowed, no_call, a_call, Run, Alike, both_end, both_go, lines_in}
use Rattle.theory.specs.Demand.{demand-3}
use Rattle.instance_list.specs.Records.{records_of}
use Rattle.answers.specs.declared.Board.{Board}
use Rattle.answers.specs.declared.Answer.{Answer}
use Rattle.answers.specs.Boards.{board_of, said}
use Rattle.runtime.specs.Runs.{Iterates}
use Rattle.demands.specs.Delivered.{LineCall, lent_by, Called, no_line, a_line, RunOf, GoesOn, at_end, goes_on, SameRuns, both_done, both_on, lines_of, AcceptedWith, Delivered3}

abbrev lent_in : List LineCall → List Call
lent_in cs = map lent_by cs

-- ---- one call: the state that it left and its answer are the machine's
module _ {text ws : List ℕ} (c : LineCall) {scratch' slots' : List ℕ} (i : Iterates text c.board ws c.scratch c.slots c.line c.answer c.after scratch' slots') where
  left_is : c.after ≡ (called text ws (lent_by c)).state
  left_is = λ k. (i.is k).state

  answer_is : said c.answer ≡ (called text ws (lent_by c)).answer
  answer_is = λ k. (i.is k).answer

-- ---- the calls of a run
calls-allowed : {text : List ℕ} {x : Estimate} {cells : ℕ} {ws : List ℕ} {cs : List LineCall} → Called text x cells ws cs → CallsAllowed text x cells ws (lent_in cs)
calls-allowed no_line = no_call
calls-allowed {text} {x} {cells} (a_line {c = c} {cs = cs} allowed i rest) = a_call allowed (subst (λ us. CallsAllowed text x cells us (lent_in cs)) (left_is c i) (calls-allowed rest))

calls-go : {text : List ℕ} {P : File} {x : Estimate} {cells : ℕ} {ws : List ℕ} {vs : List Tree} {cs : List LineCall} → Called text x cells ws cs → Goes text P x cells ws vs (lent_in cs) → GoesOn P cells ws vs cs
calls-go no_line (ends h) = at_end h
calls-go {text} {P} {x} {cells} (a_line {c = c} {cs = cs} allowed i rest) (goes {us = us} h said-so stepped more) =
    goes_on h (answer_is c i ∙ said-so) stepped (calls-go rest (subst (λ ws. Goes text P x cells ws us (lent_in cs)) (sym (left_is c i)) more))

calls-alike : {text : List ℕ} {P : File} {x : Estimate} {m n : ℕ} {v w : List ℕ} {cs ds : List LineCall} → Called text x m v cs → Called text x n w ds → Alike text P m n v w (lent_in cs) (lent_in ds) → SameRuns P m n v w cs ds
calls-alike no_line no_line (both_end a b e) = both_done a b e
calls-alike {text} {P} {m = m} {n = n} {w = w} (a_line {c = c} {cs = cs} l i rest) (a_line {c = d} {cs = ds} k j more) (both_go a b e same on) =
    both_on a b e (answer_is c i ∙ same ∙ sym (answer_is d j))
    (calls-alike rest more (subst (λ u. Alike text P m n c.after u (lent_in cs) (lent_in ds)) (sym (left_is d j)) (subst (λ u. Alike text P m n u (called text w (lent_by d)).state (lent_in cs) (lent_in ds)) (sym (left_is c i)) on)))
calls-alike {text = text} {P = P} {m = m} {n = n} {w = w} (no_line {ws = ws}) (a_line {c = d} {cs = ds} k j more) x18 = elim x18 [ ]
calls-alike {text = text} {P = P} {m = m} {n = n} {w = w} (a_line {ws = ws} {c = c} {cs = cs} l i rest) no_line x13 = elim x13 [ ]

lines-lent : (cs : List LineCall) → lines_in (lent_in cs) ≡ lines_of cs
lines-lent [] = refl
lines-lent (c ∷ cs) = ap (λ (z : List (List ℕ)). c.line ∷ z) (lines-lent cs)

-- ---- the run
module _ {text : List ℕ} {x : Estimate} {b : Board} {r : Answer} {ws : List ℕ} {cs : List LineCall} (u : RunOf text x b r ws cs) where
  abbrev first : FirstCall
  first = record { board = board_of b; list = records_of u.list; state = u.state; scratch = u.scratch; slots = u.slots }

  runs : Run text x first (lent_in cs)
  runs = record { begins = u.allowed; calls = subst (λ z. CallsAllowed text x b.cells z (lent_in cs)) u.starts.state_is (calls-allowed u.calls) }

reported : {text : List ℕ} {x : Estimate} → AcceptedWith text x → Reported text x
reported a = record { board = board_of a.board; list = records_of a.list; is = sym a.checks.answer ∙ a.accepts }

pub delivered-3 : Delivered3
delivered-3 = record {
  every = λ text P x read a {b} {r} {ws} {cs} u.
      let claim = demand-3.every text P x read (reported a) (first u) (lent_in cs) (runs u) in
      (u.starts.answer_is ∙ claim.begins, calls-go u.calls (subst (λ z. Goes text P x b.cells z (initial_trees P) (lent_in cs)) (sym u.starts.state_is) claim.goes));
  two = λ text P x read a {b} {d} {r} {s} {v} {w} {cs} {ds} u t lines.
      let alike = demand-3.two text P x read (reported a) (first u) (first t) (lent_in cs) (lent_in ds) (runs u) (runs t) (lines-lent cs ∙ lines ∙ sym (lines-lent ds)) in
      calls-alike u.calls t.calls (subst (λ z. Alike text P b.cells d.cells v z (lent_in cs) (lent_in ds)) (sym t.starts.state_is) (subst (λ z. Alike text P b.cells d.cells z (begun text (first t)).state (lent_in cs) (lent_in ds)) (sym u.starts.state_is) alike));
}

-- Demand 3 in full: every call of every run goes as the plain machine does, and two runs over the same lines agree.
use Rattle.std.specs.Prelude.{ℕ, List, ◌≡◌, refl}
use Rattle.std.proofs.Common.{sym, ap, ◌∙◌, subst₂, arith}
use Rattle.language.specs.Syntax.{File}
use Rattle.language.specs.Estimate.{Estimate}
use Rattle.language.specs.Heap.{Tree}
use Rattle.language.specs.Machine.{answer}
use Rattle.language.specs.Line.{line_trees}
use Rattle.language.specs.PlainMachine.{Step}
use Rattle.language.specs.Run.{FirstCall, Call, Holds, line_verdict, Goes, ends, goes, CallsAllowed, no_call, a_call, Run, Claim, Alike, both_end, both_go, lines_in, Demand3}
use Rattle.theory.specs.OneTree.{one-step}
use Rattle.theory.specs.AcceptedFiles.{AcceptedFile, reported-accepted}
use Rattle.theory.specs.Starts.{starts}
use Rattle.theory.specs.Iterates.{iterates}

-- ---- every call of a run
calls-go : {t : List ℕ} {P : File} {x : Estimate} {cells : ℕ} {ws : List ℕ} {vs : List Tree} {cs : List Call} → AcceptedFile t P x → Holds P cells ws vs → CallsAllowed t x cells ws cs → Goes t P x cells ws vs cs
calls-go a h no_call = ends h
calls-go a h (a_call call rest) = let line = iterates a h call in goes h line.answers line.steps (calls-go a line.holds rest)

run-claimed : {t : List ℕ} {P : File} {x : Estimate} {c : FirstCall} {cs : List Call} → AcceptedFile t P x → Run t x c cs → Claim t P x c cs
run-claimed a run = let first = starts a run.begins in record { begins = first.answers; goes = calls-go a first.holds run.calls }

-- ---- two runs: from equal trees, over equal lines
goes-alike : {t : List ℕ} {P : File} {x y : Estimate} {m n : ℕ} {v w : List ℕ} {vs us : List Tree} {cs ds : List Call} →
    Goes t P x m v vs cs → Goes t P y n w us ds → vs ≡ us → lines_in cs ≡ lines_in ds → Alike t P m n v w cs ds
goes-alike (ends h) (ends k) e lines = both_end h.valid k.valid (h.trees ∙ e ∙ sym k.trees)
goes-alike (ends h) (goes k answered stepped rest) e lines = absurd (let z : ◌≡◌ {A = ℕ} 0 1 = cc in omega arith)
goes-alike (goes h answered stepped rest) (ends k) e lines = absurd (let z : ◌≡◌ {A = ℕ} 0 1 = cc in omega arith)
goes-alike {P} (goes {c} h answered stepped rest) (goes {us = result} {c = d} k answered-too stepped-too rest-too) e lines =
    let line : c.line ≡ d.line = cc in
    both_go h.valid k.valid (h.trees ∙ e ∙ sym k.trees) (answered ∙ ap (λ l. answer (line_verdict (line_trees P l))) line ∙ sym answered-too)
    (goes-alike rest rest-too (one-step stepped (subst₂ (λ vs l. Step P vs l result) (sym e) (sym line) stepped-too)) (cc))

pub demand-3 : Demand3
demand-3 = record {
  every = λ t P x read reported c cs run. run-claimed (reported-accepted read reported) run;
  two = λ t P x read reported c d cs ds run run-too lines.
      let a = reported-accepted read reported in
      goes-alike (run-claimed a run).goes (run-claimed a run-too).goes refl lines;
}

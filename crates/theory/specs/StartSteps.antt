-- A start that is answered 0 writes the state to which the rules lead: figure 4 derives a value for each initial value, the cells laid are
-- those that it lays, the trees are the initial trees, and these are what the plain machine's rules derive too. With what is said of the
-- line and of an iteration it is demand 2 of the evaluator.
use Rattle.std.specs.Prelude.{ℕ, ◌≤◌, List, [], ◌≡◌, length}
use Rattle.std.proofs.Common.{arith}
use Rattle.language.specs.Limits.{size_most}
use Rattle.language.specs.Syntax.{Ty, Input, Node, File, declared_types, initial_values}
use Rattle.language.specs.Within.{All, WithinDeclared, w_tbool, w_tint, w_tnamed, Within}
use Rattle.language.specs.Sizes.{size_of_type}
use Rattle.language.specs.Estimate.{Estimate}
use Rattle.language.specs.Machine.{Board, Record, start_state, start}
use Rattle.language.specs.InitialValues.{FileBegins}
use Rattle.language.specs.Evaluation.{StartDone, EvaluatorDemand}
use Rattle.theory.specs.Alls.{all_append, all_map, all-to-map}
use Rattle.theory.specs.AcceptedFiles.{AcceptedFile}
use Rattle.theory.specs.ReaderExact.{reader-forth}
use Rattle.theory.specs.LineExact.{line-exact}
use Rattle.theory.specs.StateWords.{state-loaded}
use Rattle.theory.specs.InitialTrees.{initials-formed, initial-trees-fit, initial-trees-derived}
use Rattle.theory.specs.Starts.{start-trees, start-writes, starts}
use Rattle.theory.specs.FileAnswers.{zero-is-accepted}
use Rattle.theory.specs.InitialRuns.{initials-begin}
use Rattle.theory.specs.IterationSteps.{zero-is-done, zero-iff-rules-lead, refused-iff-rules-meet, order-iff, lending-iff, wrong-iff}

-- ---- declared sizes are within 64
declared-small : {types : ℕ} {τ : Ty} → WithinDeclared types τ → size_of_type τ ≤ size_most
unfolding size_of_type
declared-small w_tbool = omega arith
declared-small w_tint = omega arith
declared-small (w_tnamed less bound) = bound.1

all-declared-small : {P : File} → Within P → All (λ τ. size_of_type τ ≤ size_most) (declared_types P)
all-declared-small w = all_append (all-to-map (λ (i : Input). i.declared) (all_map (λ i v. declared-small v.declared) w.inputs)) (all-to-map (λ (n : Node). n.declared) (all_map (λ n v. declared-small v.declared) w.nodes))

-- ---- the theorem
-- for an accepted file, on a board with room for its initial values
pub start-by-rules : {t : List ℕ} {P : File} {x : Estimate} (a : AcceptedFile t P x) (b : Board) → length (start_state P).heap ≤ b.cells → FileBegins P b (start_state P)
unfolding start_state
start-by-rules {P} a b room = initials-begin a.within b (initial_values P) (declared_types P) [] [] (initials-formed a.plain) (initial-trees-fit a) (all-declared-small a.within) room

pub zero-is-begun : (t : List ℕ) (b : Board) (list : List Record) (state scratch slots : List ℕ) → (start t b list state scratch slots).answer.number ≡ 0 → StartDone t b list state scratch slots
zero-is-begun t b list state scratch slots e =
    let x = zero-is-accepted t b list state scratch slots e in
    let a = x.file in
    let P = x.accepts.file in
    let loads = (starts a x.allowed).loads in
    record {
      file = P;
      is = reader-forth t P a.read;
      begun = start_state P;
      begins = start-by-rules a b (state-loaded a.within loads).room;
      trees = start-trees P;
      derives = initial-trees-derived a;
      writes = start-writes a x.allowed;
      valid = loads;
    }

pub evaluator-demand : EvaluatorDemand
evaluator-demand = record { line = line-exact; starts = zero-is-begun; order = order-iff; lending = lending-iff; wrong = wrong-iff; done = zero-is-done; leads = zero-iff-rules-lead; meets = refused-iff-rules-meet }

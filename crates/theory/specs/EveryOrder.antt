-- R-3: "For an accepted file with its three numbers lent, a valid state and an allowed line give the same values in every order that respects
-- the readings". The iteration's own order is one of them.
use Rattle.std.specs.Prelude.{ℕ, List, ◌++◌, true, ◌≡◌, length}
use Rattle.std.proofs.Math.Path.{subst}
use Rattle.std.proofs.Math.ListN.{drop}
use Rattle.language.specs.Syntax.{File}
use Rattle.language.specs.Order.{node_readings, Respects}
use Rattle.language.specs.Estimate.{Estimate}
use Rattle.language.specs.Heap.{Tree}
use Rattle.language.specs.Slide.{State}
use Rattle.language.specs.Line.{trees_fit}
use Rattle.language.specs.PlainMachine.{Nodes}
use Rattle.language.specs.Machine.{Board, iterate_state}
use Rattle.language.specs.Run.{channel_trees, Enough, SameValues, EveryOrder}
use Rattle.theory.specs.AnyOrder.{same-trees}
use Rattle.theory.specs.TypedStates.{StateTyped}
use Rattle.theory.specs.StateWords.{state-loaded}
use Rattle.theory.specs.AcceptedFiles.{AcceptedFile, reported-accepted}
use Rattle.theory.specs.HeldChannels.{input_types}
use Rattle.theory.specs.InputsGo.{line-fits}
use Rattle.theory.specs.Orderly.{own-order}
use Rattle.theory.specs.StatesGo.{state-goes, same-values}

module _ {t : List ℕ} {P : File} {x : Estimate} (a : AcceptedFile t P x) where
  same-in-order : {b : Board} → Enough x b → {s : State} → StateTyped P s → {us : List Tree} → trees_fit P us (input_types P) ≡ true → {is : List ℕ} → Respects (node_readings P) is → SameValues P b s us is
  unfolding iterate_state
  same-in-order enough {s} typed {us} fit {is} r =
      let own = own-order a.within a.acyclic in
      record {
        own = (state-goes a typed us fit enough own).after;
        own_is = (state-goes a typed us fit enough own).is;
        after = (state-goes a typed us fit enough r).after;
        after_is = (state-goes a typed us fit enough r).is;
        same = same-values a typed us fit enough enough r own;
        plain = subst (Nodes P (channel_trees s) is (us ++ drop (length P.inputs) (channel_trees s))) (same-values a typed us fit enough enough r own) (state-goes a typed us fit enough r).plain;
      }

pub every-order : EveryOrder
every-order = record {
  own = λ t P x read reported. let a = reported-accepted read reported in own-order a.within a.acyclic;
  same = λ t P x read reported b enough cells ws s valid line us allowed is r.
      let a = reported-accepted read reported in
      same-in-order a enough (state-loaded a.within valid).typed (line-fits P line allowed) r;
  plain = λ P last now vs ws room is js r s p q. same-trees r s room p q;
}

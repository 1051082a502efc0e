-- What stands in scope over a sound heap, for the rules as locations and for the plain machine as their trees.
use Rattle.std.specs.Prelude.{ℕ, ◌<◌, List, ◌++◌, ◌≡◌, refl, length}
use Rattle.std.proofs.Common.{ap, ◌∙◌}
use Rattle.language.specs.Syntax.{File}
use Rattle.language.specs.Within.{All, all_nil}
use Rattle.language.specs.Heap.{Cell, Trees}
use Rattle.language.specs.Values.{append_trees}
use Rattle.language.specs.Evaluator.{Channels, no_channels}
use Rattle.language.specs.PlainMachine.{TreeChannels, no_trees}
use Rattle.theory.specs.Alls.{all_append}
use Rattle.theory.specs.Heaps.{Grown, low-grown}
use Rattle.theory.specs.ScopeTrees.{channel_trees, scope_trees, scope-trees-grown, map-trees-grown, scope-trees-append}
use Rattle.theory.specs.SoundHeaps.{Sound}

pub record Stands (P : File) (N : Channels) (E : List ℕ) (h : List Cell) (M : TreeChannels) (D : Trees) : Type 0 where
  pub sound : Sound P h
  pub variables : All (λ l. l < length h) E
  pub now : All (λ l. l < length h) N.now
  pub last : All (λ l. l < length h) N.last
  pub channels : channel_trees h N ≡ M
  pub scope : scope_trees h E ≡ D

module _ {P : File} {N : Channels} {E : List ℕ} {h : List Cell} {M : TreeChannels} {D : Trees} (S : Stands P N E h M D) where
  pub stands-grown : {g : List Cell} → Grown h g → Sound P g → Stands P N E g M D
  stands-grown w sound =
      let same : channel_trees _ N ≡ channel_trees h N = λ i. record { now = map-trees-grown w S.now i; last = map-trees-grown w S.last i } in
      record {
        sound = sound;
        variables = low-grown w S.variables;
        now = low-grown w S.now;
        last = low-grown w S.last;
        channels = same ∙ S.channels;
        scope = scope-trees-grown w S.variables ∙ S.scope;
      }

  pub stands-bound : (ls : List ℕ) {ws : Trees} → All (λ l. l < length h) ls → scope_trees h ls ≡ ws → Stands P N (E ++ ls) h M (append_trees D ws)
  stands-bound ls {ws} low is = record {
    sound = S.sound;
    variables = all_append S.variables low;
    now = S.now;
    last = S.last;
    channels = S.channels;
    scope = scope-trees-append h E ls ∙ ap (λ x. append_trees x (scope_trees h ls)) S.scope ∙ ap (append_trees D) is;
  }

pub stands-body : {P : File} {ls : List ℕ} {h : List Cell} {ws : Trees} → Sound P h → All (λ l. l < length h) ls → scope_trees h ls ≡ ws → Stands P no_channels ls h no_trees ws
stands-body sound low is = record { sound = sound; variables = low; now = all_nil; last = all_nil; channels = refl; scope = is }

-- What holds of every run of the protocol that multicasts down a tree, in words of walks.
use Rattle.std.specs.Prelude.{◌≡◌, ℕ, ◌<◌, Bool, ℤ, List, ◌++◌}
use Rattle.nys_graph.specs.Links.{IsGraph}
use Rattle.nys_source.specs.Runs.{IsRun, after_run}
use Rattle.nys_source.specs.declared.step.Step.{Step}
use Rattle.nys_route.specs.Parents.{IsParent}
use Rattle.nys_route.specs.Quiet.{inputs_of, IsQuiet}
use Rattle.nys_route.specs.Trees.{tree_rules}
use Rattle.nys_route.specs.Walks.{IsWalk}

-- the second list goes on from the first
abbrev pub IsFront : List (List ℤ) → List (List ℤ) → Type 0
IsFront front all = (rest : List (List ℤ)) × (front ++ rest ≡ all)

-- each host with a walk to the root has all of the root's inputs for its outputs
abbrev pub ReachesAll : (ℕ → ℕ → Bool) → ℕ → List Step → (ℕ → List (List ℤ)) → Type 0
ReachesAll linked root run outs =
    (h : ℕ) (walk : List ℕ) → IsWalk linked h root walk → outs h ≡ inputs_of root run

-- what holds of a run: of every one, and of a quiet one
pub record IsMulticast (hosts : ℕ) (linked : ℕ → ℕ → Bool) (root : ℕ) (run : List Step) : Type 0 where
  -- the root's outputs are its inputs, in order
  pub root_is : (after_run (tree_rules hosts linked root) run).outs root ≡ inputs_of root run
  -- those of each host with a parent are a front of its parent's
  pub fronts : (h p : ℕ) → IsParent linked root h p
      → IsFront ((after_run (tree_rules hosts linked root) run).outs h) ((after_run (tree_rules hosts linked root) run).outs p)
  pub quiet : IsQuiet (tree_rules hosts linked root) run
      → ReachesAll linked root run (after_run (tree_rules hosts linked root) run).outs

-- it holds of every run on every graph, whichever host is the root
abbrev pub MulticastsRuns : Type 0
MulticastsRuns = (hosts : ℕ) (linked : ℕ → ℕ → Bool) (root : ℕ) → IsGraph hosts linked → root < hosts
    → (run : List Step) → IsRun (tree_rules hosts linked root) run → IsMulticast hosts linked root run

-- Guard graphs that are good and stand the liars can be played on.
use Rattle.std.proofs.Common.{◌≡◌, ℕ, Bool, true, List, [], ◌∷◌, All, length}
use Rattle.std.proofs.lemmas.List.Elements.{All-cons, All-head, All-nil, All-tail}
use Rattle.nys_guard_commands.specs.Checked.{AreSound, EndsAt, IsSmall}
use Rattle.nys_guard_commands.specs.Graphs.{AreGraphsOf, listed}
use Rattle.nys_guards.specs.declared.table.GuardGraph.{GuardGraph}
use Rattle.nys_config.specs.Config.{IsEpoch}
use Rattle.nys_scenario.specs.Bounds.{HasHosts, IsBounded}
use Rattle.nys_scenario.specs.Document.{Said}
use Rattle.nys_scenario.specs.Epochs.{Epoch}
use Rattle.nys_scenario.specs.declared.needs.Needs.{Needs}
use Rattle.nys_world_commands.specs.Playing.{ArePlayable}
use Rattle.nys_played.proofs.EpochLemmas.{epoch_there}

-- and each of a list
epochs_there : (hosts : ℕ) (linked : ℕ → ℕ → Bool) (epochs : List Epoch) (graphs : List GuardGraph)
    → AreGraphsOf hosts linked epochs graphs → All (HasHosts hosts) epochs → All IsSmall graphs → All (IsEpoch hosts) graphs
epochs_there hosts linked [] [] are listed small = All-nil (IsEpoch hosts)
epochs_there hosts linked [] (g ∷ gs) are listed small = absurd are
epochs_there hosts linked (e ∷ es) [] are listed small = absurd are
epochs_there hosts linked (e ∷ es) (g ∷ gs) are listed small =
    All-cons (IsEpoch hosts) g gs
    (epoch_there hosts linked e g are.0 (All-head (HasHosts hosts) e es listed) (All-head IsSmall g gs small))
    (epochs_there hosts linked es gs are.1 (All-tail (HasHosts hosts) e es listed) (All-tail IsSmall g gs small))

-- all of a scenario that has an epoch can be played on
pub sound_playable : (needs : Needs) (said : Said) (graphs : List GuardGraph) → needs.epochs ≡ true → IsBounded needs said
    → AreSound said graphs → length graphs ≡ length said.guarded.epochs → All IsSmall graphs → All (EndsAt said.system.hosts) graphs
    → ArePlayable said.system.hosts said.guarded.liars graphs
sound_playable needs said graphs needed bounded sound same small ends = record {
  some = rw same (bounded.needed needed);
  few = rw same bounded.few;
  epochs = epochs_there said.system.hosts said.system.linked said.guarded.epochs graphs sound.graphs_of bounded.guards small;
  ends = ends;
  stand = sound.stand;
}

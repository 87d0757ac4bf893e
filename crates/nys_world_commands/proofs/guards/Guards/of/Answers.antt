-- sound guard graphs of a scenario that has an epoch can be played on
use Rattle.std.proofs.Common.{true, refl, sym, ◌∙◌}
use Rattle.std.proofs.lemmas.List.{length-map}
use Rattle.nys_scenario.specs.Document.{said_by}
use Rattle.nys_scenario.specs.Epochs.{epoch_seen}
use Rattle.nys_world_commands.proofs.PlayLemmas.{sound_playable}
use Rattle.nys_world_commands.proofs.guards.Guards.of.Goals as goal

pub returns-clause-sound : goal.returns-clause-sound
returns-clause-sound c = record {
  sound = c.in_ok-graphs.ensures.sound;
  master = refl;
  liars = refl;
  playable = sound_playable (record { master = true; epochs = true }) (said_by c.args.scenario.now) c.in_ok-graphs.graphs.items refl
      c.requires c.in_ok-graphs.ensures.sound
      (c.in_ok-graphs.ensures.size ∙ sym (length-map c.args.scenario.now.epochs.items epoch_seen)) c.in_ok-graphs.ensures.small
      (c.in_ok-graphs.ensures.rows c.requires.past);
}

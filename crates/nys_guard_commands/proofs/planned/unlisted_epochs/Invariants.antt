-- the epochs so far have no guards
use Rattle.std.proofs.Common.{◌≡◌, map, take}
use Rattle.nys_scenario.specs.Epochs.{epoch_seen}
use Rattle.nys_guard_commands.specs.Planned.{unlisted}
use Rattle.nys_guard_commands.proofs.planned.unlisted_epochs.Given as goal

abbrev pub invariant-loop-epoch : goal.invariant-loop-epoch
invariant-loop-epoch l =
    map epoch_seen l.left.items ≡ map unlisted (map epoch_seen (take l.epoch-index l.epochs))

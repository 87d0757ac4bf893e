-- what is left of the drawn events comes to what all of them come to
use Rattle.std.proofs.Common.{◌≡◌}
use Rattle.nys_workload.specs.Drawn.{first_dice}
use Rattle.nys_workload_command.proofs.CourseLemmas.{GoesOn}
use Rattle.nys_workload_command.proofs.course.run_drawn.Given as goal
use Rattle.nys_workload_command.specs.Answered.{dice_at}
use Rattle.nys_world.specs.Shows.{setting_of}
use Rattle.nys_world.specs.Worlds.{IsWorldOf}

abbrev pub invariant-loop-place : goal.invariant-loop-place
invariant-loop-place g l =
    let rules = g.P.Protocol.rules l.fn.world.stage.cx.protocol in
    record {
      stage : l.course.world.stage ≡ l.fn.world.stage;
      dice : l.course.dice ≡ dice_at (first_dice l.seed) l.place;
      on : GoesOn (setting_of rules l.fn.world.stage) l.seed l.hosts l.events l.place l.course.dice (IsWorldOf rules l.course.world);
    }

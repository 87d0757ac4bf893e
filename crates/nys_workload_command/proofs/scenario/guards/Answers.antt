-- guards are planned for the ring
use Rattle.std.proofs.Common.{subst}
use Rattle.nys_guard_commands.specs.Refusals.{Refuses}
use Rattle.nys_workload_command.proofs.ScenarioLemmas.{ring_never}
use Rattle.nys_workload_command.proofs.scenario.guards.Goals as goal

pub unreachable-requires : goal.unreachable-requires
unreachable-requires c =
    ring_never c.args.hosts c.args.graph.now.hosts _ _ c.in-Err-Answered.field-0-0 c.requires.all c.requires.ring c.epoch.ensures c.requires.some
    c.requires.few (subst (Refuses _) c.in-Err-Answered.field-0-is c.in-Err-Answered.ensures.refused)

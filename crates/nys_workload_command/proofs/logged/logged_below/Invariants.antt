-- the entries so far and those that are left are all
use Rattle.std.proofs.Common.{◌≡◌, ◌+◌, ◌*◌, ◌-◌, ◌≤◌}
use Rattle.std.specs.List.{range_with_len}
use Rattle.nys_rules.specs.World as rules
use Rattle.nys_workload_command.proofs.logged.logged_below.Given as goal
use Rattle.nys_workload_command.specs.Logged.{logged_in}
use Rattle.nys_world.specs.Shows.{setting_of}
use Rattle.nys_world.specs.Worlds.{IsWorldOf}

abbrev pub invariant-loop-g : goal.invariant-loop-g
invariant-loop-g g l = record {
  sum : (w : rules.World) → IsWorldOf (g.P.Protocol.rules l.world.stage.cx.protocol) l.world w
      → l.sum + logged_in (setting_of (g.P.Protocol.rules l.world.stage.cx.protocol) l.world.stage) w (range_with_len l.g (l.hosts - l.g))
      ≡ logged_in (setting_of (g.P.Protocol.rules l.world.stage.cx.protocol) l.world.stage) w (range_with_len 0 l.hosts);
  bound : l.sum ≤ l.g * 32768;
}

-- the text so far and the lines that are left make the whole text
use Rattle.std.proofs.Common.{◌≡◌, ◌-◌, ◌++◌}
use Rattle.std.specs.List.{range_with_len}
use Rattle.nys_report.proofs.section.put_guards.Given as goal
use Rattle.nys_printed.specs.Report.{guards_of}
use Rattle.nys_rules.specs.Spelling.{SpellsLogs}
use Rattle.nys_rules.specs.World as rules
use Rattle.nys_world.specs.Shows.{setting_of}
use Rattle.nys_world.specs.Worlds.{IsWorldOf}

abbrev pub invariant-loop-g : goal.invariant-loop-g
invariant-loop-g g l =
    let setting = setting_of (g.P.Protocol.rules l.world.stage.cx.protocol) l.world.stage in
    (w : rules.World) → IsWorldOf (g.P.Protocol.rules l.world.stage.cx.protocol) l.world w → SpellsLogs setting w
    → l.out ++ guards_of setting w (range_with_len l.g (l.hosts - l.g)) ≡ l.fn.out ++ guards_of setting w (range_with_len 0 l.hosts)

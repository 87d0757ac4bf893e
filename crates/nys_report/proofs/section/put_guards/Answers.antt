-- the lines of one host are printed, and the others are left
use Rattle.std.proofs.Common.{◌∙◌}
use Rattle.nys_report.proofs.PickedLemmas.{picked_on}
use Rattle.nys_report.proofs.section.put_guards.Goals as goal
use Rattle.nys_printed.specs.Report.{guard_text}
use Rattle.nys_rules.specs.World.{is_honest}
use Rattle.nys_world.specs.Shows.{setting_of}

pub loop-g-preserved : goal.loop-g-preserved
loop-g-preserved g c = λ w is spells.
    let stage = c.args.world.now.stage in
    let setting = setting_of (g.P.Protocol.rules stage.cx.protocol) stage in
    picked_on (guard_text setting w) (is_honest setting) c.loop-g.g c.args.hosts c.loop-g.out c.put_guard_of.new.out
    c.loop-g-test.true (c.in_ok-put_guard_of.ensures w is spells)
    ∙ c.loop-g.invariant w is spells

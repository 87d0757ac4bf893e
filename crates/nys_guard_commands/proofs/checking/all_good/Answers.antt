-- A line more is that of the next epoch.
use Rattle.std.proofs.Common.{◌++◌, sym, ap, ◌∙◌}
use Rattle.nys_guard_commands.specs.Checked.{good_line}
use Rattle.nys_guard_commands.proofs.LinesLemmas.{flat_more}
use Rattle.nys_guard_commands.proofs.checking.all_good.Goals as goal

pub loop-e-preserved : goal.loop-e-preserved
loop-e-preserved c =
    c.in_ok-put_good.ensures ∙ ap (λ t. t ++ good_line c.loop-e.e) c.loop-e.invariant ∙ sym (flat_more good_line c.loop-e.e)

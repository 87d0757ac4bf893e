-- the copies so far and the steps that are left are all steps
use Rattle.std.proofs.Common.{◌≡◌, ◌++◌, drop}
use Rattle.nys_report.proofs.stopping.copied.Given as goal

abbrev pub invariant-loop-step : goal.invariant-loop-step
invariant-loop-step l = l.run.items ++ drop l.step-index l.steps ≡ l.steps

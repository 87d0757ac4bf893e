-- the steps that are left can be followed, and leave the system that the whole run leaves
use Rattle.std.proofs.Common.{◌≡◌, drop, fold}
use Rattle.nys_report.specs.Countable.{CanFollow}
use Rattle.nys_report.proofs.running.system_after.Given as goal
use Rattle.nys_source.specs.Held.{shown}
use Rattle.nys_source.specs.Runs.{after_run}
use Rattle.nys_source.specs.Steps.{after_step}

abbrev pub invariant-loop-step : goal.invariant-loop-step
invariant-loop-step g l =
    let rules = g.P.Protocol.rules l.fn.protocol in
    let left = drop l.step-index l.run in
    record {
      protocol : l.system.0 ≡ l.fn.protocol;
      follows : CanFollow rules (shown rules l.system.1) left;
      leaves : fold (after_step rules) (shown rules l.system.1) left ≡ after_run rules l.run;
    }

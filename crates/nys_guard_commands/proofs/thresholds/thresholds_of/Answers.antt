-- Thresholds that are given are at most the epoch's, which is one that may be.
use Rattle.std.proofs.Common.{◌≤◌, All, subst}
use Rattle.std.specs.Prelude.{IfSome}
use Rattle.nys_guard_commands.proofs.ThresholdLemmas.{given_small}
use Rattle.nys_guard_commands.proofs.thresholds.thresholds_of.Goals as goal

pub returns-in-Some-clause-small : goal.returns-in-Some-clause-small
returns-in-Some-clause-small c =
    given_small c.args.epoch.t c.in-Some.own c.args.epoch.t_is_small
    (subst (λ given. IfSome given (All (λ own. own ≤ c.args.epoch.t))) c.in-Some.is
    c.args.epoch.thresholds_are_small)

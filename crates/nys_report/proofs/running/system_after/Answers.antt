-- the first step that is left may be taken, and the others are left
use Rattle.std.proofs.Common.{◌+◌, drop, fold, ap, subst, sym, ◌∙◌}
use Rattle.nys_report.proofs.FollowLemmas.{follow_first, follow_next, steps_from}
use Rattle.nys_report.proofs.running.system_after.Goals as goal
use Rattle.nys_report.specs.Countable.{CanFollow}
use Rattle.nys_source.specs.Held.{shown}
use Rattle.nys_source.specs.Steps.{after_step}

pub loop-step-init : goal.loop-step-init
loop-step-init g c =
    let rules = g.P.Protocol.rules c.args.protocol in
    let run = c.args.run.now in
    let first = c.in_ok-system.ensures.system in
    record {
      protocol = c.in_ok-system.ensures.protocol;
      follows = subst (λ s. CanFollow rules s run) (sym first) (follow_first rules run c.requires.run c.requires.few);
      leaves = ap (λ s. fold (after_step rules) s run) first;
    }

pub loop-step-preserved : goal.loop-step-preserved
loop-step-preserved g c =
    let rules = g.P.Protocol.rules c.args.protocol in
    let run = c.args.run.now in
    let at = c.loop-step.step-index in
    let step = c.step-item.result in
    let now = shown rules c.loop-step.system.1 in
    let rest = drop (at + 1) run in
    let first = steps_from run at step c.loop-step-test.true c.step-item.is in
    let can = subst (λ left. CanFollow rules now left) first c.loop-step.invariant.follows in
    let after = rw c.loop-step.invariant.protocol at c.in_ok-system-2.ensures.after in
    record {
      protocol = c.in_ok-system-2.ensures.protocol ∙ c.loop-step.invariant.protocol;
      follows = subst (λ s. CanFollow rules s rest) (sym after) (follow_next rules now step rest can);
      leaves = ap (λ s. fold (after_step rules) s rest) after
          ∙ sym (ap (λ left. fold (after_step rules) now left) first)
          ∙ c.loop-step.invariant.leaves;
    }

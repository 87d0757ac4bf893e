-- the first step that is left is lawful, and the others are left
use Rattle.std.proofs.Common.{◌+◌, drop, refl, ap, sym, ◌∙◌, arith}
use Rattle.nys_source.specs.Held.{shown}
use Rattle.nys_source.proofs.RoomLemmas.{step_received}
use Rattle.nys_source_commands.specs.Answers.{first_refused}
use Rattle.nys_source_commands.proofs.VerdictLemmas.{first_refused-next, steps_from}
use Rattle.nys_source_commands.proofs.verify_command.take_all.Goals as goal

pub loop-at-init : goal.loop-at-init
loop-at-init g c = let rules = g.P.Protocol.rules c.args.system.0 in record {
  protocol = refl;
  steps = ap (λ s. first_refused rules 0 s c.args.steps.now) c.requires.first;
  room = λ p h. let none = ap (λ s. s.received p h) c.requires.first in omega (arith, none);
}

pub loop-at-preserved : goal.loop-at-preserved
loop-at-preserved g c =
    let rules = g.P.Protocol.rules c.args.system.0 in
    let at = c.loop-at.at in
    let step = c.index-steps-at.result in
    let before = shown rules c.loop-at.now.1 in
    let taken = rw c.loop-at.invariant.protocol at c.in-Ok.ensures in
    let first = steps_from c.args.steps.now at step c.loop-at-test.true c.index-steps-at.is in
    record {
      protocol = taken.1;
      steps = ap (λ s. first_refused rules (at + 1) s (drop (at + 1) c.args.steps.now)) taken.2
          ∙ sym (first_refused-next rules at before (drop at c.args.steps.now) (drop (at + 1) c.args.steps.now) step first taken.0)
          ∙ c.loop-at.invariant.steps;
      room = λ p h.
          let same = ap (λ s. s.received p h) taken.2 in
          omega (arith, same, step_received rules before step p h, c.loop-at.invariant.room p h);
    }

-- the step adds messages behind those that have their numbers
use Rattle.std.proofs.Common.{ap, ◌∙◌}
use Rattle.nys_source.specs.Held.{shown}
use Rattle.nys_source_commands.proofs.GrowthLemmas.{step_grows}
use Rattle.nys_source_commands.proofs.NumberLemmas.{numbers-append}
use Rattle.nys_source_commands.proofs.bare_run.BareRun.push.Goals as goal

pub returns-in_ok-push-in-Ok-clause-numbers : goal.returns-in_ok-push-in-Ok-clause-numbers
returns-in_ok-push-in-Ok-clause-numbers g c =
    let rules = g.P.Protocol.rules c.args.self.system.0 in
    let before = shown rules c.args.self.system.1 in
    let grew = step_grows rules before c.args.step in
    numbers-append c.args.self.numbers.items before.messages grew.more c.in-Ok.system.1.messages c.requires.numbers
    (ap (λ s. s.messages) c.in-Ok.ensures.2 ∙ grew.grown)

-- The list that was made has the parties, so the record is theirs.
use Rattle.std.proofs.Common.{◌≡◌, ◌∙◌, subst}
use Rattle.std.specs.Prelude.{Result}
use Rattle.nys_rules.specs.declared.notice.End.{End}
use Rattle.nys_rules.specs.World.{World}
use Rattle.nys_config.specs.Scopes.{scope_of}
use Rattle.nys_world.specs.Outcomes.{Happened}
use Rattle.nys_world.specs.Shows.{Keeps}
use Rattle.nys_world.proofs.SaidLemmas.{said_sent}
use Rattle.nys_world.proofs.books.Books.say.Goals as goal

pub returns : goal.returns
returns g c = λ w keeps.
    subst (λ (sent : Result World End). Happened (λ _ next. Keeps c.send_all.new.self next) (λ r. r ≡ sent) c.send_all.result)
    (said_sent (scope_of (g.P.Protocol.rules c.args.stage.now.cx.protocol) c.args.stage.now.cx) c.args.from c.args.maker c.args.statement
    c.in_ok-said.said c.as_slice.result.now c.as_slice-2.result.now c.args.to.now w c.in_ok-said.ensures.value
    (c.as_slice.ensures.value ∙ c.in_ok-parties.ensures) (c.as_slice-2.ensures.value ∙ c.in_ok-parties.ensures))
    (c.send_all.ensures w keeps)

use Rattle.std.proofs.Common.{◌≡◌, ◌∙◌, ap, refl, sym, subst}
use Rattle.std.specs.Prelude.{All}
use Rattle.nys_rules.specs.Dropping.{accepted}
use Rattle.nys_rules.specs.Handling.{noted_by}
use Rattle.nys_rules.specs.Olympus.{testified, testified_body}
use Rattle.nys_rules.specs.Packets.{nothing}
use Rattle.nys_rules.specs.Scope.{olympus}
use Rattle.nys_config.specs.Scopes.{scope_of}
use Rattle.nys_stmt.specs.Makers.{AreMakers}
use Rattle.nys_olympus.specs.Heard.{IsHost}
use Rattle.nys_olympus.specs.Means.{IsViewOf}
use Rattle.nys_olympus.proofs.Accepting.{accepted_hosts, accepted_rule}
use Rattle.nys_olympus.proofs.olympus.Olympus.hear_accepted.Goals as goal

-- accepted makers are hosts
pub testify-requires-clause-hosts : goal.testify-requires-clause-hosts
testify-requires-clause-hosts g c =
    let scope = scope_of (g.P.Protocol.rules c.args.cx.now.protocol) c.args.cx.now in
    let r = c.args.given.now in
    subst (λ ms. All IsHost ms) (sym (c.as_slice.ensures.value ∙ c.in_ok-makers.ensures ∙ sym c.requires.makers)) (accepted_hosts scope r.statement.epoch r c.requires.whole.rule)

pub noted-done-requires-clause-hosts : goal.noted-done-requires-clause-hosts
noted-done-requires-clause-hosts g c =
    let scope = scope_of (g.P.Protocol.rules c.args.cx.now.protocol) c.args.cx.now in
    let r = c.args.given.now in
    subst (λ ms. All IsHost ms) (sym (c.as_slice-2.ensures.value ∙ c.in_ok-makers.ensures ∙ sym c.requires.makers)) (accepted_hosts scope r.statement.epoch r c.requires.whole.rule)

-- they rise
pub noted-done-requires-clause-rule : goal.noted-done-requires-clause-rule
noted-done-requires-clause-rule g c =
    let scope = scope_of (g.P.Protocol.rules c.args.cx.now.protocol) c.args.cx.now in
    let r = c.args.given.now in
    subst (λ ms. AreMakers ms) (sym (c.as_slice-2.ensures.value ∙ c.in_ok-makers.ensures ∙ sym c.requires.makers)) (accepted_rule scope r.statement.epoch olympus r c.requires.whole.rule)

-- it is noted
pub returns : goal.returns
unfolding testified
returns g c = λ o view.
    let scope = scope_of (g.P.Protocol.rules c.args.cx.now.protocol) c.args.cx.now in
    let r = c.args.given.now in
    let makers = accepted scope r.statement.epoch olympus r in
    let are : c.in_ok-makers.makers.items ≡ makers = c.in_ok-makers.ensures ∙ sym c.requires.makers in (
      testified scope o r,
      subst (λ b. IsViewOf scope c.testify.new.self (testified_body b makers o)) (ap (λ s. s.body) c.in_ok-statement.ensures)
          (subst (λ ms. IsViewOf scope c.testify.new.self (testified_body c.in_ok-statement.statement.body ms o)) (c.as_slice.ensures.value ∙ are) (c.in_ok-testify.ensures scope o view)),
      (refl, c.noted-done.ensures.told ∙ ap (λ s. noted_by nothing (record r { statement = s }) c.as_slice-2.result.now) c.in_ok-statement.ensures ∙ ap (λ ms. noted_by nothing r ms) (c.as_slice-2.ensures.value ∙ are)),
    )

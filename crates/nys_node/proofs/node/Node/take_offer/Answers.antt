use Rattle.std.proofs.Common.{ap, ◌∙◌}
use Rattle.nys_config.specs.Scopes.{scope_of}
use Rattle.nys_node.proofs.Says.{guards_told}
use Rattle.nys_node.proofs.SoundRanges.{offer_range}
use Rattle.nys_rules.specs.Packets.{joined}
use Rattle.nys_rules.specs.Sending.{guards_at, made_for, said_in}
use Rattle.nys_rules.specs.View.{length_of}
use Rattle.nys_stmt.specs.declared.statement.Body.TheVariants as body
use Rattle.nys_stmt.specs.declared.statement.FilledKind.TheVariants as kind
use Rattle.nys_node.proofs.node.Node.take_offer.Goals as goal

-- what is offered is in range, and goes to the guards
pub say_filled-requires : goal.say_filled-requires
say_filled-requires g c =
    let r = c.requires.ready in
    let scope = scope_of (g.P.Protocol.rules c.args.cx.now.protocol) c.args.cx.now in
    record {
      ready = record {
        view = r.view;
        means = r.is.means;
        host = r.hosts;
        range = offer_range scope c.requires.scope r.view r.is.sound r.is.means.within c.args.h c.args.content r.enabled;
        some = guards_told scope r.view c.args.h c.as_slice-to.result.now (c.as_slice-to.ensures.value ∙ c.in_ok-guards.ensures.value r.view r.is.means);
      };
    }

-- the desk has the offer
pub returns-clause-node : goal.returns-clause-node
returns-clause-node g c = λ v m. c.in_ok-set_offer.ensures (scope_of (g.P.Protocol.rules c.args.cx.now.protocol) c.args.cx.now) v m

-- the guards are told
pub returns-clause-out : goal.returns-clause-out
returns-clause-out g c = λ v m.
    let scope = scope_of (g.P.Protocol.rules c.args.cx.now.protocol) c.args.cx.now in
    c.in_ok-say_filled.ensures.out v m
    ∙ ap (λ gs. joined c.args.out.now (made_for scope v.me (said_in v.epoch (body.Filled kind.Offer c.args.h (length_of v c.args.h) c.args.content)) (guards_at scope v c.args.h) gs))
    (c.as_slice-to.ensures.value ∙ c.in_ok-guards.ensures.value v m)

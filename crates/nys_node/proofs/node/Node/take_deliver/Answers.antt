use Rattle.std.proofs.Common.{arith, ap, subst, ◌∙◌, ◌+◌}
use Rattle.nys_config.specs.Scopes.{scope_of}
use Rattle.nys_node.proofs.Says.{guards_told, me_below}
use Rattle.nys_node.proofs.SoundRanges.{deliver_due, deliver_range, open_room}
use Rattle.nys_node.specs.Means.{Means}
use Rattle.nys_rules.specs.Noting.{at_desk}
use Rattle.nys_rules.specs.Packets.{joined}
use Rattle.nys_rules.specs.Sending.{guards_at, made_for, said_in}
use Rattle.nys_rules.specs.Taking.{own_tags, with_deliver}
use Rattle.nys_rules.specs.View.{length_of}
use Rattle.nys_source.specs.Tables.{put}
use Rattle.nys_stmt.specs.declared.statement.Body.TheVariants as body
use Rattle.nys_stmt.specs.declared.statement.FilledKind.TheVariants as kind
use Rattle.nys_node.proofs.node.Node.take_deliver.Goals as goal

-- what is voted for is in range, and goes to the guards
pub say_filled-requires : goal.say_filled-requires
say_filled-requires g c =
    let r = c.requires.ready in
    let scope = scope_of (g.P.Protocol.rules c.args.cx.now.protocol) c.args.cx.now in
    record {
      ready = record {
        view = r.view;
        means = r.is.means;
        host = r.hosts;
        range = deliver_range scope c.requires.scope r.view r.is.sound r.is.means.within c.args.h c.args.content r.enabled;
        some = guards_told scope r.view c.args.h c.as_slice-to.result.now (c.as_slice-to.ensures.value ∙ c.in_ok-guards.ensures.value r.view r.is.means);
      };
    }

-- the slot is one of 1,024
pub overflow_add-slot : goal.overflow_add-slot
overflow_add-slot g c =
    let r = c.requires.ready in
    let scope = scope_of (g.P.Protocol.rules c.args.cx.now.protocol) c.args.cx.now in
    omega (
      arith,
      c.log_len-slot.ensures scope r.view r.is.means,
      (open_room scope r.view c.args.h (deliver_due scope r.view r.is.sound c.args.h c.args.content r.enabled).0).1,
    )

-- the node is one of 32 hosts
pub set_deliver-requires-clause-me : goal.set_deliver-requires-clause-me
set_deliver-requires-clause-me g c =
    let r = c.requires.ready in
    omega (arith, me_below (scope_of (g.P.Protocol.rules c.args.cx.now.protocol) c.args.cx.now) c.args.self.now r.view r.is.means, c.set_voted_to.ensures.me)

-- the desk has the vote with its tags
pub returns-clause-node : goal.returns-clause-node
returns-clause-node g c = λ v m.
    let scope = scope_of (g.P.Protocol.rules c.args.cx.now.protocol) c.args.cx.now in
    let said = body.Filled kind.Deliver c.args.h (length_of v c.args.h) c.args.content in
    subst (λ n. Means scope c.set_deliver.new.self
    (at_desk c.args.h (with_deliver v.me c.args.content (own_tags scope v c.args.h said)) (record v { voted_to = put v.voted_to c.args.h (n + 1) })))
    (c.log_len-slot.ensures scope v m)
    (subst (λ tags. Means scope c.set_deliver.new.self
    (at_desk c.args.h (with_deliver v.me c.args.content tags) (record v { voted_to = put v.voted_to c.args.h (c.log_len-slot.result + 1) })))
    (c.in_ok-tags.ensures.tags v m)
    (c.in_ok-set_deliver.ensures scope _ (c.set_voted_to.ensures.node scope v m)))

-- all guards are told
pub returns-clause-out : goal.returns-clause-out
returns-clause-out g c = λ v m.
    let scope = scope_of (g.P.Protocol.rules c.args.cx.now.protocol) c.args.cx.now in
    c.in_ok-tags.ensures.out v m
    ∙ ap (λ gs. joined c.args.out.now (made_for scope v.me (said_in v.epoch (body.Filled kind.Deliver c.args.h (length_of v c.args.h) c.args.content)) (guards_at scope v c.args.h) gs))
    (c.as_slice-to.ensures.value ∙ c.in_ok-guards.ensures.value v m)

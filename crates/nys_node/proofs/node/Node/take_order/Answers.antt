use Rattle.std.proofs.Common.{ap, subst, ◌∙◌, ◌==◌}
use Rattle.nys_config.specs.Scopes.{scope_of}
use Rattle.nys_node.proofs.Says.{host_told, me_below, ordering_is}
use Rattle.nys_node.proofs.SoundRanges.{live_host, open_room, order_due, order_range}
use Rattle.nys_node.specs.Means.{Means}
use Rattle.nys_rules.specs.Noting.{at_desk}
use Rattle.nys_rules.specs.Packets.{joined}
use Rattle.nys_rules.specs.Taking.{with_order}
use Rattle.nys_node.proofs.node.Node.take_order.Goals as goal

-- what is ordered is in range, and goes to the host, which is one of its guards
pub say_filled-requires : goal.say_filled-requires
say_filled-requires g c =
    let r = c.requires.ready in
    let scope = scope_of (g.P.Protocol.rules c.args.cx.now.protocol) c.args.cx.now in
    let room = open_room scope r.view c.args.h (order_due scope r.view c.args.h c.args.content r.enabled).0 in
    record {
      ready = record {
        view = r.view;
        means = r.is.means;
        host = r.hosts;
        range = order_range scope c.requires.scope r.view r.is.sound r.is.means.within c.args.h c.args.content r.enabled;
        some = host_told scope c.requires.scope r.view r.is.means.within c.args.h (live_host scope r.view c.args.h room.0) r.hosts;
      };
    }

-- the node is one of 32 hosts
pub set_order-requires-clause-me : goal.set_order-requires-clause-me
set_order-requires-clause-me g c = let r = c.requires.ready in me_below (scope_of (g.P.Protocol.rules c.args.cx.now.protocol) c.args.cx.now) c.args.self.now r.view r.is.means

-- the desk has the order with its tags
pub returns-clause-node : goal.returns-clause-node
returns-clause-node g c = λ v m.
    let scope = scope_of (g.P.Protocol.rules c.args.cx.now.protocol) c.args.cx.now in
    subst (λ tags. Means scope c.set_order.new.self (at_desk c.args.h (with_order (v.me == c.args.h) v.me c.args.content tags) v))
    (c.in_ok-tags.ensures.tags v m) (c.set_order.ensures scope v m)

-- the host alone is told
pub returns-clause-out : goal.returns-clause-out
returns-clause-out g c = λ v m.
    let scope = scope_of (g.P.Protocol.rules c.args.cx.now.protocol) c.args.cx.now in
    c.in_ok-tags.ensures.out v m ∙ ap (joined c.args.out.now) (ordering_is scope v c.args.h c.args.content)

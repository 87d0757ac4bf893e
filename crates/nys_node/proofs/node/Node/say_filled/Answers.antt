use Rattle.std.proofs.Common.{arith, ap, sym, subst, ◌∙◌}
use Rattle.nys_config.specs.Scopes.{scope_of}
use Rattle.nys_node.proofs.Says.{filled_is, made_is, me_below, sent_tagged, tags_are}
use Rattle.nys_rules.specs.Packets.{joined}
use Rattle.nys_rules.specs.View.{length_of}
use Rattle.nys_stmt.specs.Ranges.{IsInRange}
use Rattle.nys_stmt.specs.declared.statement.Body.TheVariants as body
use Rattle.nys_node.proofs.node.Node.say_filled.Goals as goal

-- the node is a party
pub own_tags-requires-clause-me : goal.own_tags-requires-clause-me
own_tags-requires-clause-me g c =
    let r = c.requires.ready in
    omega (arith, me_below (scope_of (g.P.Protocol.rules c.args.cx.now.protocol) c.args.cx.now) c.args.self.now r.view r.means)

-- what is said is in range
pub own_tags-requires-clause-range : goal.own_tags-requires-clause-range
own_tags-requires-clause-range g c =
    let r = c.requires.ready in
    let scope = scope_of (g.P.Protocol.rules c.args.cx.now.protocol) c.args.cx.now in
    subst IsInRange (sym (filled_is scope c.args.self.now r.view c.args.kind c.args.h c.log_len-slot.result c.in_ok-content.content c.args.content.now c.say-statement.result
    r.means c.say-statement.ensures (c.log_len-slot.ensures scope r.view r.means) c.in_ok-content.ensures)) r.range

-- the node is a party
pub make_with-requires-clause-maker : goal.make_with-requires-clause-maker
make_with-requires-clause-maker g c =
    let r = c.requires.ready in
    omega (arith, me_below (scope_of (g.P.Protocol.rules c.args.cx.now.protocol) c.args.cx.now) c.args.self.now r.view r.means)

-- what is said is in range
pub make_with-requires-clause-range : goal.make_with-requires-clause-range
make_with-requires-clause-range g c =
    let r = c.requires.ready in
    let scope = scope_of (g.P.Protocol.rules c.args.cx.now.protocol) c.args.cx.now in
    subst IsInRange (sym (filled_is scope c.args.self.now r.view c.args.kind c.args.h c.log_len-slot.result c.in_ok-content.content c.args.content.now c.say-statement.result
    r.means c.say-statement.ensures (c.log_len-slot.ensures scope r.view r.means) c.in_ok-content.ensures)) r.range

-- where it goes to another party there is a tag
pub make_with-requires-clause-some : goal.make_with-requires-clause-some
make_with-requires-clause-some g c =
    let r = c.requires.ready in
    let scope = scope_of (g.P.Protocol.rules c.args.cx.now.protocol) c.args.cx.now in
    let want = body.Filled c.args.kind c.args.h (length_of r.view c.args.h) c.args.content.now in
    let is = filled_is scope c.args.self.now r.view c.args.kind c.args.h c.log_len-slot.result c.in_ok-content.content c.args.content.now c.say-statement.result
    r.means c.say-statement.ensures (c.log_len-slot.ensures scope r.view r.means) c.in_ok-content.ensures in
    sent_tagged scope r.view c.args.h c.args.self.now.me want c.in_ok-tags.tags c.args.sent_to.now r.means.me
    (tags_are scope r.view c.args.h want c.say-statement.result c.in_ok-tags.tags (c.in_ok-tags.ensures r.view r.means) is) r.some

-- the tags are a copy of its own
pub returns-clause-tags : goal.returns-clause-tags
returns-clause-tags g c = λ v m.
    let scope = scope_of (g.P.Protocol.rules c.args.cx.now.protocol) c.args.cx.now in
    let is = filled_is scope c.args.self.now v c.args.kind c.args.h c.log_len-slot.result c.in_ok-content.content c.args.content.now c.say-statement.result
    m c.say-statement.ensures (c.log_len-slot.ensures scope v m) c.in_ok-content.ensures in
    c.in_ok-kept.ensures
    ∙ tags_are scope v c.args.h (body.Filled c.args.kind c.args.h (length_of v c.args.h) c.args.content.now) c.say-statement.result c.in_ok-tags.tags (c.in_ok-tags.ensures v m) is

-- what is made goes to these parties
pub returns-clause-out : goal.returns-clause-out
returns-clause-out g c = λ v m.
    let scope = scope_of (g.P.Protocol.rules c.args.cx.now.protocol) c.args.cx.now in
    let want = body.Filled c.args.kind c.args.h (length_of v c.args.h) c.args.content.now in
    let is = filled_is scope c.args.self.now v c.args.kind c.args.h c.log_len-slot.result c.in_ok-content.content c.args.content.now c.say-statement.result
    m c.say-statement.ensures (c.log_len-slot.ensures scope v m) c.in_ok-content.ensures in
    c.in_ok-make_with.ensures
    ∙ ap (joined c.args.out.now) (made_is scope v c.args.h c.args.self.now.me want c.say-statement.result c.in_ok-tags.tags c.args.sent_to.now m.me is
    (tags_are scope v c.args.h want c.say-statement.result c.in_ok-tags.tags (c.in_ok-tags.ensures v m) is))

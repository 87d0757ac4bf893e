use Rattle.std.proofs.Common.{refl}
use Rattle.nys_node.proofs.Says.{attest_room, said_range}
use Rattle.nys_node.proofs.SoundRanges.{attest_range}
use Rattle.nys_config.specs.Scopes.{scope_of}
use Rattle.nys_stmt.specs.declared.statement.Body.TheVariants as body
use Rattle.nys_node.proofs.node.Node.take_attest.Goals as goal

-- what is attested is in range
pub tell_guards-requires-clause-range : goal.tell_guards-requires-clause-range
tell_guards-requires-clause-range g c = let r = c.requires.ready in
    said_range (scope_of (g.P.Protocol.rules c.args.cx.now.protocol) c.args.cx.now) c.args.self.now r.view (body.Attest c.args.p c.args.h c.args.k c.args.payload) (body.Attest c.args.p c.args.h c.args.k c.args.payload) r.is.means refl
    (attest_range (scope_of (g.P.Protocol.rules c.args.cx.now.protocol) c.args.cx.now) c.requires.scope r.view r.is.sound r.is.means.within c.args.p c.args.h c.args.k c.args.payload r.enabled)

-- its number is below 65,536
pub set_attested-requires-clause-room : goal.set_attested-requires-clause-room
set_attested-requires-clause-room g c = let r = c.requires.ready in
    attest_room (scope_of (g.P.Protocol.rules c.args.cx.now.protocol) c.args.cx.now) c.args.self.now r.view r.is.means c.args.p c.args.h c.args.k c.args.payload r.hosts.0 r.hosts.1 r.enabled
    (attest_range (scope_of (g.P.Protocol.rules c.args.cx.now.protocol) c.args.cx.now) c.requires.scope r.view r.is.sound r.is.means.within c.args.p c.args.h c.args.k c.args.payload r.enabled).body.2

-- the link has one number more, and heads are recorded
pub returns-clause-node : goal.returns-clause-node
returns-clause-node g c = λ v m. c.record_heads.ensures _ (c.set_attested.ensures.node (scope_of (g.P.Protocol.rules c.args.cx.now.protocol) c.args.cx.now) v m)

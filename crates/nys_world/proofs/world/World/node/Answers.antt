-- A host that is honest has its node, and another has none.
use Rattle.std.proofs.Common.{◌≡◌, ◌<◌, length, ap, subst, arith}
use Rattle.std.specs.Prelude.{slice_get, Some, None}
use Rattle.nys_world.specs.Shows.{setting_of}
use Rattle.nys_world.proofs.PlaceLemmas.{node_found, none_found, none_then, some_then}
use Rattle.nys_world.proofs.world.World.node.Goals as goal

-- the node of a host
pub returns-clause-some : goal.returns-clause-some
returns-clause-some g c =
    let self = c.args.self.now in
    let setting = setting_of (g.P.Protocol.rules self.stage.cx.protocol) self.stage in
    let below : c.args.h < 32 = omega (arith, c.if-hosts-h.false, c.hosts.ensures.shape.few) in
    some_then _ _ c.node_in.result (λ node at w is.
    node_found setting self.moment.nodes.items w c.args.h node.now below is.shows.nodes
    (subst (λ items. slice_get items c.args.h ≡ Some (Some node.now)) c.as_slice.ensures.value at))
    c.node_in.ensures.some

-- the host lies
pub returns-clause-none : goal.returns-clause-none
returns-clause-none g c =
    let self = c.args.self.now in
    let setting = setting_of (g.P.Protocol.rules self.stage.cx.protocol) self.stage in
    let below : c.args.h < 32 = omega (arith, c.if-hosts-h.false, c.hosts.ensures.shape.few) in
    none_then _ _ c.node_in.result (λ at w is.
    none_found setting self.moment.nodes.items w c.args.h below is.shows.nodes
    (subst (λ items. slice_get items c.args.h ≡ Some None) c.as_slice.ensures.value (at (omega (arith, below, is.shows.nodes.size, ap length c.as_slice.ensures.value)))))
    c.node_in.ensures.none

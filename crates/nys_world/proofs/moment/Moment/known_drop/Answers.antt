-- The head that stands beside the packet is that of its record.
use Rattle.std.proofs.Common.{◌≡◌, Some, subst, sym}
use Rattle.std.proofs.lemmas.Option.{IfSome_then}
use Rattle.std.specs.Prelude.{slice_get}
use Rattle.nys_world.specs.Given.{bytes_given, HasNode}
use Rattle.nys_world.specs.Shows.{setting_of}
use Rattle.nys_world.proofs.PlaceLemmas.{has_node, node_there}
use Rattle.nys_world.proofs.moment.Moment.known_drop.Goals as goal

-- the host has a node
pub node_of-requires : goal.node_of-requires
node_of-requires g c =
    let setting = setting_of (g.P.Protocol.rules c.args.stage.now.cx.protocol) c.args.stage.now in
    let nodes = c.args.self.now.nodes.items in
    let shown = c.requires.shown in
    subst (λ items. HasNode items c.args.g) (sym c.as_slice.ensures.value)
    (has_node setting nodes shown.0 c.args.g shown.1.nodes c.requires.host c.requires.honest)

-- its node drops it
pub returns-in-Some : goal.returns-in-Some
returns-in-Some g c =
    let setting = setting_of (g.P.Protocol.rules c.args.stage.now.cx.protocol) c.args.stage.now in
    let nodes = c.args.self.now.nodes.items in
    let node = c.node_of.result.now in
    IfSome_then c.drops.result c.drops.ensures.handled (λ cause drops w s.
    let at = subst (λ items. slice_get items c.args.g ≡ Some (Some node)) c.as_slice.ensures.value c.node_of.ensures in
    let is = node_there setting nodes w c.args.g node s.nodes at in
    drops (w.nodes c.args.g) is.means (bytes_given w c.args.packet) (c.in-Some.ensures w s.books))

-- The nodes of the hosts before this one.
use Rattle.nys_node.specs.Entering.{AreRows}
use Rattle.nys_rules.specs.World.{fresh_world}
use Rattle.nys_world.specs.Shows.{IsNodeOf, setting_of}
use Rattle.nys_world.proofs.moment.first_nodes.Given as goal

abbrev pub invariant-loop-g : goal.invariant-loop-g
invariant-loop-g g l = let setting = setting_of (g.P.Protocol.rules l.stage.cx.protocol) l.stage in
    AreRows l.g l.nodes.items (IsNodeOf setting (fresh_world setting))

-- One host after another.
use Rattle.std.proofs.Common.{arith}
use Rattle.nys_node.proofs.EnteringLemmas.{rows_more, rows_none}
use Rattle.nys_rules.specs.World.{fresh_world}
use Rattle.nys_world.specs.Shows.{IsNodeOf, setting_of}
use Rattle.nys_world.proofs.FirstMoment.{nodes_are}
use Rattle.nys_world.proofs.moment.first_nodes.Goals as goal

-- no host
pub loop-g-init : goal.loop-g-init
loop-g-init g c =
    let setting = setting_of (g.P.Protocol.rules c.args.stage.now.cx.protocol) c.args.stage.now in
    rows_none c.new-nodes.result.items (IsNodeOf setting (fresh_world setting)) c.new-nodes.ensures.items

-- one host more
pub loop-g-preserved : goal.loop-g-preserved
loop-g-preserved g c =
    let setting = setting_of (g.P.Protocol.rules c.args.stage.now.cx.protocol) c.args.stage.now in
    let Fits = IsNodeOf setting (fresh_world setting) in
    rw c.in_ok-push.ensures.items
    (rows_more c.loop-g.g c.loop-g.nodes.items Fits c.in_ok-node.node c.loop-g.invariant c.in_ok-node.ensures)

-- all hosts
pub returns : goal.returns
returns g c =
    let setting = setting_of (g.P.Protocol.rules c.args.stage.now.cx.protocol) c.args.stage.now in
    nodes_are setting (fresh_world setting) c.loop-g.nodes.items c.loop-g.g (omega (arith, c.loop-g.auto.g-end, c.loop-g-test.false))
    c.loop-g.invariant

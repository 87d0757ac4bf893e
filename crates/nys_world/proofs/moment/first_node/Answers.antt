-- An honest host has a node, in its first view.
use Rattle.std.proofs.Common.{◌∙◌, sym}
use Rattle.nys_rules.specs.World.{fresh_world}
use Rattle.nys_config.specs.Scopes.{scope_of}
use Rattle.nys_world.specs.Shows.{setting_of}
use Rattle.nys_world.proofs.FirstMoment.{honest_host}
use Rattle.nys_world.proofs.moment.first_node.Goals as goal

-- an honest host is one of the protocol
pub new-requires-clause-me : goal.new-requires-clause-me
unfolding scope_of
new-requires-clause-me g c =
    honest_host (setting_of (g.P.Protocol.rules c.args.stage.now.cx.protocol) c.args.stage.now) c.args.g c.requires.host
    (sym c.is_honest.ensures ∙ c.if-not-is_honest.false)

-- it has its node
pub returns : goal.returns
unfolding fresh_world
returns g c = (sym c.is_honest.ensures ∙ c.if-not-is_honest.false, c.in_ok-node.ensures.view)

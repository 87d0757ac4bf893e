use Rattle.std.proofs.Common.{◌∙◌, ap}
use Rattle.nys_rules.specs.Asking.{questions}
use Rattle.nys_rules.specs.Packets.{joined}
use Rattle.nys_config.specs.Scopes.{scope_of}
use Rattle.nys_node.proofs.HandleLemmas.{goes_as}
use Rattle.nys_node.proofs.node.Node.ask.Goals as goal

-- it asks, and settles
pub returns : goal.returns
returns g c = record {
  asks = λ v is.
      let scope = scope_of (g.P.Protocol.rules c.args.cx.now.protocol) c.args.cx.now in
      let t = c.in_ok-done.ensures v is in
      (t.0, t.1, goes_as scope v t.0 c.ask_all.new.out (questions scope v) c.in_ok-done.done (c.in_ok-ask_all.ensures v is.means ∙ ap (λ acts. joined acts (questions scope v)) c.new-out.ensures) t.2);
}

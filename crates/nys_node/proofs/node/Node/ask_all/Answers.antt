use Rattle.std.proofs.Common.{◌≡◌, false, ◌∙◌, ap, sym}
use Rattle.nys_config.specs.Scopes.{scope_of}
use Rattle.nys_rules.specs.Packets.{joined}
use Rattle.nys_node.proofs.AskLemmas.{active_asks}
use Rattle.nys_node.proofs.node.Node.ask_all.Goals as goal

-- it isn't wedged
pub returns : goal.returns
returns g c = λ v m.
    let scope = scope_of (g.P.Protocol.rules c.args.cx.now.protocol) c.args.cx.now in
    let active : v.wedged ≡ false = sym m.wedged ∙ c.if-self.false in
    c.in_ok-ask_each.ensures v m ∙ ap (λ acts. joined c.args.out.now acts) (active_asks scope v active)

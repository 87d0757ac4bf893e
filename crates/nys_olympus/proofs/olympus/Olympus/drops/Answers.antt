use Rattle.nys_config.specs.Scopes.{scope_of}
use Rattle.nys_olympus.proofs.HeadDropLemmas.{drops_handled, drops_none, drops_some}
use Rattle.nys_olympus.proofs.olympus.Olympus.drops.Goals as goal

-- what the head tells is so of each record that has it
pub returns : goal.returns
returns g c = record {
  some = drops_some (scope_of (g.P.Protocol.rules c.args.cx.now.protocol) c.args.cx.now) c.args.self.now c.args.head.now c.head_drop.result c.head_drop.ensures;
  none = drops_none (scope_of (g.P.Protocol.rules c.args.cx.now.protocol) c.args.cx.now) c.args.self.now c.args.head.now c.head_drop.result c.head_drop.ensures;
  handled = drops_handled (scope_of (g.P.Protocol.rules c.args.cx.now.protocol) c.args.cx.now) c.args.self.now c.args.head.now c.head_drop.result c.head_drop.ensures;
}

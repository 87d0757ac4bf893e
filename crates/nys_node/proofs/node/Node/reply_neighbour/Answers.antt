use Rattle.std.proofs.Common.{◌∙◌, sym}
use Rattle.nys_config.specs.Scopes.{scope_of}
use Rattle.nys_node.proofs.AnswerLemmas.{links_none}
use Rattle.nys_node.proofs.node.Node.reply_neighbour.Goals as goal

-- the sender is no neighbour
pub returns-else-linked : goal.returns-else-linked
returns-else-linked g c = λ v m.
    let rules = g.P.Protocol.rules c.args.cx.now.protocol in
    links_none (scope_of rules c.args.cx.now) v c.args.asker c.args.h c.args.p (λ q. rules.linked q c.args.h) c.args.out.now (sym c.linked.ensures ∙ c.if-linked.false)

-- What is done at once by a record, by its kind.
use Rattle.nys_config.specs.Scopes.{scope_of}
use Rattle.std.proofs.lemmas.Result.{on_ok_weaker}
use Rattle.nys_node.proofs.node.Node.act.Goals as goal

-- what is said of a content
pub returns-in-Filled : goal.returns-in-Filled
returns-in-Filled g c =
    let scope = scope_of (g.P.Protocol.rules c.args.cx.now.protocol) c.args.cx.now in
    rw c.in-Filled.is
    (on_ok_weaker c.act_filled.result (λ all v m. all scope v m c.in-Filled.slot c.in-Filled.content c.args.makers.now)
    c.act_filled.ensures)

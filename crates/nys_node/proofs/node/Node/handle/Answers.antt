use Rattle.nys_config.specs.Scopes.{scope_of}
use Rattle.nys_node.proofs.HandleLemmas.{handles_record}
use Rattle.nys_node.proofs.node.Node.handle.Goals as goal

-- the bytes are a record
pub returns-in_ok-done-in-Ok-clause-handles : goal.returns-in_ok-done-in-Ok-clause-handles
returns-in_ok-done-in-Ok-clause-handles g c = λ v is.
    let scope = scope_of (g.P.Protocol.rules c.args.cx.now.protocol) c.args.cx.now in
    let t = c.in_ok-done-in-Ok.ensures.answers v is in
    (t.0, t.1, handles_record scope v t.0 c.args.frame.now c.in-Ok.record c.in_ok-done-in-Ok.done c.in-Ok.ensures.exact t.2)

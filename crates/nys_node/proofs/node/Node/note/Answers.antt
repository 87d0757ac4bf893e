use Rattle.nys_config.specs.Scopes.{scope_of}
use Rattle.std.proofs.lemmas.Result.{on_ok_weaker}
use Rattle.nys_node.proofs.node.Node.note.Goals as goal

-- the epoch ends
pub returns-in-Wedge : goal.returns-in-Wedge
returns-in-Wedge g c = λ v m.
    let scope = scope_of (g.P.Protocol.rules c.args.cx.now.protocol) c.args.cx.now in
    rw c.in-Wedge.is (c.note_wedge.ensures scope v m)

-- what is said of a content changes what its kind does
pub returns-in-Filled : goal.returns-in-Filled
returns-in-Filled g c =
    rw c.in-Filled.is
    (on_ok_weaker c.note_filled.result (λ all v m. all v c.args.statement.now.epoch c.in-Filled.slot m) c.note_filled.ensures)

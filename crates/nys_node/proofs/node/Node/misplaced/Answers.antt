use Rattle.std.proofs.Common.{◌∙◌, sym}
use Rattle.nys_config.specs.Scopes.{scope_of}
use Rattle.nys_node.proofs.HeadDropLemmas.{entry_misplaced, other_misplaced}
use Rattle.nys_node.proofs.node.Node.misplaced.Goals as goal

-- an Inherit
pub returns-then-is_inherit : goal.returns-then-is_inherit
returns-then-is_inherit g c = λ v m.
    let scope = scope_of (g.P.Protocol.rules c.args.cx.now.protocol) c.args.cx.now in
    entry_misplaced scope v c.head-head.result c.args.given.now.statement c.inherit_drop.result c.head-head.ensures (sym c.if-is_inherit.ensures)
    (λ content same. c.inherit_drop.ensures v m content (same ∙ sym c.message.ensures))

-- any other
pub returns-else-is_inherit : goal.returns-else-is_inherit
returns-else-is_inherit g c = λ v m.
    let scope = scope_of (g.P.Protocol.rules c.args.cx.now.protocol) c.args.cx.now in
    c.head_drop.ensures v m ∙ other_misplaced scope v c.head-head.result c.args.given.now.statement c.head-head.ensures (sym c.if-is_inherit.ensures)

use Rattle.std.proofs.Common.{sym}
use Rattle.std.proofs.lemmas.Option.{slice_get_read}
use Rattle.nys_node.proofs.node.Node.desk.Goals as goal

-- the table has the view's desks
pub returns : goal.returns
returns g c = λ scope v m.
    m.desks.each c.args.h _ (slice_get_read c.args.self.now.desks.items 32 c.args.h _ (sym m.desks.size) c.requires.host c.index.ensures)

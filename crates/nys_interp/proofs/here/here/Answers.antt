use Rattle.std.proofs.Common.{◌∷◌, ◌++◌, [], ap, sym, ◌∙◌, if◌then◌else◌}
use Rattle.nys_graph.specs.Links.{linked_in}
use Rattle.nys_interp.proofs.Nears.{near_more}
use Rattle.nys_interp.proofs.here.here.Goals as goal

-- the neighbours grow by one host more, if that is one
pub loop-q-preserved : goal.loop-q-preserved
loop-q-preserved c =
    let linked = linked_in c.args.graph.now.rows c.args.h in
    let q = c.loop-q.q in
    c.in_ok-add.ensures ∙ ap (λ near. near ++ (if linked q then q ∷ [] else [])) c.loop-q.invariant ∙ sym (near_more linked q)

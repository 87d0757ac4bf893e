-- The guard graph of each epoch is found behind those before it.
use Rattle.std.proofs.lemmas.Result.{err_from_is_err_and}
use Rattle.nys_graph.specs.Links.{linked_in}
use Rattle.nys_guard_commands.proofs.GraphsLemmas.{graphs_more, refused_at}
use Rattle.nys_guard_commands.proofs.graphs.guard_graphs.Goals as goal

pub returns-in_err-found-clause-refused : goal.returns-in_err-found-clause-refused
returns-in_err-found-clause-refused c =
    let same = err_from_is_err_and c.from_residual.result c.from_residual.ensures.1 in
    rw (same.1, same.2)
    (refused_at c.args.graph.now.hosts (linked_in c.args.graph.now.rows) c.args.epochs.now c.loop-e.e c.index-epochs-e.result
    c.loop-e.graphs.items c.in_err-found.field-0.0 c.loop-e-test.true c.index-epochs-e.is c.loop-e.invariant
    c.in_err-found.ensures.err)

pub loop-e-preserved : goal.loop-e-preserved
loop-e-preserved c =
    rw c.in_ok-push.ensures.ok
    (graphs_more c.args.graph.now.hosts (linked_in c.args.graph.now.rows) c.args.epochs.now c.loop-e.e c.index-epochs-e.result
    c.loop-e.graphs.items c.in_ok-found.found c.loop-e-test.true c.index-epochs-e.is c.loop-e.invariant
    c.in_ok-found.ensures.ok)

-- Guards that are listed are those of the table, whose test was made; else the planner says why it has none.
use Rattle.std.proofs.Common.{refl}
use Rattle.nys_graph.specs.Links.{linked_in}
use Rattle.nys_guard_commands.proofs.GraphsLemmas.{listed_fault, listed_graph, planned_fault}
use Rattle.nys_guard_commands.proofs.graphs.graph_of.Goals as goal

pub returns-in-Ok-check-clause-ok : goal.returns-in-Ok-check-clause-ok
returns-in-Ok-check-clause-ok c =
    listed_graph c.args.graph.now.hosts (linked_in c.args.graph.now.rows) c.args.epoch c.thresholds_of-t.result
    c.in-Some.guards c.in-Some.is c.thresholds_of-t.ensures.same (c.in-Ok-check.ensures.good.0 refl)

pub returns-in-Err-check-clause-err : goal.returns-in-Err-check-clause-err
returns-in-Err-check-clause-err c =
    listed_fault c.args.graph.now.hosts (linked_in c.args.graph.now.rows) c.args.epoch c.thresholds_of-t.result
    c.in-Some.guards c.in-Err-check.fault c.in-Some.is c.thresholds_of-t.ensures.same c.in-Err-check.ensures.fault

pub returns-in-Err-clause-err : goal.returns-in-Err-clause-err
returns-in-Err-clause-err c =
    planned_fault c.args.graph.now.hosts (linked_in c.args.graph.now.rows) c.args.epoch c.thresholds_of-t.result
    c.in-Err.fault c.in_default.is c.thresholds_of-t.ensures.same c.in-Err.ensures.fault

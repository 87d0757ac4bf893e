use Rattle.nys_scenario.proofs.links.graph.Goals as goal
use Rattle.nys_scenario.proofs.GraphLemmas.{accepted, refused}

pub returns-in-Ok-clause-ok : goal.returns-in-Ok-clause-ok
returns-in-Ok-clause-ok c = accepted c.args.hosts c.args.links.now _ c.in-Ok.ensures.good c.in-Ok.ensures.linked

pub returns-in-Err-clause-err : goal.returns-in-Err-clause-err
returns-in-Err-clause-err c = refused c.args.hosts c.args.links.now c.in-Err.field-0 c.in-Err.ensures.fault

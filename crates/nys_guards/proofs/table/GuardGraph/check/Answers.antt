-- Good is to have no fault; a fault of a link shares too few guards.
use Rattle.nys_graph.specs.Links.{linked_in}
use Rattle.nys_guards.specs.Good.{guards_in, threshold_in}
use Rattle.nys_guards.proofs.GoodLemmas.{good_from_ok, ok_from_good}
use Rattle.nys_guards.proofs.table.GuardGraph.check.Goals as goal

pub returns-clause-good : goal.returns-clause-good
returns-clause-good c = (
  good_from_ok c.args.graph.now.hosts (linked_in c.args.graph.now.rows) (threshold_in c.args.self.now.t)
      c.args.self.now.credit
      (guards_in c.args.self.now.guards) c.check_links.result c.args.graph.now.shape
      c.in_ok-check_hosts.ensures.clean c.check_links.ensures.clean,
  ok_from_good c.args.graph.now.hosts (linked_in c.args.graph.now.rows) (threshold_in c.args.self.now.t)
      c.args.self.now.credit
      (guards_in c.args.self.now.guards) c.check_links.result c.check_links.ensures.fault,
)

use Rattle.std.proofs.Common.{rules}
use Rattle.nys_scenario.proofs.Arrays.{count_of_items}
use Rattle.nys_scenario.proofs.guards.count.Goals as goal

pub returns-clause-items : goal.returns-clause-items
returns-clause-items c = rw (count_of_items c.args.array.now.items) (search rules)

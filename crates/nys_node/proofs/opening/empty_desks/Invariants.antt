-- As many empty desks as there were turns.
use Rattle.std.proofs.Common.{◌≡◌, replicate}
use Rattle.nys_rules.specs.View.{empty_desk}
use Rattle.nys_node.proofs.opening.empty_desks.Given as goal

abbrev pub invariant-loop : goal.invariant-loop
invariant-loop l = l.desks.items ≡ replicate l.counter empty_desk

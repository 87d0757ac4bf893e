use Rattle.std.proofs.Common.{◌≡◌, drop}
use Rattle.nys_names.specs.Exprs.{expr}
use Rattle.nys_names.specs.Stmts as spec
use Rattle.nys_names.proofs.ListLemmas.{all_onto}
use Rattle.nys_names.proofs.statement.exprs.Given as goal

-- what is left of a list, behind what was placed, becomes what the whole list becomes
abbrev pub invariant-loop-next : goal.invariant-loop-next
invariant-loop-next l = all_onto expr l.found (drop l.next-index l.list) l.bindings ≡ spec.exprs l.list l.bindings

use Rattle.std.proofs.Common.{◌≡◌, ◌≤◌, drop}
use Rattle.nys_tree.specs.Bindings.{top}
use Rattle.nys_tree.specs.Named.{MAX_STATE}
use Rattle.nys_names.specs.Stmts as spec
use Rattle.nys_names.proofs.ListLemmas.{vars_onto}
use Rattle.nys_names.proofs.machine.vars.Given as goal

-- what is left of the variables, behind what was placed, becomes what all of them become; a state's numbers are all that is seen
abbrev pub invariant-loop-next : goal.invariant-loop-next
invariant-loop-next l =
    (vars_onto l.found (drop l.next-index l.list) l.bindings ≡ spec.vars l.list l.fn.bindings) × (top l.bindings ≤ MAX_STATE)

use Rattle.std.proofs.Common.{◌≡◌, map, drop}
use Rattle.nys_names.specs.Exprs as spec
use Rattle.nys_names.proofs.ListLemmas.{all_onto}
use Rattle.nys_names.proofs.expression.+place.Given as goal

-- what is left of the factors, behind what was placed, becomes what all become
abbrev pub invariant-term_tails-loop-next : goal.invariant-term_tails-loop-next
invariant-term_tails-loop-next l = all_onto spec.term_tail l.found (drop l.next-index l.list) l.bindings ≡ spec.all_placed (map spec.term_tail l.list) l.bindings

-- what is left of the terms, behind what was placed, becomes what all become
abbrev pub invariant-tails-loop-next : goal.invariant-tails-loop-next
invariant-tails-loop-next l = all_onto spec.tail l.found (drop l.next-index l.list) l.bindings ≡ spec.all_placed (map spec.tail l.list) l.bindings

-- what is left of the operands of `and`, behind what was placed, becomes what all become
abbrev pub invariant-negs-loop-next : goal.invariant-negs-loop-next
invariant-negs-loop-next l = all_onto spec.neg l.found (drop l.next-index l.list) l.bindings ≡ spec.all_placed (map spec.neg l.list) l.bindings

-- what is left of the operands of `or`, behind what was placed, becomes what all become
abbrev pub invariant-boths-loop-next : goal.invariant-boths-loop-next
invariant-boths-loop-next l = all_onto spec.both l.found (drop l.next-index l.list) l.bindings ≡ spec.all_placed (map spec.both l.list) l.bindings

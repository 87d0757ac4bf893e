use Rattle.std.proofs.Common.{◌≡◌, ◌-◌, ◌≤◌, length, map, drop}
use Rattle.nys_names.specs.Stmts as spec
use Rattle.nys_names.proofs.ListLemmas.{stmts_onto}
use Rattle.nys_names.proofs.statement.+place_block.Given as goal

-- what is left of the block, behind what was placed, becomes what the whole block becomes; what is seen is above what was seen before the block
abbrev pub invariant-stmts-loop-next : goal.invariant-stmts-loop-next
invariant-stmts-loop-next l =
    (stmts_onto l.found (drop l.next-index l.list) l.bindings ≡ spec.stmts_placed (map spec.stmt l.list) l.fn.bindings)
    × (drop (length l.bindings - length l.fn.bindings) l.bindings ≡ l.fn.bindings) × (length l.fn.bindings ≤ length l.bindings)

use Rattle.std.proofs.Common.{◌≡◌, ℕ, ◌-◌, ◌+◌, length}
use Rattle.nys_source.specs.Tables.{lists_at}
use Rattle.nys_olympus.proofs.kept.make_room.Given as goal

-- the slots so far have what they had
abbrev pub invariant-loop-alloc : goal.invariant-loop-alloc
invariant-loop-alloc l = (s : ℕ) → lists_at l.slots.items s ≡ lists_at l.fn.slots.items s

abbrev pub decreases-loop-alloc : goal.decreases-loop-alloc
decreases-loop-alloc l = l.slot + 1 - length l.slots.items

use Rattle.std.proofs.Common.{◌≡◌, ◌*◌, ◌++◌, length, ◌-◌}
use Rattle.nys_wire.specs.InPlace.{numbers_in}
use Rattle.nys_wire.proofs.payload.numbers.Given as goal

-- the numbers that were taken and those that are left are all
abbrev pub invariant-loop : goal.invariant-loop
invariant-loop l = (l.numbers.items ++ numbers_in (l.count - l.counter) l.left ≡ numbers_in l.count l.bytes) × (length l.left ≡ 8 * (l.count - l.counter))

-- The links before this one are recorded, and the rest is as before.
use Rattle.std.proofs.Common.{◌≡◌, ℕ, nat_lt, cond, length, Some, None}
use Rattle.std.specs.Option.{option_or}
use Rattle.nys_hosts.specs.Sets.{has}
use Rattle.nys_votes.specs.Seats.{seat_of}
use Rattle.nys_credit.proofs.places.record.Given as goal

abbrev pub invariant-loop-p : goal.invariant-loop-p
invariant-loop-p l =
    ((q : ℕ) → seat_of l.heads q ≡ cond (nat_lt q l.p) (option_or (seat_of l.fn.heads q) (cond (has l.links q) (Some l.since) None)) (seat_of l.fn.heads q))
    × (length l.heads ≡ 32)

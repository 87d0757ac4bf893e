-- The makers below this one whose seats are taken.
use Rattle.std.proofs.Common.{◌≡◌, ℕ, nat_lt}
use Rattle.std.specs.Prelude.{◌&&◌}
use Rattle.nys_hosts.specs.Sets.{has}
use Rattle.nys_votes.specs.Seats.{is_seated}
use Rattle.nys_seats.proofs.seats.Seats.makers.Given as goal

abbrev pub invariant-loop-maker : goal.invariant-loop-maker
invariant-loop-maker g l = (h : ℕ) → has l.makers h ≡ (nat_lt h l.maker && is_seated l.self-inside.held.items h)

-- The links below this one whose heads are overdue.
use Rattle.std.proofs.Common.{◌≡◌, ℕ, nat_lt, length}
use Rattle.std.specs.Prelude.{◌&&◌}
use Rattle.nys_hosts.specs.Sets.{has}
use Rattle.nys_votes.specs.Credit.{is_overdue}
use Rattle.nys_credit.proofs.places.overdue.Given as goal

abbrev pub invariant-loop-p : goal.invariant-loop-p
invariant-loop-p l =
    ((h : ℕ) → has l.links h ≡ (nat_lt h l.p && is_overdue l.credit l.slot l.heads h))
    × (length l.heads ≡ 32)

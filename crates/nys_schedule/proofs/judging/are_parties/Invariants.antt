use Rattle.std.proofs.Common.{◌≡◌, drop}
use Rattle.nys_schedule.specs.Judging.{are_parties}
use Rattle.nys_schedule.proofs.judging.are_parties.Given as goal

-- all are parties exactly where those that are left are
abbrev pub invariant-loop-i : goal.invariant-loop-i
invariant-loop-i l = are_parties l.hosts (drop l.i l.to) ≡ are_parties l.hosts l.to

-- the hosts so far have the threshold, and the others 0
use Rattle.std.proofs.Common.{◌≡◌, ℕ, length, nat_lt, if◌then◌else◌}
use Rattle.nys_guards.specs.Good.{threshold_in}
use Rattle.nys_guard_commands.proofs.thresholds.level.Given as goal

abbrev pub invariant-loop-h : goal.invariant-loop-h
invariant-loop-h l = record {
  long : length l.table ≡ 32;
  same : (k : ℕ) → threshold_in l.table k ≡ (if nat_lt k l.h then l.t else 0);
}

use Rattle.std.proofs.Common.{◌≡◌, length}
use Rattle.nys_frame.proofs.tcp.open_all.Given as goal

-- one more stream for each turn
abbrev pub invariant-loop : goal.invariant-loop
invariant-loop g l = length l.opened.items ≡ l.counter

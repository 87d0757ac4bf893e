-- The bases of the hosts before this one stand in the table, and behind them 0.
use Rattle.std.proofs.Common.{cond, nat_lt}
use Rattle.nys_rules.specs.Noting.{bases}
use Rattle.nys_sending.specs.Tables.{IsTable}
use Rattle.nys_node.proofs.opening.bases_by.Given as goal

abbrev pub invariant-loop-h : goal.invariant-loop-h
invariant-loop-h l = IsTable l.found (λ k. cond (nat_lt k l.h) (bases l.lengths k) 0)

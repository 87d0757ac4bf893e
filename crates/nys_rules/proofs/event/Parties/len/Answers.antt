use Rattle.std.proofs.Common.{arith}
use Rattle.nys_stmt.proofs.Rising.{few_from_rising}
use Rattle.nys_rules.proofs.event.Parties.len.Goals as goal

-- rising parties are at most 33
pub overflow_cast-result : goal.overflow_cast-result
overflow_cast-result c = omega (arith, c.len.ensures, few_from_rising (λ p. p) 32 _ c.self.invariant.rising c.self.invariant.each)

-- the same
pub returns-clause-few : goal.returns-clause-few
returns-clause-few c = omega (arith, c.len.ensures, few_from_rising (λ p. p) 32 _ c.self.invariant.rising c.self.invariant.each)

use Rattle.std.proofs.Common.{arith}
use Rattle.nys_stmt.proofs.Rising.{few_from_rising}
use Rattle.nys_stmt.proofs.makers.MakerList.len.Goals as goal

pub overflow_cast-result : goal.overflow_cast-result
overflow_cast-result c = omega (arith, c.len.ensures, few_from_rising (λ t. t.maker) 32 _ c.self.invariant.rising c.self.invariant.parties)

pub returns-clause-few : goal.returns-clause-few
returns-clause-few c = omega (arith, c.len.ensures, few_from_rising (λ t. t.maker) 32 _ c.self.invariant.rising c.self.invariant.parties)

use Rattle.std.proofs.Common.{◌≡◌, ap, ◌∙◌, sym, arith, Ok, Err}
use Rattle.nys_parse.specs.Expressions.{deeper_of}
use Rattle.nys_parse.proofs.Turns.{deeper}
use Rattle.nys_parse.proofs.expression.level.Goals as goal

-- no level is left
pub returns-then-depth-eq0 : goal.returns-then-depth-eq0
unfolding deeper_of
returns-then-depth-eq0 c = let none : c.args.depth ≡ 0 = omega arith in ap (λ n. (deeper_of n).level c.args.tokens.now) none ∙ sym (ap Err c.deep.ensures)

-- a level is left, which the token takes
pub returns-else-depth-eq0 : goal.returns-else-depth-eq0
unfolding deeper_of
returns-else-depth-eq0 c = deeper (λ n. (deeper_of n).level c.args.tokens.now) c.args.depth (omega arith) ∙ sym (ap (λ rest. Ok (tt, rest)) c.behind.ensures)

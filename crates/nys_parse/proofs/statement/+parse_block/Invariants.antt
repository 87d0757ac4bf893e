use Rattle.std.proofs.Common.{◌≡◌, ◌+◌, ◌-◌, ◌*◌}
use Rattle.nys_parse.specs.Parsing.{many}
use Rattle.nys_parse.specs.Expressions.{deeper_of}
use Rattle.nys_parse.specs.Statements as spec
use Rattle.nys_parse.proofs.statement.+parse_block.Given as goal

-- each function calls those below it at the same depth, and those above it at one level less
abbrev pub decreases-inner_block : goal.decreases-inner_block
decreases-inner_block l = 16 * l.depth

abbrev pub decreases-inner_branch : goal.decreases-inner_branch
decreases-inner_branch l = 16 * l.depth

abbrev pub decreases-block : goal.decreases-block
decreases-block l = 16 * l.depth + 1

abbrev pub decreases-behind_else : goal.decreases-behind_else
decreases-behind_else l = 16 * l.depth + 2

abbrev pub decreases-other : goal.decreases-other
decreases-other l = 16 * l.depth + 3

abbrev pub decreases-branch : goal.decreases-branch
decreases-branch l = 16 * l.depth + 4

abbrev pub decreases-for_stmt : goal.decreases-for_stmt
decreases-for_stmt l = 16 * l.depth + 5

abbrev pub decreases-each_stmt : goal.decreases-each_stmt
decreases-each_stmt l = 16 * l.depth + 6

abbrev pub decreases-stmt : goal.decreases-stmt
decreases-stmt l = 16 * l.depth + 7

abbrev pub decreases-next_stmt : goal.decreases-next_stmt
decreases-next_stmt l = 16 * l.depth + 8

abbrev pub decreases-stmts : goal.decreases-stmts
decreases-stmts l = 16 * l.depth + 9

abbrev pub decreases-braced : goal.decreases-braced
decreases-braced l = 16 * l.depth + 10

-- what is left of a list, from what was found so far, gives what the whole list gives
abbrev pub invariant-stmts-loop-turn : goal.invariant-stmts-loop-turn
invariant-stmts-loop-turn l =
    spec.stmts (deeper_of l.depth) (spec.nested_of l.depth) l.fn.tokens ≡ many (spec.next_stmt (deeper_of l.depth) (spec.nested_of l.depth)) (l._turn-end - l._turn) l.found l.left

use Rattle.std.proofs.Common.{◌≡◌, ◌-◌}
use Rattle.nys_tree.specs.declared.stmt.TheConstants.{MAX_MEMBERS}
use Rattle.nys_parse.specs.Parsing.{many}
use Rattle.nys_parse.specs.Expressions.{deeper_of}
use Rattle.nys_parse.specs.Statements as spec
use Rattle.nys_parse.proofs.statement.members.Given as goal

-- what is left of a list, from what was found so far, gives what the whole list gives
abbrev pub invariant-loop-turn : goal.invariant-loop-turn
invariant-loop-turn l =
    spec.members (deeper_of l.depth) (spec.nested_of l.depth) l.fn.tokens ≡ many (spec.next_member (deeper_of l.depth) (spec.nested_of l.depth)) (MAX_MEMBERS - l._turn) l.found l.left

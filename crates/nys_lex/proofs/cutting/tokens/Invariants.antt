use Rattle.std.proofs.Common.{◌≡◌, ◌+◌, ◌≤◌, length}
use Rattle.nys_lex.specs.Tokens.{cut, prepend}
use Rattle.nys_lex.proofs.cutting.tokens.Given as goal

-- what was found stands before the tokens of the rest, and is with them the tokens of the text
abbrev pub invariant-loop-rest : goal.invariant-loop-rest
invariant-loop-rest l =
    (prepend l.found.items (cut l.place 0 l.rest) ≡ cut (record { line = 1; col = 1 }) 0 l.fn.text)
    × (l.place.line + length l.rest ≤ 65537) × (l.place.col + length l.rest ≤ 65537)

abbrev pub decreases-loop-rest : goal.decreases-loop-rest
decreases-loop-rest l = length l.rest

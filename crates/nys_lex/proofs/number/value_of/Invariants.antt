use Rattle.std.proofs.Common.{◌≡◌, ◌<◌, ◌^◌, drop}
use Rattle.std.specs.Prelude.{fold}
use Rattle.nys_lex.specs.Lexeme.{with_digit, value_of}
use Rattle.nys_lex.proofs.number.value_of.Given as goal

-- the digits that are left give from here what all of them give
abbrev pub invariant-loop-digit : goal.invariant-loop-digit
invariant-loop-digit l = (fold with_digit l.value (drop l.digit-index l.digits) ≡ value_of l.digits) × (l.value < 2 ^ 63)

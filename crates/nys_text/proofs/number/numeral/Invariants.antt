use Rattle.std.proofs.Common.{◌≡◌, ◌<◌, drop, Some}
use Rattle.nys_text.proofs.NumberLemmas.{digits_on}
use Rattle.nys_text.proofs.number.numeral.Given as goal

abbrev pub invariant-loop-digit : goal.invariant-loop-digit
invariant-loop-digit l = record {
  value : digits_on l.limit (Some l.value) (drop l.digit-index l.word) ≡ digits_on l.limit (Some 0) l.word;
  bound : l.value < l.limit;
}

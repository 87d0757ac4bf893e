use Rattle.std.proofs.Common.{◌≡◌, ◌++◌, drop, length, map}
use Rattle.nys_schedule.specs.Choices.{all_write, written}
use Rattle.nys_schedule.specs.Statements.{length_of}
use Rattle.nys_schedule.proofs.statement.each_length.Given as goal

-- whether the words that are left are lengths decides of all, and theirs come behind those so far
abbrev pub invariant-loop-word : goal.invariant-loop-word
invariant-loop-word l = record {
  all : all_write length_of (map (λ word. word.now) (drop l.word-index l.words)) ≡ all_write length_of (map (λ word. word.now) l.words);
  values : l.lengths ++ written length_of (map (λ word. word.now) (drop l.word-index l.words)) ≡ written length_of (map (λ word. word.now) l.words);
  count : length l.lengths ≡ l.word-index;
}

use Rattle.std.proofs.Common.{◌≡◌, ◌++◌, drop, map}
use Rattle.nys_text.specs.Numbers.{num_of}
use Rattle.nys_schedule.specs.Choices.{all_write, written}
use Rattle.nys_schedule.proofs.numbers.nums_of.Given as goal

-- whether the words that are left are numbers decides of all, and theirs come behind those so far
abbrev pub invariant-loop-word : goal.invariant-loop-word
invariant-loop-word l = record {
  all : all_write num_of (map (λ word. word.now) (drop l.word-index l.words)) ≡ all_write num_of (map (λ word. word.now) l.words);
  values : l.numbers.items ++ written num_of (map (λ word. word.now) (drop l.word-index l.words)) ≡ written num_of (map (λ word. word.now) l.words);
}

use Rattle.std.proofs.Common.{◌≡◌, ◌++◌, drop, map, vec_len}
use Rattle.nys_text.specs.Numbers.{all_ints, int_values}
use Rattle.nys_text.proofs.payload.ints_of.Given as goal

abbrev pub invariant-loop-word : goal.invariant-loop-word
invariant-loop-word l = record {
  all : all_ints (map (λ word. word.now) (drop l.word-index l.words)) ≡ all_ints (map (λ word. word.now) l.words);
  values : l.numbers.items ++ int_values (map (λ word. word.now) (drop l.word-index l.words)) ≡ int_values (map (λ word. word.now) l.words);
  count : vec_len l.numbers ≡ l.word-index;
}

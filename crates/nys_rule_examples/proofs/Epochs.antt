-- Epochs that end, computed.
use Rattle.std.proofs.Common.{refl}
use Rattle.nys_rule_examples.specs.Epochs.{given_up, taken_over}
use Rattle.nys_rule_examples.proofs.Reaching.{Computes}
use Rattle.nys_rule_examples.proofs.Words.{words}

-- a host that is given up
pub computes_given_up : Computes given_up
unfolding words
computes_given_up = refl

-- guards that take over
pub computes_taken_over : Computes taken_over
unfolding words
computes_taken_over = refl

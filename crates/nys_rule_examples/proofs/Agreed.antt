-- Agreement on an input and on a message, computed.
use Rattle.std.proofs.Common.{refl}
use Rattle.nys_rule_examples.specs.Agreed.{alone, caught_up, left_behind, logged, not_received, received, too_few}
use Rattle.nys_rule_examples.proofs.Reaching.{Computes}
use Rattle.nys_rule_examples.proofs.Words.{words}

-- three exchanges
pub computes_too_few : Computes too_few
unfolding words
computes_too_few = refl

-- four exchanges
pub computes_logged : Computes logged
unfolding words
computes_logged = refl

-- eight exchanges
pub computes_not_received : Computes not_received
unfolding words
computes_not_received = refl

-- nine exchanges
pub computes_received : Computes received
unfolding words
computes_received = refl

-- a host that guards itself
pub computes_alone : Computes alone
unfolding words
computes_alone = refl

-- a guard that is left behind
pub computes_left_behind : Computes left_behind
unfolding words
computes_left_behind = refl

-- a guard that asks
pub computes_caught_up : Computes caught_up
unfolding words
computes_caught_up = refl

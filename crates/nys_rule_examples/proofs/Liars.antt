-- Liars, computed.
use Rattle.std.proofs.Common.{refl}
use Rattle.std.specs.Prelude.{[], ◌∷◌}
use Rattle.nys_rules.specs.declared.notice.End.TheVariants.{Forged}
use Rattle.nys_rules.specs.Events.Plain.{Deliver, Steal}
use Rattle.nys_rule_examples.specs.Liars.{head_is_taken, IsFound, none_is_logged, one_is_logged, stolen}
use Rattle.nys_rule_examples.specs.Scenario.{four, honest}
use Rattle.nys_rule_examples.proofs.Reaching.{Computes, ComputesEnd, ends}
use Rattle.nys_rule_examples.proofs.Words.{words}

-- two offers, one of which three ordered
pub computes_one_is_logged : Computes one_is_logged
unfolding words
computes_one_is_logged = refl

-- two offers to one guard each
pub computes_none_is_logged : Computes none_is_logged
unfolding words
computes_none_is_logged = refl

-- a head that is passed over
pub computes_head_is_taken : Computes head_is_taken
unfolding words
computes_head_is_taken = refl

-- a stolen statement
computes_found : ComputesEnd (honest (four 4)) (Steal 2 (1 ∷ []) stolen ∷ Deliver 0 ∷ []) (Forged 1 2 1 stolen)
unfolding words
computes_found = refl

-- so the world ends
pub is_found : IsFound
is_found = ends (honest (four 4)) (Steal 2 (1 ∷ []) stolen ∷ Deliver 0 ∷ []) (Forged 1 2 1 stolen) computes_found

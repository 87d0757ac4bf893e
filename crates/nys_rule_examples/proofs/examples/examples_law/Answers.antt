-- The examples.
use Rattle.nys_rule_examples.specs.Agreed.{alone, caught_up, left_behind, logged, not_received, received, too_few}
use Rattle.nys_rule_examples.specs.Credited.{one_is_too_few, taken_at_the_last}
use Rattle.nys_rule_examples.specs.Decided.{unheard}
use Rattle.nys_rule_examples.specs.Epochs.{given_up, taken_over}
use Rattle.nys_rule_examples.specs.Relayed.{one_exchange, two_exchanges}
use Rattle.nys_rule_examples.specs.Logged.{spoiled}
use Rattle.nys_rule_examples.specs.Liars.{head_is_taken, none_is_logged, one_is_logged}
use Rattle.nys_rule_examples.proofs.Agreed.{computes_alone, computes_caught_up, computes_left_behind, computes_logged, computes_not_received, computes_received, computes_too_few}
use Rattle.nys_rule_examples.proofs.Credited.{can_credit, computes_one_is_too_few, computes_taken_at_the_last, one_that_holds}
use Rattle.nys_rule_examples.proofs.Decided.{computes_unheard, is_met}
use Rattle.nys_rule_examples.proofs.Drops.{node_drops, node_takings, olympus_drops}
use Rattle.nys_rule_examples.proofs.Epochs.{computes_given_up, computes_taken_over}
use Rattle.nys_rule_examples.proofs.Liars.{computes_head_is_taken, computes_none_is_logged, computes_one_is_logged, is_found}
use Rattle.nys_rule_examples.proofs.Logged.{can_log, computes_spoiled}
use Rattle.nys_rule_examples.proofs.Reaching.{leads}
use Rattle.nys_rule_examples.proofs.Relayed.{can_relay, computes_one_exchange, computes_two_exchanges}
use Rattle.nys_rule_examples.proofs.Steps.{candidates, decisions, settlings}
use Rattle.nys_rule_examples.proofs.examples.examples_law.Goals as goal

pub returns-clause-node_drops : goal.returns-clause-node_drops
returns-clause-node_drops c = node_drops

pub returns-clause-node_takings : goal.returns-clause-node_takings
returns-clause-node_takings c = node_takings

pub returns-clause-olympus_drops : goal.returns-clause-olympus_drops
returns-clause-olympus_drops c = olympus_drops

pub returns-clause-settlings : goal.returns-clause-settlings
returns-clause-settlings c = settlings

pub returns-clause-candidates : goal.returns-clause-candidates
returns-clause-candidates c = candidates

pub returns-clause-decisions : goal.returns-clause-decisions
returns-clause-decisions c = decisions

pub returns-clause-too_few : goal.returns-clause-too_few
returns-clause-too_few c = leads too_few computes_too_few

pub returns-clause-logged : goal.returns-clause-logged
returns-clause-logged c = leads logged computes_logged

pub returns-clause-not_received : goal.returns-clause-not_received
returns-clause-not_received c = leads not_received computes_not_received

pub returns-clause-received : goal.returns-clause-received
returns-clause-received c = leads received computes_received

pub returns-clause-alone : goal.returns-clause-alone
returns-clause-alone c = leads alone computes_alone

pub returns-clause-one_is_logged : goal.returns-clause-one_is_logged
returns-clause-one_is_logged c = leads one_is_logged computes_one_is_logged

pub returns-clause-none_is_logged : goal.returns-clause-none_is_logged
returns-clause-none_is_logged c = leads none_is_logged computes_none_is_logged

pub returns-clause-is_found : goal.returns-clause-is_found
returns-clause-is_found c = is_found

pub returns-clause-head_is_taken : goal.returns-clause-head_is_taken
returns-clause-head_is_taken c = leads head_is_taken computes_head_is_taken

pub returns-clause-given_up : goal.returns-clause-given_up
returns-clause-given_up c = leads given_up computes_given_up

pub returns-clause-taken_over : goal.returns-clause-taken_over
returns-clause-taken_over c = leads taken_over computes_taken_over

pub returns-clause-left_behind : goal.returns-clause-left_behind
returns-clause-left_behind c = leads left_behind computes_left_behind

pub returns-clause-caught_up : goal.returns-clause-caught_up
returns-clause-caught_up c = leads caught_up computes_caught_up

pub returns-clause-is_met : goal.returns-clause-is_met
returns-clause-is_met c = is_met

pub returns-clause-unheard : goal.returns-clause-unheard
returns-clause-unheard c = leads unheard computes_unheard

pub returns-clause-can_relay : goal.returns-clause-can_relay
returns-clause-can_relay c = can_relay

pub returns-clause-one_exchange : goal.returns-clause-one_exchange
returns-clause-one_exchange c = leads one_exchange computes_one_exchange

pub returns-clause-two_exchanges : goal.returns-clause-two_exchanges
returns-clause-two_exchanges c = leads two_exchanges computes_two_exchanges

pub returns-clause-can_log : goal.returns-clause-can_log
returns-clause-can_log c = can_log

pub returns-clause-spoiled : goal.returns-clause-spoiled
returns-clause-spoiled c = leads spoiled computes_spoiled

pub returns-clause-can_credit : goal.returns-clause-can_credit
returns-clause-can_credit c = can_credit

pub returns-clause-taken_at_the_last : goal.returns-clause-taken_at_the_last
returns-clause-taken_at_the_last c = leads taken_at_the_last computes_taken_at_the_last

pub returns-clause-one_holds : goal.returns-clause-one_holds
returns-clause-one_holds c = one_that_holds

pub returns-clause-one_is_too_few : goal.returns-clause-one_is_too_few
returns-clause-one_is_too_few c = leads one_is_too_few computes_one_is_too_few

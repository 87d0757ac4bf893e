-- The table of drops, computed.
use Rattle.std.proofs.Common.{refl}
use Rattle.nys_rule_examples.specs.Drops.{NodeDrops, NodeTakings, OlympusDrops}
use Rattle.nys_rule_examples.proofs.Words.{words}

-- the lines of the table at a node
pub node_drops : NodeDrops
unfolding words
node_drops = record {
  malformed = (refl, refl);
  report = refl;
  frozen = refl;
  other_epoch = refl;
  epoch_first = refl;
  opened_already = refl;
  past_the_scenario = refl;
  wedged = refl;
  no_host = refl;
  retired_host = refl;
  no_sender = refl;
  retired_sender = refl;
  no_neighbour = refl;
  few_lengths = refl;
  later_offer = refl;
  later_order = refl;
  later_deliver = refl;
  below_the_base = refl;
  past_the_window = refl;
  later_ask = refl;
  not_below_the_base = refl;
  not_the_next_entry = refl;
  unfit_entry = refl;
  other_maker = refl;
  other_receiver = refl;
  own_tag = refl;
  not_the_olympus = refl;
}

-- what a node drops nothing of
pub node_takings : NodeTakings
unfolding words
node_takings = record {
  offer = refl;
  early_offer = refl;
  order = refl;
  last_of_the_window = refl;
  ask = refl;
  wedge = refl;
  opened = refl;
  inherit = refl;
}

-- the lines of the table at the Olympus
pub olympus_drops : OlympusDrops
unfolding words
olympus_drops = record {
  offer = refl;
  wedge = refl;
  other_epoch = refl;
  not_ending = refl;
  no_host = refl;
  decided_host = refl;
  retired_host = refl;
  below_the_base = refl;
  other_receiver = refl;
  taken = refl;
}

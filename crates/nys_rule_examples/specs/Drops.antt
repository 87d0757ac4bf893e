-- A record for each line of the table of drops, at a node and at the Olympus.
use Rattle.std.specs.Prelude.{◌≡◌, ℕ, ◌==◌, true, [], ◌∷◌, replicate, Option, None, Some}
use Rattle.nys_stmt.specs.declared.records.Record.{Record}
use Rattle.nys_stmt.specs.declared.statement.Body.{Body}
use Rattle.nys_stmt.specs.declared.statement.Body.TheVariants as body
use Rattle.nys_stmt.specs.declared.statement.FilledKind.TheVariants as kind
use Rattle.nys_stmt.specs.declared.wire.WireKind.TheVariants as wrong
use Rattle.nys_bytes.specs.declared.content.Content.TheVariants.{Message}
use Rattle.nys_rules.specs.declared.cause.DropCause.{DropCause}
use Rattle.nys_rules.specs.declared.cause.DropCause.TheVariants as drop
use Rattle.nys_rules.specs.Dropping.{verdict}
use Rattle.nys_rules.specs.Handling.{dropped_by, Handles}
use Rattle.nys_rules.specs.Olympus.{first_olympus, olympus_verdict, OlympusView}
use Rattle.nys_rules.specs.Scope.{olympus}
use Rattle.nys_rules.specs.Sending.{said_in}
use Rattle.nys_rules.specs.View.{first_view, View}
use Rattle.nys_rule_examples.specs.Scenario.{first_message, four, input, just}

-- a record of an epoch with this maker, whose one tag is for this receiver
abbrev pub from_to : (maker receiver epoch : ℕ) → Body → Record
from_to maker receiver epoch said = record {
  statement = said_in epoch said;
  makers = record { maker = maker; tags = (receiver, replicate 32 maker) ∷ [] } ∷ [];
}

-- node 1 at the beginning
abbrev pub node : View
node = first_view (four 4) 1

-- node 1 once it accepted that the epoch ends
abbrev pub wedged_node : View
wedged_node = record node { wedged = true }

-- node 1 in an epoch in which host 3 is retired
abbrev pub later_node : View
later_node = record node { retired = λ h. h == 3 }

-- node 1 in an epoch that begins the log of host 0 at 2
abbrev pub heir : View
heir = record node { base = λ h. 2 }

-- what node 1 in this view says to a record of epoch 0 that host m tagged for it
abbrev pub at_node : View → (m : ℕ) → Body → Option DropCause
at_node v m said = verdict (four 4) v (from_to m 1 0 said)

-- the lines of the table at a node, in its order
pub record NodeDrops : Type 0 where
  -- no bytes are no record: the first field, the magic, is short
  pub malformed : Handles (four 4) node [] node (dropped_by (drop.Malformed 0 wrong.Short))
  pub report : at_node node 0 (body.Filled kind.Report 0 0 (input 5)) ≡ Some drop.NotMine
  pub frozen : at_node node 0 (body.Frozen 0 0) ≡ Some drop.NotMine
  pub other_epoch : verdict (four 4) node (from_to 0 1 1 (body.Filled kind.Offer 0 0 (input 5))) ≡ Some drop.Epoch
  -- a wedged node names the epoch first
  pub epoch_first : verdict (four 4) wedged_node (from_to 0 1 1 (body.Filled kind.Offer 0 0 (input 5))) ≡ Some drop.Epoch
  pub opened_already : verdict (four 4) node (from_to olympus 1 0 (body.Open (replicate 4 (Some 0)))) ≡ Some drop.Epoch
  pub past_the_scenario : verdict (four 4) node (from_to olympus 1 2 (body.Open (replicate 4 (Some 0)))) ≡ Some drop.Epoch
  pub wedged : at_node wedged_node 0 (body.Filled kind.Offer 0 0 (input 5)) ≡ Some drop.Wedged
  pub no_host : at_node node 4 (body.Filled kind.Offer 4 0 (input 5)) ≡ Some drop.NotGuard
  pub retired_host : at_node later_node 3 (body.Filled kind.Offer 3 0 (input 5)) ≡ Some drop.NotGuard
  pub no_sender : at_node node 0 (body.Attest 4 1 0 (just 5)) ≡ Some drop.NotGuard
  pub retired_sender : at_node (record node { retired = λ h. h == 0 }) 2 (body.Attest 0 1 0 (just 5)) ≡ Some drop.NotGuard
  pub no_neighbour : at_node node 0 (body.Attest 2 1 0 (just 5)) ≡ Some drop.NotGuard
  pub few_lengths : verdict (four 4) node (from_to olympus 1 1 (body.Open (replicate 3 (Some 0)))) ≡ Some drop.NotGuard
  pub later_offer : at_node node 0 (body.Filled kind.Offer 0 1 (input 5)) ≡ Some drop.Slot
  pub later_order : at_node node 0 (body.Filled kind.Order 0 1 (input 5)) ≡ Some drop.Slot
  pub later_deliver : at_node node 0 (body.Filled kind.Deliver 0 1 (input 5)) ≡ Some drop.Slot
  -- below the base no slot is open
  pub below_the_base : at_node heir 0 (body.Filled kind.Offer 0 0 (input 5)) ≡ Some drop.Slot
  pub past_the_window : at_node node 0 (body.Attest 0 1 64 (just 5)) ≡ Some drop.Slot
  pub later_ask : at_node node 0 (body.Ask 0 1) ≡ Some drop.Slot
  pub not_below_the_base : at_node node olympus (body.Filled kind.Inherit 0 0 (input 5)) ≡ Some drop.Slot
  pub not_the_next_entry : at_node heir olympus (body.Filled kind.Inherit 0 1 (input 5)) ≡ Some drop.Slot
  pub unfit_entry : at_node heir olympus (body.Filled kind.Inherit 1 0 (Message 0 1 (just 5))) ≡ Some drop.Slot
  -- an Offer of host 0 by another host
  pub other_maker : at_node node 2 (body.Filled kind.Offer 0 0 (input 5)) ≡ Some drop.NoTag
  -- its tag is for host 2
  pub other_receiver : verdict (four 4) node (from_to 0 2 0 (body.Filled kind.Offer 0 0 (input 5))) ≡ Some drop.NoTag
  -- the taker is never a maker
  pub own_tag : at_node node 1 (body.Filled kind.Offer 1 0 (input 5)) ≡ Some drop.NoTag
  pub not_the_olympus : at_node node 0 body.Wedge ≡ Some drop.NoTag

-- what a node drops nothing of
pub record NodeTakings : Type 0 where
  pub offer : at_node node 0 (body.Filled kind.Offer 0 0 (input 5)) ≡ None
  -- a message is held that isn't attested
  pub early_offer : at_node node 0 (body.Filled kind.Offer 0 0 first_message) ≡ None
  pub order : at_node node 2 (body.Filled kind.Order 0 0 (input 5)) ≡ None
  pub last_of_the_window : at_node node 0 (body.Attest 0 1 63 (just 5)) ≡ None
  pub ask : at_node node 0 (body.Ask 0 0) ≡ None
  pub wedge : at_node node olympus body.Wedge ≡ None
  -- a wedged node takes an Open
  pub opened : verdict (four 4) wedged_node (from_to olympus 1 1 (body.Open (replicate 4 (Some 0)))) ≡ None
  pub inherit : at_node heir olympus (body.Filled kind.Inherit 0 0 (input 5)) ≡ None

-- the Olympus while its epoch ends
abbrev pub ending : OlympusView
ending = record first_olympus { wedged = true }

-- what the Olympus says to a record of epoch 0 that host 0 tagged for it
abbrev pub at_olympus : OlympusView → Body → Option DropCause
at_olympus o said = olympus_verdict (four 4) o (from_to 0 olympus 0 said)

-- the lines of the table at the Olympus, in its order
pub record OlympusDrops : Type 0 where
  pub offer : at_olympus ending (body.Filled kind.Offer 0 0 (input 5)) ≡ Some drop.NotMine
  pub wedge : at_olympus ending body.Wedge ≡ Some drop.NotMine
  pub other_epoch : olympus_verdict (four 4) first_olympus (from_to 0 olympus 1 (body.Frozen 0 0)) ≡ Some drop.Epoch
  pub not_ending : at_olympus first_olympus (body.Frozen 0 0) ≡ Some drop.Wedged
  pub no_host : at_olympus ending (body.Frozen 4 0) ≡ Some drop.NotGuard
  pub decided_host : at_olympus (record ending { decided_now = λ h. h == 0 }) (body.Frozen 0 0) ≡ Some drop.NotGuard
  pub retired_host : at_olympus (record ending { retired = λ h. h == 0 }) (body.Frozen 0 0) ≡ Some drop.NotGuard
  pub below_the_base : at_olympus (record ending { base = λ h. 1 }) (body.Filled kind.Report 0 0 (input 5)) ≡ Some drop.Slot
  pub other_receiver : olympus_verdict (four 4) ending (from_to 0 1 0 (body.Frozen 0 0)) ≡ Some drop.NoTag
  pub taken : at_olympus ending (body.Filled kind.Report 0 0 (input 5)) ≡ None

-- A node of which one desk changes means the view of which that desk changes.
use Rattle.std.proofs.Common.{◌≡◌, ℕ, ◌<◌, ap, sym, ◌∙◌}
use Rattle.std.specs.Prelude.{slice_index_or}
use Rattle.std.specs.Vec.{with_item}
use Rattle.std.proofs.lemmas.Option.{slice_get_read}
use Rattle.nys_rules.specs.Noting.{at_desk}
use Rattle.nys_rules.specs.Scope.{Scope}
use Rattle.nys_rules.specs.View.{Desk, is_live, next_number, View}
use Rattle.nys_node.specs.Means.{Means}
use Rattle.nys_node.specs.declared.node.Node.{Node}
use Rattle.nys_sending.proofs.TableLemmas.{table_put}

-- the desk of h is changed as the view's is
pub means_desk : {P S : Type 0} (scope : Scope S) (node : Node P S) (h : ℕ) (old new : Desk) (change : Desk → Desk) → h < 32
    → old ≡ slice_index_or node.desks.items h old → new ≡ change old → (v : View) → Means scope node v
    → Means scope (record node { desks = with_item node.desks h new }) (at_desk h change v)
unfolding is_live next_number
means_desk scope node h old new change below at same v m = record {
  me = m.me;
  host = m.host;
  few = m.few;
  epoch = m.epoch;
  within = m.within;
  wedged = m.wedged;
  live = m.live;
  retired = m.retired;
  base = m.base;
  voted_to = m.voted_to;
  waiting = m.waiting;
  room = m.room;
  desks = table_put node.desks.items v.desks h new (change (v.desks h)) m.desks below (same ∙ ap change (m.desks.each h old (slice_get_read node.desks.items 32 h old (sym m.desks.size) below at)));
  slots = m.slots;
  rows = m.rows;
  replicas = m.replicas;
  kept = m.kept;
  banks = m.banks;
  links = m.links;
  tables = m.tables;
  heard = m.heard;
}

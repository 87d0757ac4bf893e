-- A node that voted, or attested the next number of a link.
use Rattle.std.proofs.Common.{◌≡◌, ℕ, ◌<◌, ◌==◌, Bool, true, false, cond, List, refl, ap, ◌∙◌}
use Rattle.std.specs.Prelude.{Option, slice_set}
use Rattle.nys_attest.specs.Ranges.{link_at}
use Rattle.nys_node.proofs.LinkLemmas.{means_links}
use Rattle.nys_sending.proofs.TableLemmas.{table_put}
use Rattle.nys_node.specs.Means.{AreLinks, Means}
use Rattle.nys_node.specs.declared.node.Node.{Node}
use Rattle.nys_rules.specs.Scope.{Scope}
use Rattle.nys_rules.specs.Taking.{one_more}
use Rattle.nys_rules.specs.View.{is_live, next_number, View}
use Rattle.nys_rules.specs.declared.kept.Attested.{Attested}
use Rattle.nys_source.specs.Tables.{put, put_at}

-- one past the slot of the last vote about a host is put
pub means_voted : {P S : Type 0} (scope : Scope S) (node : Node P S) (h n : ℕ) → h < 32 → (v : View) → Means scope node v
    → Means scope (record node { voted_to = slice_set node.voted_to h n }) (record v { voted_to = put v.voted_to h n })
unfolding is_live next_number
means_voted scope node h n below v m = record {
  me = m.me;
  host = m.host;
  few = m.few;
  epoch = m.epoch;
  within = m.within;
  wedged = m.wedged;
  live = m.live;
  retired = m.retired;
  base = m.base;
  voted_to = table_put node.voted_to v.voted_to h n n m.voted_to below refl;
  waiting = m.waiting;
  room = m.room;
  desks = m.desks;
  slots = m.slots;
  rows = m.rows;
  replicas = m.replicas;
  kept = m.kept;
  banks = m.banks;
  links = m.links;
  tables = m.tables;
  heard = m.heard;
}

-- the range of one link has one number more
pub means_attested : {P S : Type 0} (scope : Scope S) (node : Node P S) (links : List (List (Option Attested))) (p h : ℕ) (old new : Option Attested)
    → ((q g : ℕ) → link_at links q g ≡ put_at (link_at node.links) p h new q g) → old ≡ link_at node.links p h → new ≡ one_more old
    → p < 32 → h < 32 → (v : View) → Means scope node v
    → Means scope (record node { links = links }) (record v { attested = put_at v.attested p h (one_more (v.attested p h)) })
means_attested scope node links p h old new changed old_is new_is sender host v m =
    means_links scope node links v (put_at v.attested p h (one_more (v.attested p h))) same m
  where
    same : AreLinks links (put_at v.attested p h (one_more (v.attested p h)))
    same q g below under = changed q g ∙ of_sender (q == p) refl
      where
        of_host : (b : Bool) → (g == h) ≡ b → cond b new (link_at node.links p g) ≡ cond b (one_more (v.attested p h)) (v.attested p g)
        of_host true at = new_is ∙ ap one_more (old_is ∙ m.links p h sender host)
        of_host false at = m.links p g sender under

        of_sender : (a : Bool) → (q == p) ≡ a
            → cond a (put (link_at node.links p) h new) (link_at node.links q) g ≡ cond a (put (v.attested p) h (one_more (v.attested p h))) (v.attested q) g
        of_sender true at = of_host (g == h) refl
        of_sender false at = m.links q g below under

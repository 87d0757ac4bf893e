-- A node that keeps one slot more, and one whose epoch ends.
use Rattle.std.proofs.Common.{◌≡◌, ℕ, ◌<◌, ◌++◌, ◌∷◌, [], true, List, refl, ap, sym, ◌∙◌}
use Rattle.std.specs.Prelude.{slice_index_or}
use Rattle.std.specs.Vec.{with_item}
use Rattle.std.proofs.lemmas.Option.{slice_get_read}
use Rattle.nys_bytes.specs.declared.content.Content.{Content}
use Rattle.nys_rules.specs.Scope.{Scope}
use Rattle.nys_rules.specs.Taking.{kept_of, last_64, with_kept}
use Rattle.nys_rules.specs.View.{is_live, next_number, View}
use Rattle.nys_rules.specs.declared.kept.Kept.{Kept}
use Rattle.nys_node.specs.Hearing.{with_wedge}
use Rattle.nys_node.specs.Means.{Means}
use Rattle.nys_node.specs.declared.node.Node.{Node}
use Rattle.nys_sending.proofs.TableLemmas.{table_put}

-- one slot more is kept of h
pub means_kept : {P S : Type 0} (scope : Scope S) (node : Node P S) (h : ℕ) (content : Content) (old new : List Kept) (kept : Kept) → h < 32
    → old ≡ slice_index_or node.kept.items h old → new ≡ last_64 (old ++ kept ∷ []) → (v : View) → kept ≡ kept_of v h content
    → Means scope node v → Means scope (record node { kept = with_item node.kept h new }) (with_kept h content v)
unfolding is_live next_number
means_kept scope node h content old new kept below at same v is m = record {
  me = m.me;
  host = m.host;
  few = m.few;
  epoch = m.epoch;
  within = m.within;
  wedged = m.wedged;
  live = m.live;
  retired = m.retired;
  base = m.base;
  voted_to = m.voted_to;
  waiting = m.waiting;
  room = m.room;
  desks = m.desks;
  slots = table_put node.kept.items v.kept h new (last_64 (v.kept h ++ kept_of v h content ∷ [])) m.slots below
      (same ∙ ap (λ x. last_64 (old ++ x ∷ [])) is
      ∙ ap (λ slots. last_64 (slots ++ kept_of v h content ∷ [])) (m.slots.each h old (slice_get_read node.kept.items 32 h old (sym m.slots.size) below at)));
  rows = m.rows;
  replicas = m.replicas;
  kept = m.kept;
  banks = m.banks;
  links = m.links;
  tables = m.tables;
  heard = m.heard;
}

-- the epoch ends
pub means_wedge : {P S : Type 0} (scope : Scope S) (node : Node P S) (v : View) → Means scope node v → Means scope (record node { wedged = true }) (with_wedge v)
unfolding is_live next_number
means_wedge scope node v m = record {
  me = m.me;
  host = m.host;
  few = m.few;
  epoch = m.epoch;
  within = m.within;
  wedged = refl;
  live = m.live;
  retired = m.retired;
  base = m.base;
  voted_to = m.voted_to;
  waiting = m.waiting;
  room = m.room;
  desks = m.desks;
  slots = m.slots;
  rows = m.rows;
  replicas = m.replicas;
  kept = m.kept;
  banks = m.banks;
  links = m.links;
  tables = m.tables;
  heard = m.heard;
}

-- How much a node may still do by itself: each rule that it takes lowers this number.
use Rattle.std.specs.Prelude.{ℕ, zero, suc, ◌+◌, ◌-◌, ◌*◌, length, Option, Some, None, slice_index_or}
use Rattle.nys_stmt.specs.declared.limits.TheConstants.{MAX_NUMBER}
use Rattle.nys_hosts.specs.declared.limits.TheConstants.{MAX_HOSTS, MAX_SLOTS}
use Rattle.nys_attest.specs.Ranges.{link_at}
use Rattle.nys_node.specs.declared.node.Node.{Node}
use Rattle.nys_replica.specs.Stands.{entry_count}
use Rattle.nys_replica.specs.declared.replica.Replica.{Replica}
use Rattle.nys_rules.specs.View.{Desk, empty_desk, length_of, View}
use Rattle.nys_rules.specs.declared.kept.Attested.{Attested}

-- what a function gives for the numbers below n, added up
abbrev pub total : ℕ → (ℕ → ℕ) → ℕ
total zero f = 0
total (suc n) f = total n f + f n

-- 1 where there is nothing yet
abbrev pub none_yet : {A : Type 0} → Option A → ℕ
none_yet None = 1
none_yet (Some x) = 0

-- what a node may still say about an open slot: an Offer, an Order, a Deliver, and larger certificates
abbrev pub desk_weight : Desk → ℕ
desk_weight desk = none_yet desk.offered + none_yet desk.ordered + none_yet desk.delivered + (length desk.orders - desk.sent)

-- the same of all slots behind a log of n entries; 40 is more than may be said about one slot
abbrev pub seat_weight : ℕ → Desk → ℕ
seat_weight n desk = (MAX_SLOTS - n) * 40 + desk_weight desk

-- how many numbers of a link may still be attested
abbrev pub link_weight : Option Attested → ℕ
link_weight None = MAX_NUMBER + 1
link_weight (Some range) = MAX_NUMBER + 1 - range.next

-- all hosts, by the lengths of their logs and what is kept of their open slots
unfoldable pub seats_weight : (ℕ → ℕ) → (ℕ → Desk) → ℕ
seats_weight lengths desks = total MAX_HOSTS (λ h. seat_weight (lengths h) (desks h))

-- all links from a host
unfoldable pub links_from_weight : (ℕ → Option Attested) → ℕ
links_from_weight attested = total MAX_HOSTS (λ h. link_weight (attested h))

-- all links
unfoldable pub links_weight : (ℕ → ℕ → Option Attested) → ℕ
links_weight attested = total MAX_HOSTS (λ p. links_from_weight (attested p))

-- what the node of a view may still do
unfoldable pub weight : View → ℕ
weight v = seats_weight (length_of v) v.desks + links_weight v.attested

-- how many entries a replica has, where there is one
abbrev pub replica_length : {P S : Type 0} → Option (Replica P S) → ℕ
replica_length None = 0
replica_length (Some replica) = entry_count replica

-- what a node may still do
unfoldable pub node_weight : {P S : Type 0} → Node P S → ℕ
node_weight node =
    seats_weight (λ h. replica_length (slice_index_or node.replicas.items h None)) (λ h. slice_index_or node.desks.items h empty_desk)
    + links_weight (link_at node.links)

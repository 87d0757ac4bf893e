-- How much a node may still do by itself: each rule that it takes lowers this number, whatever the view.
use Rattle.std.specs.Prelude.{ℕ, zero, suc, ◌+◌, ◌-◌, ◌*◌, List, length, Option, Some, None}
use Rattle.nys_source.specs.declared.effect.TheConstants.{MAX_EFFECTS}
use Rattle.nys_hosts.specs.declared.limits.TheConstants.{MAX_HOSTS, MAX_SLOTS}
use Rattle.nys_agreement.specs.Alone.{alone}
use Rattle.nys_bytes.specs.declared.content.Content.{Content}
use Rattle.nys_rules.specs.declared.kept.Attested.{Attested}
use Rattle.nys_rules.specs.Scope.{Scope}
use Rattle.nys_rules.specs.View.{Desk, length_of, View}
use Rattle.nys_source.specs.Rules.{Rules}

-- what a function gives for the numbers below n, added up
abbrev pub total : ℕ → (ℕ → ℕ) → ℕ
total zero f = 0
total (suc n) f = total n f + f n

-- 1 where there is nothing yet
abbrev pub none_yet : {A : Type 0} → Option A → ℕ
none_yet None = 1
none_yet (Some x) = 0

-- what a node may still say about an open slot: an Offer, an Order, a Deliver, and larger certificates
abbrev pub desk_weight : Desk → ℕ
desk_weight desk =
    none_yet desk.offered + none_yet desk.ordered + none_yet desk.delivered + (length desk.orders - desk.sent)

-- the same of all slots behind a log of n entries; 40 is more than may be said about one slot
abbrev pub slots_weight : ℕ → Desk → ℕ
slots_weight n desk = (MAX_SLOTS - n) * 40 + desk_weight desk

-- the number of a link from which on nothing is attested yet
abbrev pub attested_to : Option Attested → ℕ
attested_to None = 0
attested_to (Some range) = range.next

-- how many numbers of a link may still be attested, where the sender's log has n entries and sent so many
-- messages: an entry sends at most 64
abbrev pub link_weight : (n sent : ℕ) → Option Attested → ℕ
link_weight n sent attested = (MAX_SLOTS - n) * MAX_EFFECTS + (sent - attested_to attested)

-- what may still be said about the slots of all hosts, by the lengths of their logs and their desks
unfoldable pub hosts_weight : (ℕ → ℕ) → (ℕ → Desk) → ℕ
hosts_weight lengths desks = total MAX_HOSTS (λ h. slots_weight (lengths h) (desks h))

-- what may still be attested on all links from a host, by the logs and by what is attested
unfoldable pub links_from_weight : {S : Type 0} → Rules S → (ℕ → List Content) → (ℕ → ℕ → Option Attested)
    → ℕ → ℕ
links_from_weight rules logs attested p =
    total MAX_HOSTS (λ h. link_weight (length (logs p)) (length ((alone rules p (logs p)).sent p h)) (attested p h))

-- what may still be attested on all links
unfoldable pub links_weight : {S : Type 0} → Rules S → (ℕ → List Content) → (ℕ → ℕ → Option Attested) → ℕ
links_weight rules logs attested = total MAX_HOSTS (links_from_weight rules logs attested)

-- what the node may still do
unfoldable pub weight : {S : Type 0} → Scope S → View → ℕ
weight scope v = hosts_weight (length_of v) v.desks + links_weight scope.rules v.logs v.attested

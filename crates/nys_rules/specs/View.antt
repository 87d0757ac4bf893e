-- What a node knows.
use Rattle.std.specs.Prelude.{ℕ, nat_lt, nat_le, Bool, true, false, ◌&&◌, ◌||◌, not, if◌then◌else◌, ℤ, List, [], length, max, Option, Some, None, is_none}
use Rattle.std.specs.Option.{option_or}
use Rattle.nys_hosts.specs.declared.limits.TheConstants.{MAX_SLOTS}
use Rattle.nys_bytes.specs.declared.content.Content.{Content}
use Rattle.nys_agreement.specs.Alone.{alone}
use Rattle.nys_source.specs.Source.{Source}
use Rattle.nys_votes.specs.Seats.{no_seats}
use Rattle.nys_votes.specs.declared.vote.Vote.{Vote}
use Rattle.nys_rules.specs.declared.kept.Attested.{Attested}
use Rattle.nys_rules.specs.declared.kept.Kept.{Kept}
use Rattle.nys_rules.specs.Scope.{Scope}

-- what a node keeps about the open slot of a host, which is the slot behind the host's log; all of it
-- is emptied when the log grows and when an epoch begins
pub record Desk : Type 0 where
  -- the content of its own Offer for the slot; the host alone makes one
  pub offered : Option Content
  -- the offer that it holds: the last that it accepted from the host, or its own
  pub held : Option Content
  -- the content of its own Order
  pub ordered : Option Content
  -- the orders of its own offer that it collected, by maker, each with its tags
  pub orders : List (Option (List (ℕ × List ℕ)))
  -- how many makers the certificate that it sent last had; 0 where it sent none
  pub sent : ℕ
  -- the content of the first certificate that it counted
  pub certified : Option Content
  -- the content of its own Deliver
  pub delivered : Option Content
  -- the first Deliver of each maker, with its tags; its own is among them
  pub votes : List (Option Vote)

-- nothing is known about the slot
abbrev pub empty_desk : Desk
empty_desk = record {
  offered = None;
  held = None;
  ordered = None;
  orders = no_seats;
  sent = 0;
  certified = None;
  delivered = None;
  votes = no_seats;
}

-- what the node of a host knows; functions are of hosts, and of links by sender and receiver. It has no list
-- of what it said: the Offer, Order and Deliver of the open slot stand on the desk, the numbers in `attested`
pub record View : Type 0 where
  -- its host
  pub me : ℕ
  -- the epoch that it is in
  pub epoch : ℕ
  -- whether it accepted that the epoch ends
  pub wedged : Bool
  -- the length at which the epoch begins each host's log
  pub base : ℕ → ℕ
  -- the hosts that were given up by then
  pub retired : ℕ → Bool
  -- the hosts that it guards, or guarded in an earlier epoch: it has a replica of each
  pub known : ℕ → Bool
  -- its inputs that wait for a slot, the oldest first
  pub waiting : List (List ℤ)
  -- the log of each host
  pub logs : ℕ → List Content
  -- the slot from which on it keeps the entries of each host's log
  pub kept_from : ℕ → ℕ
  -- what it keeps about each host's open slot
  pub desks : ℕ → Desk
  -- one past the greatest slot in which it made a Deliver in this epoch, or the base
  pub voted_to : ℕ → ℕ
  -- the Deliver votes of the last 64 slots that it logged by votes in this epoch, the oldest first
  pub kept : ℕ → List Kept
  -- what it attested of each link in this epoch, once both logs reached their bases
  pub attested : ℕ → ℕ → Option Attested
  -- the payloads that others attest for a number of a link, by maker
  pub heard : ℕ → ℕ → ℕ → List (Option (List ℤ))
  -- by host, then by the sender of a link to it: the length that the host's log had when the link's
  -- head first was its head
  pub heads : ℕ → List (Option ℕ)

-- the node guards the host in its epoch, and the host isn't retired
unfoldable pub is_live : {S : Type 0} → Scope S → View → ℕ → Bool
is_live scope v h = nat_lt h scope.rules.hosts && (scope.guards v.epoch h v.me && not (v.retired h))

-- how many entries the log of the host has: the number of its open slot
abbrev pub length_of : View → ℕ → ℕ
length_of v h = length (v.logs h)

-- the log of the host has reached the base of the epoch
abbrev pub has_reached : View → ℕ → Bool
has_reached v h = nat_le (v.base h) (length_of v h)

-- the slot behind the log of the host is open
unfoldable pub is_open : {S : Type 0} → Scope S → View → ℕ → Bool
is_open scope v h = is_live scope v h && (not v.wedged && (has_reached v h && nat_lt (length_of v h) MAX_SLOTS))

-- what the log of the host gives: its state, its outputs, what it sent, what it received
abbrev pub replica_of : {S : Type 0} → Scope S → View → ℕ → Source S
replica_of scope v h = alone scope.rules h (v.logs h)

-- the number of the message of p that comes next in the log of h
unfoldable pub next_number : {S : Type 0} → Scope S → View → (p h : ℕ) → ℕ
next_number scope v p h = (replica_of scope v h).received p h

-- what p has sent to h by p's log
unfoldable pub sent_to : {S : Type 0} → Scope S → View → (p h : ℕ) → List (List ℤ)
sent_to scope v p h = (replica_of scope v p).sent p h

-- the node guards two neighbours, both logs have reached their bases, so it attests the link
unfoldable pub is_attesting : {S : Type 0} → Scope S → View → (p h : ℕ) → Bool
is_attesting scope v p h =
    (scope.rules.linked p h && (is_live scope v p && is_live scope v h)) && (has_reached v p && has_reached v h)

-- a link that it attests from now on begins with the number that comes next in the log of h
abbrev pub attested_from : {S : Type 0} → Scope S → View → (p h : ℕ) → Option Attested
attested_from scope v p h =
    if is_attesting scope v p h
    then Some (record { first = next_number scope v p h; next = next_number scope v p h })
    else None

-- the view in which each link that may begin to be attested does; a link that has begun goes on
unfoldable pub with_links : {S : Type 0} → Scope S → View → View
with_links scope v = record v { attested = λ p h. option_or (v.attested p h) (attested_from scope v p h) }

-- the slot from which on a node keeps the entries of a log of that length, which it kept from `from` on: where the
-- host is live and its log has reached the base, no entry below the base; where the log hasn't reached it, as many as
-- before; and of a host that isn't live none
abbrev pub kept_at : (live : Bool) → (base from long : ℕ) → ℕ
kept_at true base from long = if nat_le base long then max base from else from
kept_at false base from long = long

-- the view in which an epoch begins: what earlier epochs left is its logs, without what it forgets, and its waiting
-- inputs
unfoldable pub entering : {S : Type 0} → Scope S → (epoch : ℕ) → (base : ℕ → ℕ) → (retired : ℕ → Bool) → View → View
entering scope epoch base retired v = with_links scope (record {
  me = v.me;
  epoch = epoch;
  wedged = false;
  base = base;
  retired = retired;
  known = λ h. v.known h || (nat_lt h scope.rules.hosts && scope.guards epoch h v.me);
  waiting = v.waiting;
  logs = v.logs;
  kept_from = λ h.
      kept_at (nat_lt h scope.rules.hosts && (scope.guards epoch h v.me && not (retired h))) (base h) (v.kept_from h)
      (length (v.logs h));
  desks = λ _. empty_desk;
  voted_to = base;
  kept = λ _. [];
  attested = λ _ _. None;
  heard = λ _ _ _. no_seats;
  heads = λ _. no_seats;
})

-- a node before its first epoch: it knows no host
abbrev pub newborn : ℕ → View
newborn me = record {
  me = me;
  epoch = 0;
  wedged = false;
  base = λ _. 0;
  retired = λ _. false;
  known = λ _. false;
  waiting = [];
  logs = λ _. [];
  kept_from = λ _. 0;
  desks = λ _. empty_desk;
  voted_to = λ _. 0;
  kept = λ _. [];
  attested = λ _ _. None;
  heard = λ _ _ _. no_seats;
  heads = λ _. no_seats;
}

-- the first view of the node of a host: epoch 0, in which each log begins at 0 and no host is retired
unfoldable pub first_view : {S : Type 0} → Scope S → ℕ → View
first_view scope me = entering scope 0 (λ _. 0) (λ _. false) (newborn me)

-- Attested messages, and the heads of links: the next message of each that the node knows to be true.
use Rattle.std.specs.Prelude.{ℕ, ◌+◌, ◌==◌, nat_le, nat_lt, Bool, true, false, ◌&&◌, if◌then◌else◌, ℤ, List, map, length, slice_get, Option, Some, None, is_some, option_map, option_and_then}
use Rattle.std.specs.List.{range_with_len, position}
use Rattle.std.specs.Option.{option_or}
use Rattle.nys_hosts.specs.declared.limits.TheConstants.{MAX_HOSTS}
use Rattle.nys_bytes.specs.declared.content.Content.{Content}
use Rattle.nys_bytes.specs.declared.content.Content.TheVariants.{External, Message}
use Rattle.nys_source.specs.Tables.{put}
use Rattle.nys_votes.specs.Attested.{attested}
use Rattle.nys_votes.specs.Contents.{same_payload}
use Rattle.nys_votes.specs.Credit.{allows, lowest_overdue}
use Rattle.nys_votes.specs.Seats.{seat_of, with_seat}
use Rattle.nys_rules.specs.Scope.{Scope}
use Rattle.nys_rules.specs.declared.kept.Attested.{Attested}
use Rattle.nys_rules.specs.View.{length_of, next_number, sent_to, View}

-- the payload of number k among those that were sent, where the node attested that number
abbrev pub payload_in : ℕ → List (List ℤ) → Option Attested → Option (List ℤ)
payload_in k sent None = None
payload_in k sent (Some range) = if nat_le range.first k && nat_lt k range.next then slice_get sent k else None

-- the payload that the node attests itself for number k of p to h
unfoldable pub own_attest : {S : Type 0} → Scope S → View → (p h k : ℕ) → Option (List ℤ)
own_attest scope v p h k = payload_in k (sent_to scope v p h) (v.attested p h)

-- the payloads attested for a number, by maker, with the node's own
abbrev pub with_own : ℕ → Option (List ℤ) → List (Option (List ℤ)) → List (Option (List ℤ))
with_own me None heard = heard
with_own me (Some payload) heard = with_seat me payload heard

-- the payload that t + 1 guards of both hosts attest for number k of p to h, t being the sender's; of
-- several the one that the lowest of their makers gave
unfoldable pub attested_payload : {S : Type 0} → Scope S → View → (p h k : ℕ) → Option (List ℤ)
attested_payload scope v p h k =
    attested (scope.t v.epoch p) (with_own v.me (own_attest scope v p h k) (v.heard p h k))

-- the head of the link from p to h: its attested payload with the number that comes next
unfoldable pub head : {S : Type 0} → Scope S → View → (p h : ℕ) → Option (List ℤ)
head scope v p h =
    if scope.rules.linked p h then attested_payload scope v p h (next_number scope v p h) else None

-- the head of a link as a content
abbrev pub head_content : {S : Type 0} → Scope S → View → (h p : ℕ) → Option Content
head_content scope v h p = option_map (λ payload. Message p (next_number scope v p h) payload) (head scope v p h)

-- the length at which the head of a link is recorded: the one that is recorded, else the length of the
-- log where the link has a head now
abbrev pub recorded : {S : Type 0} → Scope S → View → (h p : ℕ) → Option ℕ
recorded scope v h p =
    option_or (seat_of (v.heads h) p) (if is_some (head scope v p h) then Some (length_of v h) else None)

-- the view in which each head of a link into h is recorded
unfoldable pub with_heads : {S : Type 0} → Scope S → ℕ → View → View
with_heads scope h v = record v { heads = put v.heads h (map (recorded scope v h) (range_with_len 0 MAX_HOSTS)) }

-- the payload is the one that is there
abbrev pub is_same : Option (List ℤ) → List ℤ → Bool
is_same None payload = false
is_same (Some other) payload = same_payload other payload

-- the content is the next message of its link, and attested; an input needs neither
abbrev pub is_attested_next : {S : Type 0} → Scope S → View → ℕ → Content → Bool
is_attested_next scope v h (External payload) = true
is_attested_next scope v h (Message p k payload) =
    scope.rules.linked p h
    && (k == next_number scope v p h && is_same (attested_payload scope v p h k) payload)

-- the credit rule allows the content in the open slot of h: no link's head is overdue, or it is a
-- message of a link whose head is
unfoldable pub is_allowed : {S : Type 0} → Scope S → View → ℕ → Content → Bool
is_allowed scope v h content = allows (scope.credit v.epoch) (length_of v h) (v.heads h) content

-- the head of the lowest overdue link into h
abbrev pub overdue_head : {S : Type 0} → Scope S → View → ℕ → Option Content
overdue_head scope v h =
    option_and_then (head_content scope v h) (lowest_overdue (scope.credit v.epoch) (length_of v h) (v.heads h))

-- the head of the lowest link into h that has one
abbrev pub lowest_head : {S : Type 0} → Scope S → View → ℕ → Option Content
lowest_head scope v h = option_and_then (head_content scope v h) (position is_some (v.heads h))

-- the oldest waiting input
abbrev pub oldest_input : View → Option Content
oldest_input v = option_map External (slice_get v.waiting 0)

-- what a host offers next: the head of the lowest overdue link, else its oldest waiting input, else the
-- head of the lowest link that has one. A head that is recorded is attested in each view that a node
-- comes to; in another the recorded link without a payload is passed over
unfoldable pub candidate : {S : Type 0} → Scope S → View → ℕ → Option Content
candidate scope v h = option_or (overdue_head scope v h) (option_or (oldest_input v) (lowest_head scope v h))

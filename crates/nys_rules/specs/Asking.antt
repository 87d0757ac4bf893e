-- Questions: what a node asks the guards of the hosts that it guards, and what it answers to a question.
use Rattle.std.specs.Prelude.{ℕ, ◌+◌, ◌-◌, ◌==◌, nat_le, nat_lt, Bool, ◌&&◌, if◌then◌else◌, ℤ, List, [], ◌∷◌, ◌++◌, filter, filter_map, flat_map, length, map, Option, Some, None, option_map}
use Rattle.std.specs.List.{range_with_len}
use Rattle.std.specs.Option.{option_to_list}
use Rattle.nys_rules.specs.declared.limits.TheConstants.{WINDOW}
use Rattle.nys_hosts.specs.declared.limits.TheConstants.{MAX_HOSTS, MAX_SLOTS}
use Rattle.nys_bytes.specs.declared.content.Content.{Content}
use Rattle.nys_stmt.specs.declared.records.Record.{Record}
use Rattle.nys_stmt.specs.declared.statement.Body.TheVariants as body
use Rattle.nys_stmt.specs.declared.statement.FilledKind.TheVariants as kind
use Rattle.nys_stmt.specs.declared.tags.Tags.{Tags}
use Rattle.nys_rules.specs.Heads.{own_attest}
use Rattle.nys_rules.specs.Packets.{Acts, all_joined, nothing, Sent}
use Rattle.nys_rules.specs.Rules.{only_if}
use Rattle.nys_rules.specs.Scope.{Scope}
use Rattle.nys_rules.specs.Sending.{guards_at, own_record, packet, record_of, said_in, to_guards}
use Rattle.nys_rules.specs.Taking.{certificate}
use Rattle.nys_rules.specs.declared.kept.Kept.{Kept}
use Rattle.nys_rules.specs.View.{is_live, length_of, next_number, View}

-- all hosts that there may be, rising
abbrev pub all_hosts : List ℕ
all_hosts = range_with_len 0 MAX_HOSTS

-- the hosts that a node asks about: those live at it whose logs have room, rising
abbrev pub asked_hosts : {S : Type 0} → Scope S → View → List ℕ
asked_hosts scope v = filter (λ h. is_live scope v h && nat_lt (length_of v h) MAX_SLOTS) all_hosts

-- its questions: for each of these hosts an Ask for the slot behind its log, to the host's guards; a
-- wedged node asks nothing
unfoldable pub questions : {S : Type 0} → Scope S → View → Acts
questions scope v =
    if v.wedged then nothing
    else all_joined (map (λ h. to_guards scope v h (body.Ask h (length_of v h))) (asked_hosts scope v))

-- the record of the Deliver votes with which the slot was logged, where they are kept
abbrev pub kept_records : View → (h slot : ℕ) → List Record
kept_records v h slot = map
    (λ x. record { statement = said_in v.epoch (body.Filled kind.Deliver h slot x.content); makers = x.makers })
    (filter (λ k. k.slot == slot) (v.kept h))

-- the record of the node's Offer in its own open slot, if it made one
abbrev pub offer_record : {S : Type 0} → Scope S → View → ℕ → Option Record
offer_record scope v h =
    option_map (λ c. record_of scope v h (body.Filled kind.Offer h (length_of v h) c)) (v.desks h).offered

-- its last certificate there, if it sent one: all makers that it collected, since a node that has
-- settled has sent them all; no node comes to a view in which some are collected and not sent
abbrev pub certificate_record : View → ℕ → Option Record
certificate_record v h = only_if (nat_lt 0 (v.desks h).sent) (option_map (certificate v h) (v.desks h).offered)

-- the record of its Order in the open slot of h, if it made one
abbrev pub order_record : {S : Type 0} → Scope S → View → ℕ → Option Record
order_record scope v h =
    option_map (λ c. record_of scope v h (body.Filled kind.Order h (length_of v h) c)) (v.desks h).ordered

-- the record of its Deliver there, if it made one
abbrev pub deliver_record : {S : Type 0} → Scope S → View → ℕ → Option Record
deliver_record scope v h =
    option_map (λ c. record_of scope v h (body.Filled kind.Deliver h (length_of v h) c)) (v.desks h).delivered

-- what it has for the open slot of h: where it is h, its Offer, then its last certificate; where the
-- asker is h, its Order; and its Deliver
abbrev pub open_records : {S : Type 0} → Scope S → View → (h asker : ℕ) → List Record
open_records scope v h asker =
    option_to_list (only_if (v.me == h) (offer_record scope v h))
    ++ (option_to_list (only_if (v.me == h) (certificate_record v h))
    ++ (option_to_list (only_if (asker == h) (order_record scope v h))
    ++ option_to_list (deliver_record scope v h)))

-- what it has for a slot of h
unfoldable pub slot_records : {S : Type 0} → Scope S → View → (h slot asker : ℕ) → List Record
slot_records scope v h slot asker =
    if slot == length_of v h then open_records scope v h asker else kept_records v h slot

-- the record of its attestation of number k of p to h, if it made one
abbrev pub attest_record : {S : Type 0} → Scope S → View → (p h k : ℕ) → Option Record
attest_record scope v p h k =
    option_map (λ payload. record_of scope v h (body.Attest p h k payload)) (own_attest scope v p h k)

-- its attestations of the numbers of a link that are in the window, rising
abbrev pub window_records : {S : Type 0} → Scope S → View → (h p : ℕ) → List Record
window_records scope v h p = filter_map (attest_record scope v p h) (range_with_len (next_number scope v p h) WINDOW)

-- its attestations on each link into h, neighbours rising
unfoldable pub attest_records : {S : Type 0} → Scope S → View → ℕ → List Record
attest_records scope v h =
    flat_map (window_records scope v h) (filter (λ p. scope.rules.linked p h) all_hosts)

-- what it answers one asker about a slot of h: what it has for the slot, then its attestations
unfoldable pub answers_to : {S : Type 0} → Scope S → View → (h slot asker : ℕ) → List Sent
answers_to scope v h slot asker =
    map (packet v.me asker) (slot_records scope v h slot asker ++ attest_records scope v h)

-- what it answers the makers of an Ask, rising; an answer makes no new statement
unfoldable pub answering : {S : Type 0} → Scope S → View → (h slot : ℕ) → List Tags → Acts
answering scope v h slot makers =
    record nothing { packets = flat_map (λ m. answers_to scope v h slot m.maker) makers }

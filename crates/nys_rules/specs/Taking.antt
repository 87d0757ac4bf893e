-- What taking a rule makes of the view, and what the node does by it.
use Rattle.std.specs.Prelude.{ℕ, ◌+◌, ◌-◌, ◌==◌, Bool, ◌&&◌, if◌then◌else◌, ℤ, List, [], ◌∷◌, ◌++◌, drop, length, Option, Some, None, option_map}
use Rattle.nys_rules.specs.declared.limits.TheConstants.{MAX_KEPT}
use Rattle.nys_bytes.specs.declared.content.Content.{Content}
use Rattle.nys_source.specs.Tables.{put, put_at}
use Rattle.nys_stmt.specs.declared.records.Record.{Record}
use Rattle.nys_stmt.specs.declared.statement.Body.{Body}
use Rattle.nys_stmt.specs.declared.statement.Body.TheVariants as body
use Rattle.nys_stmt.specs.declared.statement.FilledKind.TheVariants as kind
use Rattle.nys_stmt.specs.declared.statement.Statement.{Statement}
use Rattle.nys_votes.specs.Delivered.{voters}
use Rattle.nys_votes.specs.Ordered.{record_from}
use Rattle.nys_votes.specs.Seats.{count_all, with_seat}
use Rattle.nys_rules.specs.declared.rule.Rule.{Rule}
use Rattle.nys_rules.specs.declared.rule.Rule.TheVariants.{Offer, Order, Certificate, Deliver, Log, Attest}
use Rattle.nys_rules.specs.Heads.{with_heads}
use Rattle.nys_rules.specs.Logging.{logged}
use Rattle.nys_rules.specs.Noting.{at_desk, is_content}
use Rattle.nys_rules.specs.Packets.{Acts, nothing}
use Rattle.nys_rules.specs.Scope.{Scope}
use Rattle.nys_rules.specs.Sending.{guards_at, made_for, others, said_in, tags_for, to_each, to_guards}
use Rattle.nys_rules.specs.declared.kept.Attested.{Attested}
use Rattle.nys_rules.specs.declared.kept.Kept.{Kept}
use Rattle.nys_rules.specs.View.{Desk, length_of, View}

-- the node offers a content, and holds that offer
unfoldable pub with_offer : Content → Desk → Desk
with_offer content desk = record desk { offered = Some content; held = Some content }

-- the node orders a content; at the host itself the Order counts where it is of its own offer
unfoldable pub with_order : (at_host : Bool) → (me : ℕ) → Content → List (ℕ × List ℕ) → Desk → Desk
with_order at_host me content tags desk = record desk {
  ordered = Some content;
  orders = (if at_host && is_content desk.offered content then with_seat me tags desk.orders else desk.orders);
}

-- the certificate that is sent has all makers that are collected
unfoldable pub with_sent : Desk → Desk
with_sent desk = record desk { sent = count_all desk.orders }

-- the node votes to deliver a content, and its vote counts
unfoldable pub with_deliver : (me : ℕ) → Content → List (ℕ × List ℕ) → Desk → Desk
with_deliver me content tags desk = record desk {
  delivered = Some content;
  votes = with_seat me (record { content = content; tags = tags }) desk.votes;
}

-- the last 64 of a list
abbrev pub last_64 : {A : Type 0} → List A → List A
last_64 items = drop (length items - MAX_KEPT) items

-- the Deliver votes with which the open slot is logged
abbrev pub kept_of : View → ℕ → Content → Kept
kept_of v h content =
    record { slot = length_of v h; content = content; makers = voters content (v.desks h).votes }

-- the view in which they are kept
abbrev pub with_kept : ℕ → Content → View → View
with_kept h content v = record v { kept = put v.kept h (last_64 (v.kept h ++ kept_of v h content ∷ [])) }

-- a link's attested numbers with one more
abbrev pub one_more : Option Attested → Option Attested
one_more None = None
one_more (Some range) = Some (record range { next = range.next + 1 })

-- the node's tags for the guards of h on its statement
abbrev pub own_tags : {S : Type 0} → Scope S → View → ℕ → Body → List (ℕ × List ℕ)
own_tags scope v h said = tags_for scope v.me (said_in v.epoch said) (guards_at scope v h)

-- the view after a rule was taken
abbrev pub taken : {S : Type 0} → Scope S → View → Rule → View
taken scope v (Offer h content) = at_desk h (with_offer content) v
taken scope v (Order h content) =
    at_desk h
    (with_order (v.me == h) v.me content (own_tags scope v h (body.Filled kind.Order h (length_of v h) content))) v
taken scope v (Certificate h content) = at_desk h with_sent v
taken scope v (Deliver h content) =
    at_desk h
    (with_deliver v.me content (own_tags scope v h (body.Filled kind.Deliver h (length_of v h) content)))
    (record v { voted_to = put v.voted_to h (length_of v h + 1) })
taken scope v (Log h content) = logged scope h content (with_kept h content v)
taken scope v (Attest p h k payload) =
    with_heads scope h (record v { attested = put_at v.attested p h (one_more (v.attested p h)) })

-- the orders that the host collected for its offer, in one record
unfoldable pub certificate : View → ℕ → Content → Record
certificate v h content =
    record_from (said_in v.epoch (body.Filled kind.Order h (length_of v h) content)) (v.desks h).orders

-- the certificate goes to each other guard of the host, and is no new statement
unfoldable pub certifying : {S : Type 0} → Scope S → View → ℕ → Content → Acts
certifying scope v h content = record {
  made = [];
  packets = to_each v.me (certificate v h content) (others v.me (guards_at scope v h));
  grew = [];
}

-- the Order of a content has tags for all guards of the host, and goes to the host alone
unfoldable pub ordering : {S : Type 0} → Scope S → View → ℕ → Content → Acts
ordering scope v h content =
    made_for scope v.me (said_in v.epoch (body.Filled kind.Order h (length_of v h) content)) (guards_at scope v h)
    (h ∷ [])

-- what the node does by a rule
abbrev pub acts_of : {S : Type 0} → Scope S → View → Rule → Acts
acts_of scope v (Offer h content) = to_guards scope v h (body.Filled kind.Offer h (length_of v h) content)
acts_of scope v (Order h content) = ordering scope v h content
acts_of scope v (Certificate h content) = certifying scope v h content
acts_of scope v (Deliver h content) = to_guards scope v h (body.Filled kind.Deliver h (length_of v h) content)
acts_of scope v (Log h content) = record nothing { grew = (h, length_of v h) ∷ [] }
acts_of scope v (Attest p h k payload) = to_guards scope v h (body.Attest p h k payload)

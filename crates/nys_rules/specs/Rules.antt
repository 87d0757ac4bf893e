-- The rules of a node: when each is enabled, with what, and which comes first.
use Rattle.std.specs.Prelude.{◌≡◌, ◌≢◌, ℕ, zero, suc, ◌+◌, ◌-◌, ◌<◌, ◌==◌, nat_le, nat_lt, Bool, ◌&&◌, not, if◌then◌else◌, ℤ, List, [], ◌∷◌, find, length, slice_get, Option, Some, None, is_none, is_some, option_map}
use Rattle.std.specs.List.{range_with_len}
use Rattle.std.specs.Option.{option_or}
use Rattle.nys_hosts.specs.declared.limits.TheConstants.{MAX_HOSTS}
use Rattle.nys_bytes.specs.declared.content.Content.{Content}
use Rattle.nys_votes.specs.Delivered.{backed, delivered}
use Rattle.nys_votes.specs.Ordered.{is_ordered}
use Rattle.nys_votes.specs.Seats.{count_all}
use Rattle.nys_rules.specs.declared.rule.Rule.{Rule}
use Rattle.nys_rules.specs.declared.rule.Rule.TheVariants.{Offer, Order, Certificate, Deliver, Log, Attest}
use Rattle.nys_rules.specs.Heads.{candidate, is_allowed, is_attested_next}
use Rattle.nys_rules.specs.Logging.{fits}
use Rattle.nys_rules.specs.Scope.{quorum_at, Scope}
use Rattle.nys_rules.specs.declared.kept.Attested.{Attested}
use Rattle.nys_rules.specs.View.{Desk, is_attesting, is_live, is_open, sent_to, View}

-- the value, where the test passes
abbrev pub only_if : {A : Type 0} → Bool → Option A → Option A
only_if passed value = if passed then value else None

-- the content, where there is one and it passes the test
abbrev pub passing_only : (Content → Bool) → Option Content → Option Content
passing_only test None = None
passing_only test (Some content) = if test content then Some content else None

-- the offer rule: the node is the host's, the slot is open, it made no Offer for it, and there is a
-- candidate
unfoldable pub to_offer : {S : Type 0} → Scope S → View → ℕ → Option Content
to_offer scope v h =
    only_if (v.me == h && (is_open scope v h && is_none (v.desks h).offered)) (candidate scope v h)

-- the order rule: the slot is open, the node made no Order for it, it holds an offer, the content is an
-- input or attested and next, and the credit rule allows it
unfoldable pub to_order : {S : Type 0} → Scope S → View → ℕ → Option Content
to_order scope v h =
    only_if (is_open scope v h && is_none (v.desks h).ordered)
    (passing_only (λ c. is_attested_next scope v h c && is_allowed scope v h c) (v.desks h).held)

-- the makers that are collected are a quorum
abbrev pub is_certified : {S : Type 0} → Scope S → View → ℕ → Bool
is_certified scope v h = is_ordered (quorum_at scope v.epoch h) (count_all (v.desks h).orders)

-- the certificate rule: the node is the host's and isn't wedged, and the makers that it collected are a
-- quorum and more than it sent last; a wedged node has none left to send, since it settled before it was
-- wedged and takes no order from then on
unfoldable pub to_certify : {S : Type 0} → Scope S → View → ℕ → Option Content
to_certify scope v h =
    only_if ((v.me == h && (is_live scope v h && not v.wedged))
    && (is_certified scope v h && nat_lt (v.desks h).sent (count_all (v.desks h).orders)))
    (v.desks h).offered

-- the content that is ordered: at the host by what it collected, elsewhere by a counted certificate
unfoldable pub ordered_content : {S : Type 0} → Scope S → View → ℕ → Option Content
ordered_content scope v h =
    if v.me == h then only_if (is_certified scope v h) (v.desks h).offered else (v.desks h).certified

-- the deliver rule: the slot is open, the node made no Deliver for it, and a content is ordered or more
-- makers voted to deliver it than may lie
unfoldable pub to_deliver : {S : Type 0} → Scope S → View → ℕ → Option Content
to_deliver scope v h =
    only_if (is_open scope v h && is_none (v.desks h).delivered)
    (option_or (ordered_content scope v h) (backed (scope.t v.epoch h) (v.desks h).votes))

-- the log rule: the slot is open, a quorum voted to deliver a content, and it fits
unfoldable pub to_log : {S : Type 0} → Scope S → View → ℕ → Option Content
to_log scope v h =
    only_if (is_open scope v h)
    (passing_only (fits scope v h) (delivered (quorum_at scope v.epoch h) (v.desks h).votes))

-- a number with the payload that was sent under it
abbrev pub numbered : List (List ℤ) → ℕ → Option (ℕ × List ℤ)
numbered sent k = option_map (λ payload. (k, payload)) (slice_get sent k)

-- the next number of a link that isn't attested yet, with its payload, where it was sent
abbrev pub unattested : List (List ℤ) → Option Attested → Option (ℕ × List ℤ)
unattested sent None = None
unattested sent (Some range) = numbered sent range.next

-- the attest rule: the node isn't wedged and guards two neighbours whose logs have reached their bases, and
-- its log of the sender has sent the next number that it hasn't attested; a wedged node has none left to
-- attest, since it settled before it was wedged and its logs stay
unfoldable pub to_attest : {S : Type 0} → Scope S → View → (p h : ℕ) → Option (ℕ × List ℤ)
to_attest scope v p h =
    only_if (not v.wedged && is_attesting scope v p h) (unattested (sent_to scope v p h) (v.attested p h))

-- what the attest rule does about h and the sender p
abbrev pub attest_rule : {S : Type 0} → Scope S → View → (h p : ℕ) → Option Rule
attest_rule scope v h p = option_map (λ x. Attest p h x.0 x.1) (to_attest scope v p h)

-- the first of the links into h that the attest rule has something to do for, the sender being `p` or one
-- of the n - 1 behind it
abbrev pub attest_from : {S : Type 0} → (n : ℕ) → Scope S → View → (h p : ℕ) → Option Rule
attest_from zero scope v h p = None
attest_from (suc n) scope v h p = option_or (attest_rule scope v h p) (attest_from n scope v h (p + 1))

-- the first rule that is enabled for h, in the order of these lines, links by rising senders
unfoldable pub due_at : {S : Type 0} → Scope S → View → ℕ → Option Rule
due_at scope v h =
    option_or (option_map (Offer h) (to_offer scope v h))
    (option_or (option_map (Order h) (to_order scope v h))
    (option_or (option_map (Certificate h) (to_certify scope v h))
    (option_or (option_map (Deliver h) (to_deliver scope v h))
    (option_or (option_map (Log h) (to_log scope v h))
    (attest_from MAX_HOSTS scope v h 0)))))

-- the first rule that is enabled for host h or one of the n - 1 hosts behind it
abbrev pub due_from : {S : Type 0} → (n : ℕ) → Scope S → View → ℕ → Option Rule
due_from zero scope v h = None
due_from (suc n) scope v h = option_or (due_at scope v h) (due_from n scope v (h + 1))

-- the rule that a node takes next: hosts rising, for each the rules in their order
unfoldable pub due : {S : Type 0} → Scope S → View → Option Rule
due scope v = due_from MAX_HOSTS scope v 0

-- a rule is enabled: its condition holds, with this content or payload
abbrev pub Enabled : {S : Type 0} → Scope S → View → Rule → Type 0
Enabled scope v (Offer h content) = to_offer scope v h ≡ Some content
Enabled scope v (Order h content) = to_order scope v h ≡ Some content
Enabled scope v (Certificate h content) = to_certify scope v h ≡ Some content
Enabled scope v (Deliver h content) = to_deliver scope v h ≡ Some content
Enabled scope v (Log h content) = to_log scope v h ≡ Some content
Enabled scope v (Attest p h k payload) = to_attest scope v p h ≡ Some (k, payload)

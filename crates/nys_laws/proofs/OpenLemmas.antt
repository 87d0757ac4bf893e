-- What each rule that is enabled, and each record that isn't dropped, tells of the view.
use Rattle.std.proofs.Common.{◌≡◌, ℕ, ◌<◌, ◌==◌, ◌&&◌, false, ℤ, List, Some, None, refl, ap, sym, ◌∙◌, leb-false}
use Rattle.std.specs.Prelude.{Option, is_none, nat_lt, not, slice_get}
use Rattle.std.proofs.lemmas.Bool.Decides.{Decides-eqb, Decides-ltb}
use Rattle.nys_bytes.specs.declared.content.Content.{Content}
use Rattle.nys_agreement.specs.Alone.{Fits}
use Rattle.nys_votes.specs.Delivered.{delivered}
use Rattle.nys_rules.specs.declared.kept.Attested.{Attested}
use Rattle.nys_rules.specs.Dropping.{attest_drop, if_current, inherit_drop, vote_drop}
use Rattle.nys_rules.specs.Logging.{fits}
use Rattle.nys_rules.specs.Rules.{passing_only, to_attest, to_deliver, to_log, to_offer, to_order, unattested}
use Rattle.nys_rules.specs.Scope.{quorum_at, Scope}
use Rattle.nys_rules.specs.View.{has_reached, is_attesting, is_live, is_open, length_of, sent_to, View}
use Rattle.nys_rules.proofs.CertificateLemmas.{both_true, only_if_some, passing_some}
use Rattle.nys_rules.proofs.SearchLemmas.{map_some}
use Rattle.nys_laws.specs.Grounds.{IsLiveAt, IsOpenAt}
use Rattle.nys_laws.specs.Vouched.{GuardsLink}
use Rattle.nys_laws.proofs.HeardLemmas.{current_is, passed_on}
use Rattle.nys_laws.proofs.LiveLemmas.{attesting_is, live_is, not_true, open_is}
use Rattle.nys_laws.proofs.RestsLemmas.{fits_is}

-- a host offers in an open slot
pub offer_open : {S : Type 0} (scope : Scope S) (v : View) (h : ℕ) (content : Content)
    → to_offer scope v h ≡ Some content → IsOpenAt scope v h
unfolding to_offer
offer_open scope v h content e =
    let new = is_open scope v h && is_none (v.desks h).offered in
    let passed = (only_if_some (v.me == h && new) _ content e).0 in
    open_is scope v h (both_true (is_open scope v h) _ (both_true (v.me == h) new passed).1).0

-- a guard orders in an open slot
pub order_open : {S : Type 0} (scope : Scope S) (v : View) (h : ℕ) (content : Content)
    → to_order scope v h ≡ Some content → IsOpenAt scope v h
unfolding to_order
order_open scope v h content e =
    let passed = (only_if_some (is_open scope v h && is_none (v.desks h).ordered) _ content e).0 in
    open_is scope v h (both_true (is_open scope v h) _ passed).0

-- it votes in an open slot
pub deliver_open : {S : Type 0} (scope : Scope S) (v : View) (h : ℕ) (content : Content)
    → to_deliver scope v h ≡ Some content → IsOpenAt scope v h
unfolding to_deliver
deliver_open scope v h content e =
    let passed = (only_if_some (is_open scope v h && is_none (v.desks h).delivered) _ content e).0 in
    open_is scope v h (both_true (is_open scope v h) _ passed).0

-- it logs in an open slot what fits
pub log_open : {S : Type 0} (scope : Scope S) (v : View) (h : ℕ) (content : Content)
    → to_log scope v h ≡ Some content
    → IsOpenAt scope v h × Fits scope.rules h (v.logs h) content
unfolding to_log
log_open scope v h content e =
    let voted = delivered (quorum_at scope v.epoch h) (v.desks h).votes in
    let parts = only_if_some (is_open scope v h) (passing_only (fits scope v h) voted) content e in
    (open_is scope v h parts.0, fits_is scope v h content (passing_some (fits scope v h) voted content parts.1).1)

-- what the attest rule finds: the next number of a link that the node attests, which was sent
pub record AttestsNext {S : Type 0} (scope : Scope S) (v : View) (p h k : ℕ) (payload : List ℤ) : Type 0 where
  pub active : v.wedged ≡ false
  pub guards : GuardsLink scope v.epoch p h v.me
  pub range : Attested
  pub range_is : v.attested p h ≡ Some range
  pub next_is : range.next ≡ k
  pub sent : slice_get (sent_to scope v p h) k ≡ Some payload

-- a number that is found is the next one
next_found : (sent : List (List ℤ)) (o : Option Attested) (k : ℕ) (payload : List ℤ)
    → unattested sent o ≡ Some (k, payload)
    → (range : Attested) × (o ≡ Some range) × (range.next ≡ k) × (slice_get sent k ≡ Some payload)
next_found sent None k payload e = absurd (cc)
next_found sent (Some range) k payload e =
    let found = map_some (λ x. (range.next, x)) (slice_get sent range.next) (k, payload) e in
    let number : range.next ≡ k = ap (λ z. z.0) found.2 in
    let same : found.0 ≡ payload = ap (λ z. z.1) found.2 in
    (range, refl, number, ap (slice_get sent) (sym number) ∙ found.1 ∙ ap (λ x. Some x) same)

-- so does the rule
pub attest_next : {S : Type 0} (scope : Scope S) (v : View) (p h k : ℕ) (payload : List ℤ)
    → to_attest scope v p h ≡ Some (k, payload) → AttestsNext scope v p h k payload
unfolding to_attest
attest_next scope v p h k payload e =
    let parts = only_if_some (not v.wedged && is_attesting scope v p h) (unattested (sent_to scope v p h) (v.attested p h))
    (k, payload) e in
    let tests = both_true (not v.wedged) (is_attesting scope v p h) parts.0 in
    let found = next_found (sent_to scope v p h) (v.attested p h) k payload parts.1 in
    record {
      active = not_true v.wedged tests.0;
      guards = attesting_is scope v p h tests.1;
      range = found.0;
      range_is = found.1;
      next_is = found.2;
      sent = found.3;
    }

-- a vote is about a host that is live
pub vote_live : {S : Type 0} (scope : Scope S) (v : View) (e h slot : ℕ)
    → if_current v e (vote_drop scope v h slot) ≡ None → IsLiveAt scope v h
vote_live scope v e h slot is =
    live_is scope v h (passed_on (is_live scope v h) _ _ (current_is v e (vote_drop scope v h slot) is).1).0

-- an attestation is of a host of the protocol, in the epoch of the node
pub attest_sender : {S : Type 0} (scope : Scope S) (v : View) (e p h k : ℕ)
    → if_current v e (attest_drop scope v p h k) ≡ None → (e ≡ v.epoch) × (p < scope.rules.hosts)
attest_sender scope v e p h k is =
    let current = current_is v e (attest_drop scope v p h k) is in
    let rest = not (v.retired p) && scope.rules.linked p h in
    let first = passed_on (is_live scope v h) _ _ current.1 in
    let second = passed_on (nat_lt p scope.rules.hosts && rest) _ _ first.1 in
    (current.0, (Decides-ltb p scope.rules.hosts).0 (both_true (nat_lt p scope.rules.hosts) rest second.0).0)

-- an entry that is inherited: of the next slot of a live host, below the base, and it fits
pub record IsInherited {S : Type 0} (scope : Scope S) (v : View) (e h slot : ℕ) (content : Content) : Type 0 where
  pub epoch_is : e ≡ v.epoch
  pub active : v.wedged ≡ false
  pub live : IsLiveAt scope v h
  pub slot_is : slot ≡ length_of v h
  pub below : length_of v h < v.base h
  pub fitting : Fits scope.rules h (v.logs h) content

-- so is one that isn't dropped
pub inherit_is : {S : Type 0} (scope : Scope S) (v : View) (e h slot : ℕ) (content : Content)
    → if_current v e (inherit_drop scope v h slot (fits scope v h content)) ≡ None
    → IsInherited scope v e h slot content
inherit_is scope v e h slot content is =
    let rest = inherit_drop scope v h slot (fits scope v h content) in
    let below = slot == length_of v h && not (has_reached v h) in
    let current = current_is v e rest is in
    let awake = passed_on (not v.wedged) _ rest (passed_on (e == v.epoch) _ _ is).1 in
    let first = passed_on (is_live scope v h) _ _ current.1 in
    let second = both_true below (fits scope v h content) (passed_on (below && fits scope v h content) _ _ first.1).0 in
    let third = both_true (slot == length_of v h) (not (has_reached v h)) second.0 in
    record {
      epoch_is = current.0;
      active = not_true v.wedged awake.0;
      live = live_is scope v h first.0;
      slot_is = (Decides-eqb slot (length_of v h)).0 third.0;
      below = leb-false (v.base h) (length_of v h) (not_true (has_reached v h) third.1);
      fitting = fits_is scope v h content second.1;
    }

-- Each step of a node keeps its numbers in their ranges.
use Rattle.std.proofs.Common.{◌≡◌, ℕ, ◌+◌, ◌-◌, ◌≤◌, ◌&&◌, ◌==◌, Bool, true, false, ℤ, List, [], ◌∷◌, ◌++◌, length, All, Some, None, refl, sym, subst, inl, inr, arith, eqb-true, get_or}
use Rattle.std.specs.Prelude.{Option, if◌then◌else◌, not, unwrap_or}
use Rattle.std.proofs.lemmas.Bool.{cases_lt}
use Rattle.std.proofs.lemmas.List.{get_or_past, length-append}
use Rattle.std.proofs.lemmas.List.Elements.{All-drop, All-nil, All-push}
use Rattle.nys_agreement.proofs.TableLemmas.{put_case, put_there}
use Rattle.nys_bytes.specs.declared.content.Content.{Content}
use Rattle.nys_source.specs.Tables.{put}
use Rattle.nys_stmt.specs.Lists.{AreLengths, IsLength}
use Rattle.nys_stmt.specs.Ranges.{IsBodyInRange, IsBodySound, IsContentInRange}
use Rattle.nys_stmt.specs.Records.{IsRecord}
use Rattle.nys_stmt.specs.declared.records.Record.{Record}
use Rattle.nys_stmt.specs.declared.statement.Body.{Body}
use Rattle.nys_stmt.specs.declared.statement.Body.TheVariants as body
use Rattle.nys_stmt.specs.declared.statement.FilledKind.TheVariants as kind
use Rattle.nys_stmt.specs.declared.tags.Tags.{Tags}
use Rattle.nys_rules.specs.declared.cause.DropCause.{DropCause}
use Rattle.nys_rules.specs.declared.cause.DropCause.TheVariants as cause
use Rattle.nys_rules.specs.declared.rule.Rule.{Rule}
use Rattle.nys_rules.specs.declared.rule.Rule.TheVariants.{Offer, Order, Certificate, Deliver, Log, Attest}
use Rattle.nys_rules.specs.Dropping.{accepted, if_current, inherit_drop, misplaced, misplaced_body, unless, verdict, vote_drop}
use Rattle.nys_rules.specs.Handling.{with_input}
use Rattle.nys_rules.specs.Heads.{with_heads}
use Rattle.nys_rules.specs.Logging.{fits, logged, with_entry}
use Rattle.nys_rules.specs.Noting.{at_desk, bases, noted, noted_body, retirements, with_attests, with_certificate, with_held, with_orders, with_votes}
use Rattle.nys_rules.specs.Packets.{Acts}
use Rattle.nys_rules.specs.Rules.{due, Enabled}
use Rattle.nys_rules.specs.Scope.{quorum_at, Scope}
use Rattle.nys_rules.specs.Settling.{SettlesInto}
use Rattle.nys_rules.specs.Taking.{kept_of, last_64, own_tags, taken, with_deliver, with_kept, with_offer, with_order, with_sent}
use Rattle.nys_rules.specs.View.{Desk, empty_desk, entering, first_view, has_reached, is_live, is_open, length_of, newborn, View, with_links}
use Rattle.nys_rules.proofs.CertificateLemmas.{both_true}
use Rattle.nys_rules.proofs.DueLemmas.{due_enabled}
use Rattle.nys_rules.proofs.KeepLemmas.{settles_into_keep}
use Rattle.nys_rules.proofs.SearchLemmas.{or_none}
use Rattle.nys_node.specs.Sound.{IsScope, IsSound, IsSoundDesk, IsSoundKept, IsTagged, tellable}
use Rattle.nys_node.proofs.SoundDesks.{accepted_tagged, AreTagged, counted_sound, deliver_sound, empty_sound, held_sound, offer_sound, order_sound, orders_sound, sent_sound, votes_sound}
use Rattle.nys_node.proofs.SoundRanges.{candidate_range, certify_due, deliver_due, desk_room, log_due, offer_due, open_room, order_due, some_range, voted_range}
use Rattle.nys_node.proofs.SoundRecords.{own_tagged}
use Rattle.nys_node.proofs.SoundSeats.{some_voter, voters_tagged}

-- a view with one desk changed, where the log has room
desk_changed : {S : Type 0} (scope : Scope S) (h : ℕ) (change : Desk → Desk) (v : View) → length_of v h ≤ 1023
    → IsSoundDesk (tellable scope v h) (change (v.desks h)) → IsSound scope v → IsSound scope (at_desk h change v)
desk_changed scope h change v room desk k = record {
  short = k.short;
  logs = k.logs;
  full = λ x full. put_case (λ d. d ≡ empty_desk) v.desks h (change (v.desks h)) x
      (λ e. absurd (let long : 1024 ≤ length_of v h = subst (λ y. 1024 ≤ length_of v y) e full in omega (arith, room, long)))
      (λ ne. k.full x full);
  desks = λ x. put_case (IsSoundDesk (tellable scope v x)) v.desks h (change (v.desks h)) x
      (λ e. subst (λ y. IsSoundDesk (tellable scope v y) (change (v.desks h))) (sym e) desk) (λ ne. k.desks x);
  voted_to = k.voted_to;
  kept = k.kept;
}

-- heads that are recorded
heads_sound : {S : Type 0} (scope : Scope S) (h : ℕ) (v : View) → IsSound scope v → IsSound scope (with_heads scope h v)
unfolding with_heads
heads_sound scope h v k = record { short = k.short; logs = k.logs; full = k.full; desks = k.desks; voted_to = k.voted_to; kept = k.kept }

-- links that begin
links_sound : {S : Type 0} (scope : Scope S) (v : View) → IsSound scope v → IsSound scope (with_links scope v)
unfolding with_links
links_sound scope v k = record { short = k.short; logs = k.logs; full = k.full; desks = k.desks; voted_to = k.voted_to; kept = k.kept }

-- a longer log
entry_sound : {S : Type 0} (scope : Scope S) (h : ℕ) (content : Content) (v : View) → length_of v h ≤ 1023
    → IsContentInRange content → IsSound scope v → IsSound scope (with_entry h content v)
entry_sound scope h content v room in_range k = record {
  short = λ x. put_case (λ (l : List Content). length l ≤ 1024) v.logs h (v.logs h ++ content ∷ []) x
      (λ e. omega (arith, room, length-append (v.logs h) (content ∷ []))) (λ ne. k.short x);
  logs = λ x. put_case (All IsContentInRange) v.logs h (v.logs h ++ content ∷ []) x
      (λ e. All-push IsContentInRange (v.logs h) content (k.logs h) in_range) (λ ne. k.logs x);
  full = λ x full. put_case (λ d. d ≡ empty_desk) v.desks h empty_desk x (λ e. refl)
      (λ ne. k.full x (subst (λ (l : List Content). 1024 ≤ length l) (put_there v.logs h (v.logs h ++ content ∷ []) x ne) full));
  desks = λ x. put_case (IsSoundDesk (tellable scope v x)) v.desks h empty_desk x
      (λ e. empty_sound (tellable scope v x)) (λ ne. k.desks x);
  voted_to = k.voted_to;
  kept = k.kept;
}

-- a log that grows
pub logged_sound : {S : Type 0} (scope : Scope S) (h : ℕ) (content : Content) (v : View) → length_of v h ≤ 1023
    → IsContentInRange content → IsSound scope v → IsSound scope (logged scope h content v)
unfolding logged
logged_sound scope h content v room in_range k =
    heads_sound scope h (with_links scope (with_entry h content v))
    (links_sound scope (with_entry h content v) (entry_sound scope h content v room in_range k))

-- an epoch that begins
pub sound_entering : {S : Type 0} (scope : Scope S) (epoch : ℕ) (base : ℕ → ℕ) (retired : ℕ → Bool) (v : View)
    → ((h : ℕ) → base h ≤ 1024) → IsSound scope v → IsSound scope (entering scope epoch base retired v)
unfolding entering with_links
sound_entering scope epoch base retired v low k = record {
  short = k.short;
  logs = k.logs;
  full = λ h full. refl;
  desks = λ h. empty_sound _;
  voted_to = low;
  kept = λ h. All-nil (IsSoundKept _);
}

-- the lengths that Open has
length_low : (o : Option ℕ) → IsLength o → unwrap_or o 0 ≤ 1024
length_low None e = omega arith
length_low (Some n) e = e n refl

-- the bases that they give
pub bases_low : (lengths : List (Option ℕ)) → AreLengths lengths → (h : ℕ) → bases lengths h ≤ 1024
bases_low lengths are h = elim (cases_lt h (length lengths)) [
  | inl there ↦ length_low (get_or lengths h None) (are.each h None there)
  | inr past ↦ subst (λ (o : Option ℕ). unwrap_or o 0 ≤ 1024) (sym (get_or_past lengths h None past)) (omega arith)
]

-- where no cause is given the test passed, and the tests after it gave none
passed : (b : Bool) (drop_cause : DropCause) (rest : Option DropCause) → unless b drop_cause rest ≡ None → (b ≡ true) × (rest ≡ None)
passed true drop_cause rest e = (refl, e)
passed false drop_cause rest e = absurd (cc)

-- the tests of the epoch passed
current : (v : View) (epoch : ℕ) (rest : Option DropCause) → if_current v epoch rest ≡ None → rest ≡ None
current v epoch rest e =
    let first = passed (epoch == v.epoch) cause.Epoch (unless (not v.wedged) cause.Wedged rest) e in
    (passed (not v.wedged) cause.Wedged rest first.1).1

-- the log of a slot that is voted on has room
vote_room : {S : Type 0} (scope : Scope S) (v : View) (e h slot : ℕ) → if_current v e (vote_drop scope v h slot) ≡ None
    → length_of v h ≤ 1023
vote_room scope v e h slot is =
    let tests = passed (is_live scope v h) cause.NotGuard _ (current v e (vote_drop scope v h slot) is) in
    let last = passed (is_open scope v h && slot == length_of v h) cause.Slot None tests.1 in
    (open_room scope v h (both_true (is_open scope v h) (slot == length_of v h) last.0).0).1

-- the log that inherits an entry ends before its slot
inherit_room : {S : Type 0} (scope : Scope S) (v : View) (e h slot : ℕ) (fit : Bool) → if_current v e (inherit_drop scope v h slot fit) ≡ None
    → slot ≤ 1023 → length_of v h ≤ 1023
inherit_room scope v e h slot fit is low =
    let tests = passed (is_live scope v h) cause.NotGuard _ (current v e (inherit_drop scope v h slot fit) is) in
    let last = passed ((slot == length_of v h && not (has_reached v h)) && fit) cause.Slot None tests.1 in
    let next = both_true (slot == length_of v h && not (has_reached v h)) fit last.0 in
    omega (arith, low, eqb-true slot (length_of v h) (both_true (slot == length_of v h) (not (has_reached v h)) next.0).0)

-- attestations that are heard
attests_sound : {S : Type 0} (scope : Scope S) (p h n : ℕ) (payload : List ℤ) (makers : List Tags) (v : View) → IsSound scope v
    → IsSound scope (with_attests p h n payload makers v)
unfolding with_attests
attests_sound scope p h n payload makers v k =
    record { short = k.short; logs = k.logs; full = k.full; desks = k.desks; voted_to = k.voted_to; kept = k.kept }

-- each kind of record
noted_body_sound : {S : Type 0} (scope : Scope S) (e : ℕ) (said : Body) (makers : List Tags) (v : View)
    → misplaced_body scope v e said ≡ None → IsBodyInRange said → IsBodySound said → AreTagged makers → IsSound scope v
    → IsSound scope (noted_body scope e said makers v)
noted_body_sound scope e (body.Filled kind.Offer h slot content) makers v is in_range are tagged k =
    desk_changed scope h (with_held content) v (vote_room scope v e h slot is)
    (held_sound (tellable scope v h) content (v.desks h) in_range.2 (k.desks h)) k
noted_body_sound scope e (body.Filled kind.Order h slot content) makers v is in_range are tagged k = by (v.me == h)
  where
    by : (b : Bool) → IsSound scope (if b then at_desk h (with_orders content makers) v
        else at_desk h (with_certificate (quorum_at scope v.epoch h) content makers) v)
    by true =
        desk_changed scope h (with_orders content makers) v (vote_room scope v e h slot is)
        (orders_sound (tellable scope v h) content makers (v.desks h) tagged (k.desks h)) k
    by false =
        desk_changed scope h (with_certificate (quorum_at scope v.epoch h) content makers) v (vote_room scope v e h slot is)
        (counted_sound (tellable scope v h) (quorum_at scope v.epoch h) content makers (v.desks h) in_range.2 (k.desks h)) k
noted_body_sound scope e (body.Filled kind.Deliver h slot content) makers v is in_range are tagged k =
    desk_changed scope h (with_votes content makers) v (vote_room scope v e h slot is)
    (votes_sound (tellable scope v h) content makers (v.desks h) in_range.2 tagged (k.desks h)) k
noted_body_sound scope e (body.Attest p h n payload) makers v is in_range are tagged k =
    heads_sound scope h (with_attests p h n payload makers v) (attests_sound scope p h n payload makers v k)
noted_body_sound scope e (body.Ask h slot) makers v is in_range are tagged k = k
noted_body_sound scope e body.Wedge makers v is in_range are tagged k =
    record { short = k.short; logs = k.logs; full = k.full; desks = k.desks; voted_to = k.voted_to; kept = k.kept }
noted_body_sound scope e (body.Filled kind.Report h slot content) makers v is in_range are tagged k = k
noted_body_sound scope e (body.Frozen h slot) makers v is in_range are tagged k = k
noted_body_sound scope e (body.Open lengths) makers v is in_range are tagged k =
    sound_entering scope e (bases lengths) (retirements lengths) v (bases_low lengths are) k
noted_body_sound scope e (body.Filled kind.Inherit h slot content) makers v is in_range are tagged k =
    logged_sound scope h content v (inherit_room scope v e h slot (fits scope v h content) is in_range.1) in_range.2 k

-- a record that is noted
pub sound_noted : {S : Type 0} (scope : Scope S) (v : View) (r : Record) → verdict scope v r ≡ None → IsRecord r
    → IsSound scope v → IsSound scope (noted scope v r)
unfolding noted verdict misplaced
sound_noted scope v r is well k =
    noted_body_sound scope r.statement.epoch r.statement.body (accepted scope r.statement.epoch v.me r) v
    (or_none (misplaced_body scope v r.statement.epoch r.statement.body) _ is).0 well.statement.range.body well.statement.sound
    (accepted_tagged scope r.statement.epoch v.me r) k

-- the own tags are some where there is somebody to tell
own_are_tagged : {S : Type 0} (scope : Scope S) (v : View) (h : ℕ) (said : Body) → IsTagged (tellable scope v h) (own_tags scope v h said)
own_are_tagged scope v h said told = omega (arith, own_tagged scope v h said, told)

-- the votes that are kept of a slot
kept_of_sound : {S : Type 0} (scope : Scope S) (h : ℕ) (content : Content) (v : View) → Enabled scope v (Log h content) → IsSound scope v
    → IsSoundKept (tellable scope v h) (kept_of v h content)
kept_of_sound scope h content v e k =
    let due = log_due scope v h content e in
    record {
      slot = (open_room scope v h due.0).1;
      content = voted_range scope v k h (quorum_at scope v.epoch h) content due.1;
      some = some_voter (quorum_at scope v.epoch h) (v.desks h).votes content due.1;
      tags = voters_tagged (IsTagged (tellable scope v h)) content (v.desks h).votes
          (λ m vote seat. ((k.desks h).votes m vote seat).1);
    }

-- votes that are kept
kept_sound : {S : Type 0} (scope : Scope S) (h : ℕ) (content : Content) (v : View) → IsSoundKept (tellable scope v h) (kept_of v h content)
    → IsSound scope v → IsSound scope (with_kept h content v)
kept_sound scope h content v one k = record {
  short = k.short;
  logs = k.logs;
  full = k.full;
  desks = k.desks;
  voted_to = k.voted_to;
  kept = λ x. put_case (All (IsSoundKept (tellable scope v x))) v.kept h (last_64 (v.kept h ++ kept_of v h content ∷ [])) x
      (λ e. subst (λ y. All (IsSoundKept (tellable scope v y)) (last_64 (v.kept h ++ kept_of v h content ∷ []))) (sym e)
      (All-drop (IsSoundKept (tellable scope v h)) (length (v.kept h ++ kept_of v h content ∷ []) - 64) (v.kept h ++ kept_of v h content ∷ [])
      (All-push (IsSoundKept (tellable scope v h)) (v.kept h) (kept_of v h content) (k.kept h) one)))
      (λ ne. k.kept x);
}

-- a slot in which it made a vote
voted_to_sound : {S : Type 0} (scope : Scope S) (h : ℕ) (v : View) → length_of v h ≤ 1023 → IsSound scope v
    → IsSound scope (record v { voted_to = put v.voted_to h (length_of v h + 1) })
voted_to_sound scope h v room k = record {
  short = k.short;
  logs = k.logs;
  full = k.full;
  desks = k.desks;
  voted_to = λ x. put_case (λ n. n ≤ 1024) v.voted_to h (length_of v h + 1) x (λ e. omega (arith, room)) (λ ne. k.voted_to x);
  kept = k.kept;
}

-- each rule that is enabled
enabled_sound : {S : Type 0} (scope : Scope S) → IsScope scope → (v : View) (rule : Rule) → Enabled scope v rule → IsSound scope v
    → IsSound scope (taken scope v rule)
enabled_sound scope is v (Offer h content) e k =
    let due = offer_due scope v h content e in
    desk_changed scope h (with_offer content) v (open_room scope v h due.1).1
    (offer_sound (tellable scope v h) content (v.desks h) (candidate_range scope is v k h content due.3) (k.desks h)) k
enabled_sound scope is v (Order h content) e k =
    let due = order_due scope v h content e in
    let said = body.Filled kind.Order h (length_of v h) content in
    desk_changed scope h (with_order (v.me == h) v.me content (own_tags scope v h said)) v (open_room scope v h due.0).1
    (order_sound (tellable scope v h) (v.me == h) v.me content (own_tags scope v h said) (v.desks h)
    (some_range (v.desks h).held content due.1 (k.desks h).held) (own_are_tagged scope v h said) (k.desks h)) k
enabled_sound scope is v (Certificate h content) e k =
    let due = certify_due scope v h content e in
    desk_changed scope h with_sent v (desk_room scope v k h (λ d. d.offered) content refl due.2)
    (sent_sound (tellable scope v h) (v.desks h) (k.desks h)) k
enabled_sound scope is v (Deliver h content) e k =
    let due = deliver_due scope v k h content e in
    let room = (open_room scope v h due.0).1 in
    let said = body.Filled kind.Deliver h (length_of v h) content in
    desk_changed scope h (with_deliver v.me content (own_tags scope v h said)) (record v { voted_to = put v.voted_to h (length_of v h + 1) }) room
    (deliver_sound (tellable scope v h) v.me content (own_tags scope v h said) (v.desks h) due.1 (own_are_tagged scope v h said) (k.desks h))
    (voted_to_sound scope h v room k)
enabled_sound scope is v (Log h content) e k =
    let due = log_due scope v h content e in
    logged_sound scope h content (with_kept h content v) (open_room scope v h due.0).1
    (voted_range scope v k h (quorum_at scope v.epoch h) content due.1)
    (kept_sound scope h content v (kept_of_sound scope h content v e k) k)
enabled_sound scope is v (Attest p h n payload) e k =
    heads_sound scope h _
    (record { short = k.short; logs = k.logs; full = k.full; desks = k.desks; voted_to = k.voted_to; kept = k.kept })

-- the rule that is due
pub sound_taken : {S : Type 0} (scope : Scope S) → IsScope scope → (v : View) (rule : Rule) → due scope v ≡ Some rule
    → IsSound scope v → IsSound scope (taken scope v rule)
sound_taken scope is v rule e k = enabled_sound scope is v rule (due_enabled scope v rule e).1 k

-- all rules that are due, one by one
pub sound_settled : {S : Type 0} (scope : Scope S) → IsScope scope → (v after : View) (acts : Acts) → SettlesInto scope v after acts
    → IsSound scope v → IsSound scope after
sound_settled scope is = settles_into_keep scope (IsSound scope) (sound_taken scope is)

-- an input that waits
pub sound_input : {S : Type 0} (scope : Scope S) (v : View) (payload : List ℤ) → IsSound scope v → IsSound scope (with_input payload v)
sound_input scope v payload k =
    record { short = k.short; logs = k.logs; full = k.full; desks = k.desks; voted_to = k.voted_to; kept = k.kept }

-- a node that knows no host
newborn_sound : {S : Type 0} (scope : Scope S) (me : ℕ) → IsSound scope (newborn me)
newborn_sound scope me = record {
  short = λ h. omega arith;
  logs = λ h. All-nil IsContentInRange;
  full = λ h full. refl;
  desks = λ h. empty_sound (tellable scope (newborn me) h);
  voted_to = λ h. omega arith;
  kept = λ h. All-nil (IsSoundKept (tellable scope (newborn me) h));
}

-- the first view
pub sound_first : {S : Type 0} (scope : Scope S) (me : ℕ) → IsSound scope (first_view scope me)
unfolding first_view
sound_first scope me = sound_entering scope 0 (λ _. 0) (λ _. false) (newborn me) (λ h. omega arith) (newborn_sound scope me)

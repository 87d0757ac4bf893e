-- The records that a node makes are whole: in range, with a maker or more, each with a tag or more.
use Rattle.std.proofs.Common.{◌≡◌, ℕ, zero, suc, ◌+◌, ◌<◌, ◌≤◌, ◌&&◌, ◌==◌, Bool, true, false, ℤ, List, [], ◌∷◌, length, drop, filter, map, All, Some, None, refl, sym, subst, arith, eqb-true, ltb-true, leb-true}
use Rattle.std.specs.Prelude.{Option, option_map, if◌then◌else◌, nat_lt, nat_le, slice_get}
use Rattle.std.specs.List.{enumerate_from}
use Rattle.std.specs.Option.{option_to_list}
use Rattle.std.proofs.lemmas.List.{length-map}
use Rattle.std.proofs.lemmas.List.Elements.{All-append, All-cons, All-filter, All-map, All-nil, All-weaker, filter_passes}
use Rattle.nys_bytes.specs.declared.content.Content.{Content}
use Rattle.nys_votes.specs.Seats.{count_all}
use Rattle.nys_stmt.specs.declared.records.Record.{Record}
use Rattle.nys_stmt.specs.declared.statement.Body.{Body}
use Rattle.nys_stmt.specs.declared.statement.Body.TheVariants as body
use Rattle.nys_stmt.specs.declared.statement.FilledKind.TheVariants as kind
use Rattle.nys_stmt.specs.declared.tags.Tags.{Tags}
use Rattle.nys_stmt.specs.Ranges.{IsContentInRange, IsInRange}
use Rattle.nys_stmt.specs.Records.{IsWhole}
use Rattle.nys_rules.specs.Asking.{attest_record, certificate_record, deliver_record, kept_records, offer_record, order_record}
use Rattle.nys_rules.specs.Ending.{entry_reports, testimony, told_from, vote_report}
use Rattle.nys_rules.specs.Heads.{own_attest, payload_in}
use Rattle.nys_rules.specs.Rules.{to_certify}
use Rattle.nys_rules.specs.Scope.{quorum_at, Scope}
use Rattle.nys_rules.specs.Sending.{guards_at, others, own_record, record_of, said_in, tags_for}
use Rattle.nys_rules.specs.Taking.{certificate}
use Rattle.nys_rules.specs.View.{Desk, empty_desk, is_live, length_of, sent_to, View}
use Rattle.nys_rules.specs.declared.kept.Attested.{Attested}
use Rattle.nys_rules.specs.declared.kept.Kept.{Kept}
use Rattle.nys_rules.proofs.CertificateLemmas.{only_if_some}
use Rattle.nys_rules.proofs.SearchLemmas.{map_some}
use Rattle.nys_node.specs.Sound.{IsScope, IsSomeInRange, IsSound, IsSoundKept, IsTagged, tellable}
use Rattle.nys_node.proofs.SoundRanges.{attested_range, certify_due, certify_range, desk_room, entry_report_range, epoch_range, frozen_range, some_range, vote_report_range}
use Rattle.nys_node.proofs.SoundSeats.{makers_are, makers_tagged}

-- a quorum is one or more
pub quorum_some : {S : Type 0} (scope : Scope S) (e h : ℕ) → 1 ≤ quorum_at scope e h
unfolding quorum_at
quorum_some scope e h = omega arith

-- the own tags are as many as the guards that may be told
pub own_tagged : {S : Type 0} (scope : Scope S) (v : View) (h : ℕ) (said : Body)
    → length (tags_for scope v.me (said_in v.epoch said) (guards_at scope v h)) ≡ tellable scope v h
unfolding tags_for
own_tagged scope v h said = length-map (others v.me (guards_at scope v h)) (λ g. (g, scope.tag v.me g (said_in v.epoch said)))

-- a record of the node alone is whole
pub own_whole : {S : Type 0} (scope : Scope S) (v : View) (h : ℕ) (said : Body) → IsInRange (said_in v.epoch said)
    → 1 ≤ tellable scope v h → IsWhole (record_of scope v h said)
unfolding own_record
own_whole scope v h said in_range told = record {
  range = in_range;
  makers = omega arith;
  tags = All-cons (λ (t : Tags). 1 ≤ length t.tags) _ [] (omega (arith, own_tagged scope v h said, told))
      (All-nil (λ (t : Tags). 1 ≤ length t.tags));
}

-- a content on the desk of a host is in range for its open slot
slot_range : {S : Type 0} (scope : Scope S) → IsScope scope → (v : View) → IsSound scope v → (h : ℕ) (c : Content)
    (get : Desk → Option Content) → h < 32 → get empty_desk ≡ None → get (v.desks h) ≡ Some c → IsSomeInRange (get (v.desks h))
    → (h ≤ 31) × (length_of v h ≤ 1023) × IsContentInRange c
slot_range scope is v sound h c get low none e in_range =
    (omega (arith, low), desk_room scope v sound h get c none e, some_range (get (v.desks h)) c e in_range)

-- the offer that was made
pub offered_range : {S : Type 0} (scope : Scope S) → IsScope scope → (v : View) → IsSound scope v → v.epoch < scope.epochs
    → (h : ℕ) (c : Content) → h < 32 → (v.desks h).offered ≡ Some c
    → IsInRange (said_in v.epoch (body.Filled kind.Offer h (length_of v h) c))
offered_range scope is v sound within h c low e = record {
  epoch = epoch_range scope is v.epoch within;
  body = slot_range scope is v sound h c (λ d. d.offered) low refl e (sound.desks h).offered;
}

-- the order that was made
pub ordered_range : {S : Type 0} (scope : Scope S) → IsScope scope → (v : View) → IsSound scope v → v.epoch < scope.epochs
    → (h : ℕ) (c : Content) → h < 32 → (v.desks h).ordered ≡ Some c
    → IsInRange (said_in v.epoch (body.Filled kind.Order h (length_of v h) c))
ordered_range scope is v sound within h c low e = record {
  epoch = epoch_range scope is v.epoch within;
  body = slot_range scope is v sound h c (λ d. d.ordered) low refl e (sound.desks h).ordered;
}

-- the vote that was made
pub delivered_range : {S : Type 0} (scope : Scope S) → IsScope scope → (v : View) → IsSound scope v → v.epoch < scope.epochs
    → (h : ℕ) (c : Content) → h < 32 → (v.desks h).delivered ≡ Some c
    → IsInRange (said_in v.epoch (body.Filled kind.Deliver h (length_of v h) c))
delivered_range scope is v sound within h c low e = record {
  epoch = epoch_range scope is v.epoch within;
  body = slot_range scope is v sound h c (λ d. d.delivered) low refl e (sound.desks h).delivered;
}

-- the record of the own offer
pub offer_record_whole : {S : Type 0} (scope : Scope S) → IsScope scope → (v : View) → IsSound scope v → v.epoch < scope.epochs
    → (h : ℕ) (r : Record) → h < 32 → 1 ≤ tellable scope v h → offer_record scope v h ≡ Some r → IsWhole r
offer_record_whole scope is v sound within h r low told e =
    let made = map_some (λ c. record_of scope v h (body.Filled kind.Offer h (length_of v h) c)) (v.desks h).offered r e in
    subst IsWhole made.2
    (own_whole scope v h (body.Filled kind.Offer h (length_of v h) made.0) (offered_range scope is v sound within h made.0 low made.1) told)

-- the record of the own order
pub order_record_whole : {S : Type 0} (scope : Scope S) → IsScope scope → (v : View) → IsSound scope v → v.epoch < scope.epochs
    → (h : ℕ) (r : Record) → h < 32 → 1 ≤ tellable scope v h → order_record scope v h ≡ Some r → IsWhole r
order_record_whole scope is v sound within h r low told e =
    let made = map_some (λ c. record_of scope v h (body.Filled kind.Order h (length_of v h) c)) (v.desks h).ordered r e in
    subst IsWhole made.2
    (own_whole scope v h (body.Filled kind.Order h (length_of v h) made.0) (ordered_range scope is v sound within h made.0 low made.1) told)

-- the record of the own vote
pub deliver_record_whole : {S : Type 0} (scope : Scope S) → IsScope scope → (v : View) → IsSound scope v → v.epoch < scope.epochs
    → (h : ℕ) (r : Record) → h < 32 → 1 ≤ tellable scope v h → deliver_record scope v h ≡ Some r → IsWhole r
deliver_record_whole scope is v sound within h r low told e =
    let made = map_some (λ c. record_of scope v h (body.Filled kind.Deliver h (length_of v h) c)) (v.desks h).delivered r e in
    subst IsWhole made.2
    (own_whole scope v h (body.Filled kind.Deliver h (length_of v h) made.0) (delivered_range scope is v sound within h made.0 low made.1) told)

-- a certificate with a maker or more
certificate_of : {S : Type 0} (scope : Scope S) (v : View) → IsSound scope v → (h : ℕ) (c : Content) → 1 ≤ tellable scope v h
    → IsInRange (said_in v.epoch (body.Filled kind.Order h (length_of v h) c)) → 1 ≤ count_all (v.desks h).orders
    → IsWhole (certificate v h c)
unfolding certificate
certificate_of scope v sound h c told in_range some = record {
  range = in_range;
  makers = omega (arith, makers_are (v.desks h).orders, some);
  tags = makers_tagged (λ tags. 1 ≤ length tags) (v.desks h).orders (λ m tags e. (sound.desks h).orders m tags e told);
}

-- a certificate that is due is whole
pub certificate_whole : {S : Type 0} (scope : Scope S) → IsScope scope → (v : View) → IsSound scope v → v.epoch < scope.epochs
    → (h : ℕ) (c : Content) → 1 ≤ tellable scope v h → to_certify scope v h ≡ Some c → IsWhole (certificate v h c)
certificate_whole scope is v sound within h c told e =
    let due = certify_due scope v h c e in
    certificate_of scope v sound h c told (certify_range scope is v sound within h c e)
    (omega (arith, quorum_some scope v.epoch h, leb-true (quorum_at scope v.epoch h) (count_all (v.desks h).orders) due.1))

-- the last certificate that was sent is whole
pub certificate_record_whole : {S : Type 0} (scope : Scope S) → IsScope scope → (v : View) → IsSound scope v → v.epoch < scope.epochs
    → (h : ℕ) (r : Record) → h < 32 → 1 ≤ tellable scope v h → certificate_record v h ≡ Some r → IsWhole r
certificate_record_whole scope is v sound within h r low told e =
    let sent = only_if_some (nat_lt 0 (v.desks h).sent) (option_map (certificate v h) (v.desks h).offered) r e in
    let made = map_some (certificate v h) (v.desks h).offered r sent.1 in
    subst IsWhole made.2
    (certificate_of scope v sound h made.0 told
    (record {
      epoch = epoch_range scope is v.epoch within;
      body = slot_range scope is v sound h made.0 (λ d. d.offered) low refl made.1 (sound.desks h).offered;
    })
    (omega (arith, ltb-true 0 (v.desks h).sent sent.0, (sound.desks h).sent)))

-- votes that are kept are a whole record
kept_whole : {S : Type 0} (scope : Scope S) → IsScope scope → (v : View) → v.epoch < scope.epochs → (h slot : ℕ) (k : Kept)
    → h < 32 → 1 ≤ tellable scope v h → IsSoundKept (tellable scope v h) k → (k.slot == slot) ≡ true
    → IsWhole (record { statement = said_in v.epoch (body.Filled kind.Deliver h slot k.content); makers = k.makers })
kept_whole scope is v within h slot k low told kept same = record {
  range = record {
    epoch = epoch_range scope is v.epoch within;
    body = (omega (arith, low), omega (arith, kept.slot, eqb-true k.slot slot same), kept.content);
  };
  makers = kept.some;
  tags = All-weaker (λ (t : Tags). IsTagged (tellable scope v h) t.tags) (λ (t : Tags). 1 ≤ length t.tags) (λ t tagged. tagged told) k.makers kept.tags;
}

-- both hold of each
each_both : {A : Type 0} (P Q : A → Type 0) (xs : List A) → All P xs → All Q xs → All (λ x. P x × Q x) xs
each_both P Q xs p q k d low = (p k d low, q k d low)

-- the records of the votes that are kept of a slot are whole
pub kept_records_whole : {S : Type 0} (scope : Scope S) → IsScope scope → (v : View) → IsSound scope v → v.epoch < scope.epochs
    → (h slot : ℕ) → h < 32 → 1 ≤ tellable scope v h → All IsWhole (kept_records v h slot)
kept_records_whole {S} scope is v sound within h slot low told =
    All-map IsWhole of_kept (filter test (v.kept h))
    (All-weaker Both (λ k. IsWhole (of_kept k)) (λ k both. kept_whole scope is v within h slot k low told both.0 both.1)
    (filter test (v.kept h))
    (each_both (IsSoundKept (tellable scope v h)) (λ k. test k ≡ true) (filter test (v.kept h))
    (All-filter test (IsSoundKept (tellable scope v h)) (v.kept h) (sound.kept h)) (filter_passes test (v.kept h))))
  where
    test : Kept → Bool
    test k = k.slot == slot

    of_kept : Kept → Record
    of_kept k = record { statement = said_in v.epoch (body.Filled kind.Deliver h slot k.content); makers = k.makers }

    Both : Kept → Type 0
    Both k = IsSoundKept (tellable scope v h) k × (test k ≡ true)

-- a payload that was attested was sent
payload_sent : (k : ℕ) (sent : List (List ℤ)) (range : Option Attested) (payload : List ℤ)
    → payload_in k sent range ≡ Some payload → slice_get sent k ≡ Some payload
payload_sent k sent None payload e = absurd (cc)
payload_sent k sent (Some range) payload e = by (nat_le range.first k && nat_lt k range.next) e
  where
    by : (b : Bool) → (if b then slice_get sent k else None) ≡ Some payload → slice_get sent k ≡ Some payload
    by true is = is
    by false is = absurd (cc)

-- what a node attests itself was sent
pub own_attest_sent : {S : Type 0} (scope : Scope S) (v : View) (p h k : ℕ) (payload : List ℤ)
    → own_attest scope v p h k ≡ Some payload → slice_get (sent_to scope v p h) k ≡ Some payload
unfolding own_attest
own_attest_sent scope v p h k payload e = payload_sent k (sent_to scope v p h) (v.attested p h) payload e

-- an attestation that was made is in range
pub own_attest_range : {S : Type 0} (scope : Scope S) → IsScope scope → (v : View) → IsSound scope v → v.epoch < scope.epochs
    → (p h k : ℕ) (payload : List ℤ) → scope.rules.linked p h ≡ true → own_attest scope v p h k ≡ Some payload
    → IsInRange (said_in v.epoch (body.Attest p h k payload))
own_attest_range scope is v sound within p h k payload linked e =
    attested_range scope is v sound within p h k payload linked (own_attest_sent scope v p h k payload e)

-- the record of an attestation
pub attest_record_whole : {S : Type 0} (scope : Scope S) → IsScope scope → (v : View) → IsSound scope v → v.epoch < scope.epochs
    → (p h k : ℕ) (r : Record) → scope.rules.linked p h ≡ true → 1 ≤ tellable scope v h → attest_record scope v p h k ≡ Some r
    → IsWhole r
attest_record_whole scope is v sound within p h k r linked told e =
    let made = map_some (λ payload. record_of scope v h (body.Attest p h k payload)) (own_attest scope v p h k) r e in
    subst IsWhole made.2
    (own_whole scope v h (body.Attest p h k made.0) (own_attest_range scope is v sound within p h k made.0 linked made.1) told)

-- a list of bodies in range
abbrev pub AreInRange : View → List Body → Type 0
AreInRange v bodies = All (λ b. IsInRange (said_in v.epoch b)) bodies

-- reports of entries, numbered from n, are in range where each of them is
entries_range : (v : View) (h n : ℕ) (entries : List Content)
    → ((i : ℕ) (c : Content) → slice_get entries i ≡ Some c → IsInRange (said_in v.epoch (body.Filled kind.Report h (n + i) c)))
    → AreInRange v (map (λ x. body.Filled kind.Report h x.0 x.1) (enumerate_from n entries))
entries_range v h n [] each = All-nil (λ b. IsInRange (said_in v.epoch b))
entries_range v h n (c ∷ entries) each =
    All-cons (λ b. IsInRange (said_in v.epoch b)) (body.Filled kind.Report h n c) _
    (let e : n + 0 ≡ n = omega arith in subst (λ m. IsInRange (said_in v.epoch (body.Filled kind.Report h m c))) e (each 0 c refl))
    (entries_range v h (n + 1) entries (λ i x is.
    let e : n + suc i ≡ n + 1 + i = omega arith in
    subst (λ m. IsInRange (said_in v.epoch (body.Filled kind.Report h m x))) e (each (suc i) x is)))

-- an entry behind the first n
dropped_entry : {A : Type 0} (n i : ℕ) (xs : List A) (x : A) → slice_get (drop n xs) i ≡ Some x → slice_get xs (n + i) ≡ Some x
dropped_entry zero i xs x e = let same : 0 + i ≡ i = omega arith in subst (λ m. slice_get xs m ≡ Some x) (sym same) e
dropped_entry (suc n) i [] x e = absurd (cc)
dropped_entry (suc n) i (y ∷ xs) x e =
    let same : suc n + i ≡ suc (n + i) = omega arith in
    subst (λ m. slice_get (y ∷ xs) m ≡ Some x) (sym same) (dropped_entry n i xs x e)

-- the report of a vote that may be there
vote_ranges : (v : View) (h : ℕ) (o : Option Content)
    → ((c : Content) → o ≡ Some c → IsInRange (said_in v.epoch (body.Filled kind.Report h (length_of v h) c)))
    → AreInRange v (option_to_list (option_map (λ c. body.Filled kind.Report h (length_of v h) c) o))
vote_ranges v h None each = All-nil (λ b. IsInRange (said_in v.epoch b))
vote_ranges v h (Some c) each =
    All-cons (λ b. IsInRange (said_in v.epoch b)) (body.Filled kind.Report h (length_of v h) c) [] (each c refl)
    (All-nil (λ b. IsInRange (said_in v.epoch b)))

-- all that a node tells about a host where the epoch ends is in range
pub testimony_range : {S : Type 0} (scope : Scope S) → IsScope scope → (v : View) → IsSound scope v → v.epoch < scope.epochs
    → (h : ℕ) → is_live scope v h ≡ true → AreInRange v (testimony v h)
unfolding testimony
testimony_range scope is v sound within h live =
    All-append P (entry_reports v h) _
    (entries_range v h (told_from v h) (drop (told_from v h) (v.logs h)) (λ i c e.
    entry_report_range scope is v sound within h (told_from v h + i) c live (dropped_entry (told_from v h) i (v.logs h) c e)))
    (All-append P (vote_report v h) (body.Frozen h (v.voted_to h) ∷ [])
    (vote_ranges v h (v.desks h).delivered (λ c e. vote_report_range scope is v sound within h c live e))
    (All-cons P (body.Frozen h (v.voted_to h)) [] (frozen_range scope is v sound within h live) (All-nil P)))
  where
    P : Body → Type 0
    P b = IsInRange (said_in v.epoch b)

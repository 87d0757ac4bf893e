-- What certificates and attestations show, read off the tests that count them.
use Rattle.std.proofs.Common.{◌≡◌, ◌≢◌, ℕ, suc, ◌+◌, ◌<◌, ◌≤◌, ◌⊎◌, ◌==◌, ◌&&◌, Bool, true, false, ℤ, List, [], ◌∷◌, length, map, filter, Some, None, refl, ap, sym, ◌∙◌, inl, inr, arith, leb-true, eq-eqb}
use Rattle.std.specs.Prelude.{All, AllPairs, Contains, Option, nat_le, nat_lt, is_none, not, if◌then◌else◌}
use Rattle.std.specs.Option.{option_or}
use Rattle.std.proofs.lemmas.Bool.{ne_eqb}
use Rattle.std.proofs.lemmas.Bool.Decides.{Decides-eqb}
use Rattle.std.proofs.lemmas.List.{length-map}
use Rattle.std.proofs.lemmas.List.Elements.{All-cons, All-contains_itself, All-map, All-weaker, filter_passes}
use Rattle.std.proofs.lemmas.List.Kept.{AllPairs-cons, AllPairs-filter}
use Rattle.nys_bytes.specs.declared.content.Content.{Content}
use Rattle.nys_bytes.specs.declared.content.Content.TheVariants.{External, Message}
use Rattle.nys_hosts.specs.Counts.{AtLeast}
use Rattle.nys_hosts.specs.Makers.{AreDifferent}
use Rattle.nys_hosts.proofs.CountLemmas.{AtLeast-fewer}
use Rattle.nys_hosts.proofs.ListLemmas.{AtLeast-from_list}
use Rattle.nys_agreement.proofs.TableLemmas.{put_here}
use Rattle.nys_stmt.specs.declared.records.Record.{Record}
use Rattle.nys_stmt.specs.declared.statement.Body.TheVariants as body
use Rattle.nys_stmt.specs.declared.statement.FilledKind.TheVariants as kind
use Rattle.nys_stmt.specs.declared.statement.Statement.{Statement}
use Rattle.nys_stmt.specs.declared.tags.Tags.{Tags}
use Rattle.nys_votes.specs.Delivered.{backed, delivered}
use Rattle.nys_votes.specs.Seats.{count_all}
use Rattle.nys_votes.proofs.ContentLemmas.{decide_contents, decide_payloads}
use Rattle.nys_votes.proofs.SeatLemmas.{counts_kept}
use Rattle.nys_votes.proofs.TallyLemmas.{attests_stand, votes_stand}
use Rattle.nys_rules.specs.Certificates.{AreQuorum, HasSeats, IsAttested, IsCollected, IsCounted, IsDeliverable, IsNext, IsOrderOf, IsOwnOrdered, IsShown, IsShownToOrder, IsVoted, ReadAsMakers}
use Rattle.nys_rules.specs.Dropping.{accepted, accepts, permits, verifies}
use Rattle.nys_rules.specs.Heads.{attested_payload, is_allowed, is_attested_next, is_same, own_attest, with_own}
use Rattle.nys_rules.specs.Logging.{fits}
use Rattle.nys_rules.specs.Noting.{is_content, noted, noted_body, orderers, with_certificate}
use Rattle.nys_rules.specs.Rules.{is_certified, only_if, ordered_content, passing_only, to_certify, to_deliver, to_log, to_order}
use Rattle.nys_rules.specs.Scope.{quorum_at, Scope}
use Rattle.nys_rules.specs.View.{Desk, is_live, is_open, next_number, View}
use Rattle.nys_rules.proofs.SearchLemmas.{or_some}
use Rattle.nys_rules.proofs.SeatKeeping.{length-with_own}

-- both of two tests
pub both_true : (a b : Bool) → (a && b) ≡ true → (a ≡ true) × (b ≡ true)
both_true true b e = (refl, e)
both_true false b e = absurd (cc)

-- what is left where a test passes
pub only_if_some : {A : Type 0} (b : Bool) (o : Option A) (x : A) → only_if b o ≡ Some x
    → (b ≡ true) × (o ≡ Some x)
only_if_some true o x e = (refl, e)
only_if_some false o x e = absurd (cc)

-- a content that is left passes the test
pub passing_some : (test : Content → Bool) (o : Option Content) (x : Content) → passing_only test o ≡ Some x
    → (o ≡ Some x) × (test x ≡ true)
passing_some test None x e = absurd (cc)
passing_some test (Some c) x e = by (test c) refl e
  where
    by : (b : Bool) → test c ≡ b → (if b then Some c else None) ≡ Some x → (Some c ≡ Some x) × (test x ≡ true)
    by true passed e = let same : c ≡ x = cc in (e, ap test (sym same) ∙ passed)
    by false passed e = absurd (cc)

-- which of two it is
pub which : {A : Type 0} (b : Bool) (one other : Option A) (x : A) → (if b then one else other) ≡ Some x
    → ((b ≡ true) × (one ≡ Some x)) ⊎ ((b ≡ false) × (other ≡ Some x))
which true one other x e = inl (refl, e)
which false one other x e = inr (refl, e)

-- numbers that are told apart differ
pub not_equal : (a b : ℕ) → (a == b) ≡ false → a ≢ b
not_equal a b e same = let is = eq-eqb a b same in absurd (cc)

-- the payload that is there where the test of it passes
same_is : (o : Option (List ℤ)) (payload : List ℤ) → is_same o payload ≡ true → o ≡ Some payload
same_is None payload e = absurd (cc)
same_is (Some other) payload e = ap (λ x. Some x) ((decide_payloads other payload).0 e)

-- more makers attest a payload than may lie
pub attests_by_makers : {S : Type 0} (scope : Scope S) (v : View) (p h k : ℕ) (payload : List ℤ) → HasSeats v
    → attested_payload scope v p h k ≡ Some payload
    → AtLeast (scope.t v.epoch p + 1) (IsAttested scope v p h k payload)
unfolding attested_payload
attests_by_makers scope v p h k payload seats e =
    attests_stand payload (with_own v.me (own_attest scope v p h k) (v.heard p h k)) (scope.t v.epoch p)
    (length-with_own v.me (own_attest scope v p h k) (v.heard p h k) ∙ seats.heard p h k) e

-- a content that is an input, or attested and next
pub next_by_makers : {S : Type 0} (scope : Scope S) (v : View) (h : ℕ) (content : Content) → HasSeats v
    → is_attested_next scope v h content ≡ true → IsNext scope v h content
next_by_makers scope v h (External payload) seats e = tt
next_by_makers scope v h (Message p k payload) seats e =
    let parts = both_true (scope.rules.linked p h)
    (k == next_number scope v p h && is_same (attested_payload scope v p h k) payload) e in
    let rest = both_true (k == next_number scope v p h) (is_same (attested_payload scope v p h k) payload) parts.1 in (
      parts.0,
      (Decides-eqb k (next_number scope v p h)).0 rest.0,
      attests_by_makers scope v p h k payload seats (same_is (attested_payload scope v p h k) payload rest.1),
    )

-- a content that is ordered is held, and is one of these
pub orders_by_makers : {S : Type 0} (scope : Scope S) (v : View) (h : ℕ) (content : Content) → HasSeats v
    → to_order scope v h ≡ Some content → ((v.desks h).held ≡ Some content) × IsNext scope v h content
unfolding to_order
orders_by_makers {S} scope v h content seats e =
    let rest = only_if_some (is_open scope v h && is_none (v.desks h).ordered) (passing_only test (v.desks h).held) content e in
    let found = passing_some test (v.desks h).held content rest.1 in
    let passed = both_true (is_attested_next scope v h content) (is_allowed scope v h content) found.1 in
    (found.0, next_by_makers scope v h content seats passed.0)
  where
    test : Content → Bool
    test c = is_attested_next scope v h c && is_allowed scope v h c

-- a quorum voted for a content that is logged
pub logs_by_makers : {S : Type 0} (scope : Scope S) (v : View) (h : ℕ) (content : Content) → HasSeats v
    → to_log scope v h ≡ Some content → AreQuorum scope v h (IsVoted v h content)
unfolding to_log
logs_by_makers scope v h content seats e =
    let q = quorum_at scope v.epoch h in
    let voted = delivered q (v.desks h).votes in
    let rest = only_if_some (is_open scope v h) (passing_only (fits scope v h) voted) content e in
    let found = passing_some (fits scope v h) voted content rest.1 in
    votes_stand content (v.desks h).votes q (seats.desks h).votes found.0

-- the makers that the host collected are a quorum
pub certified_by_makers : {S : Type 0} (scope : Scope S) (v : View) (h : ℕ) → HasSeats v
    → is_certified scope v h ≡ true
    → AreQuorum scope v h (IsCollected v h)
certified_by_makers scope v h seats e =
    (counts_kept (v.desks h).orders (quorum_at scope v.epoch h) (seats.desks h).orders).0
    (leb-true (quorum_at scope v.epoch h) (count_all (v.desks h).orders) e)

-- a content is ordered by a quorum at the host, and elsewhere by a certificate
pub ordered_by_makers : {S : Type 0} (scope : Scope S) (v : View) (h : ℕ) (content : Content) → HasSeats v
    → ordered_content scope v h ≡ Some content → IsOwnOrdered scope v h content ⊎ IsCounted v h content
unfolding ordered_content
ordered_by_makers scope v h content seats e =
    elim (which (v.me == h) (only_if (is_certified scope v h) (v.desks h).offered) (v.desks h).certified content e) [
      | inl own ↦
          let certified = only_if_some (is_certified scope v h) (v.desks h).offered content own.1 in
          inl (record {
            host = (Decides-eqb v.me h).0 own.0;
            offered = certified.1;
            makers = certified_by_makers scope v h seats certified.0;
          })
      | inr other ↦ inr (record { other = not_equal v.me h other.0; certified = other.1 })
    ]

-- a content that is delivered is ordered, or backed by more makers than may lie
pub delivers_by_makers : {S : Type 0} (scope : Scope S) (v : View) (h : ℕ) (content : Content) → HasSeats v
    → to_deliver scope v h ≡ Some content → IsDeliverable scope v h content
unfolding to_deliver
delivers_by_makers scope v h content seats e =
    let rest = only_if_some (is_open scope v h && is_none (v.desks h).delivered)
    (option_or (ordered_content scope v h) (backed (scope.t v.epoch h) (v.desks h).votes)) content e in
    elim (or_some (ordered_content scope v h) (backed (scope.t v.epoch h) (v.desks h).votes) content rest.1) [
      | inl ordered ↦ elim (ordered_by_makers scope v h content seats ordered) [ inl own ↦ inl own | inr counted ↦ inr (inl counted) ]
      | inr later ↦ inr (inr (votes_stand content (v.desks h).votes (scope.t v.epoch h + 1) (seats.desks h).votes later.1))
    ]

-- what is certified is the host's offer, and a quorum ordered it
pub certifies_by_makers : {S : Type 0} (scope : Scope S) (v : View) (h : ℕ) (content : Content) → HasSeats v
    → to_certify scope v h ≡ Some content → IsOwnOrdered scope v h content
unfolding to_certify
certifies_by_makers scope v h content seats e =
    let rest = only_if_some ((v.me == h && (is_live scope v h && not v.wedged))
    && (is_certified scope v h && nat_lt (v.desks h).sent (count_all (v.desks h).orders))) (v.desks h).offered content e in
    let parts = both_true (v.me == h && (is_live scope v h && not v.wedged))
    (is_certified scope v h && nat_lt (v.desks h).sent (count_all (v.desks h).orders)) rest.0 in
    record {
      host = (Decides-eqb v.me h).0 (both_true (v.me == h) (is_live scope v h && not v.wedged) parts.0).0;
      offered = rest.1;
      makers = certified_by_makers scope v h seats
          (both_true (is_certified scope v h) (nat_lt (v.desks h).sent (count_all (v.desks h).orders)) parts.1).0;
    }

-- a desk's certificate is an old one, or one for which the makers are enough
certificate_is : (q : ℕ) (content other : Content) (makers : List Tags) (desk : Desk)
    → (with_certificate q content makers desk).certified ≡ Some other
    → (desk.certified ≡ Some other) ⊎ ((other ≡ content) × (q ≤ orderers content makers desk))
unfolding with_certificate
certificate_is q content other makers desk e =
    by (nat_le q (orderers content makers desk)) (is_none desk.certified) refl e
  where
    by : (enough bare : Bool) → nat_le q (orderers content makers desk) ≡ enough
        → (if enough && bare then record desk { certified = Some content } else desk).certified ≡ Some other
        → (desk.certified ≡ Some other) ⊎ ((other ≡ content) × (q ≤ orderers content makers desk))
    by true true is e = inr (let same : content ≡ other = cc in sym same, leb-true q (orderers content makers desk) is)
    by true false is e = inl e
    by false bare is e = inl e

-- what an Order of another host's makes of its desk
order_noted : {S : Type 0} (scope : Scope S) (v : View) (e h slot : ℕ) (content : Content) (makers : List Tags) → v.me ≢ h
    → (noted_body scope e (body.Filled kind.Order h slot content) makers v).desks h
    ≡ with_certificate (quorum_at scope v.epoch h) content makers (v.desks h)
order_noted scope v e h slot content makers other =
    rw (ne_eqb v.me h other) (put_here v.desks h (with_certificate (quorum_at scope v.epoch h) content makers (v.desks h)))

-- the makers that a node accepts, as numbers
abbrev pub makers_in : List Tags → List ℕ
makers_in makers = map (λ m. m.maker) makers

-- makers that rise are different
rising_differ : (makers : List Tags) → AllPairs (λ a b. a.maker < b.maker) makers
    → AllPairs (λ x y. x ≢ y) (makers_in makers)
rising_differ [] all = λ i j d lt within. absurd (omega (arith, within))
rising_differ (m ∷ makers) all =
    AllPairs-cons (λ x y. x ≢ y) m.maker (makers_in makers)
    (All-map (λ y. m.maker ≢ y) (λ t. t.maker) makers
    (λ k d within e.
    let lt = all 0 (suc k) d (omega arith) (omega (arith, within)) in absurd (omega (arith, lt, e))))
    (rising_differ makers (λ i j d lt within. all (suc i) (suc j) d (omega (arith, lt)) (omega (arith, within))))

-- what a node knows of a maker that it accepts of an Order
record IsAcceptable {S : Type 0} (scope : Scope S) (e h me : ℕ) (tags : Tags) : Type 0 where
  other : tags.maker ≢ me
  guard : scope.guards e h tags.maker ≡ true

-- so a maker of an Order that it accepts is
accepted_is : {S : Type 0} (scope : Scope S) (e h slot me : ℕ) (content : Content) (statement : Statement) (tags : Tags)
    → statement.body ≡ body.Filled kind.Order h slot content → accepts scope e me statement tags ≡ true
    → IsAcceptable scope e h me tags
unfolding accepts
accepted_is scope e h slot me content statement tags says ok =
    let parts = both_true (not (tags.maker == me)) (permits scope e statement.body tags.maker && verifies scope me statement tags) ok in
    let more = both_true (permits scope e statement.body tags.maker) (verifies scope me statement tags) parts.1 in
    record {
      other = not_equal tags.maker me (not_true (tags.maker == me) parts.0);
      guard = ap (λ b. permits scope e b tags.maker) (sym says) ∙ more.0;
    }
  where
    not_true : (b : Bool) → not b ≡ true → b ≡ false
    not_true true e = absurd (cc)
    not_true false e = refl

-- the makers that a node accepts of an Order are different hosts, and not the node
record AreAccepted (me : ℕ) (makers : List ℕ) : Type 0 where
  different : AreDifferent makers
  others : All (λ m. me ≢ m) makers

-- so they all are
accepted_are : {S : Type 0} (scope : Scope S) (v : View) (r : Record) (h slot : ℕ) (content : Content)
    → IsOrderOf scope v r h slot content
    → AreAccepted v.me (makers_in (accepted scope r.statement.epoch v.me r))
unfolding accepted
accepted_are {S} scope v r h slot content order = record {
  different = record {
    distinct = rising_differ makers (AllPairs-filter (λ a b. a.maker < b.maker) test r.makers order.rule.rising);
    hosts =
        All-map (λ m. m < 32) (λ t. t.maker) makers
        (All-weaker Fact (λ t. t.maker < 32) (λ t f. order.hosts t.maker f.guard) makers facts);
  };
  others =
      All-map (λ m. v.me ≢ m) (λ t. t.maker) makers
      (All-weaker Fact (λ t. v.me ≢ t.maker) (λ t f e. f.other (sym e)) makers facts);
}
  where
    test : Tags → Bool
    test = accepts scope r.statement.epoch v.me r.statement

    makers : List Tags
    makers = filter test r.makers

    Fact : Tags → Type 0
    Fact = IsAcceptable scope r.statement.epoch h v.me

    facts : All Fact makers
    facts =
        All-weaker (λ t. test t ≡ true) Fact
        (λ t ok. accepted_is scope r.statement.epoch h slot v.me content r.statement t order.says ok) makers
        (filter_passes test r.makers)

-- those that a node accepts are shown
shown : {S : Type 0} (scope : Scope S) (v : View) (r : Record)
    → All (IsShown scope v r) (makers_in (accepted scope r.statement.epoch v.me r))
shown scope v r =
    All-map (IsShown scope v r) (λ t. t.maker) (accepted scope r.statement.epoch v.me r)
    (All-weaker (Contains (accepted scope r.statement.epoch v.me r)) (λ t. IsShown scope v r t.maker)
    (λ t among. record { tags = t; among = among; maker_is = refl }) (accepted scope r.statement.epoch v.me r)
    (All-contains_itself (accepted scope r.statement.epoch v.me r)))

-- a content is there where the test of it passes
content_is : (o : Option Content) (content : Content) → is_content o content ≡ true → o ≡ Some content
content_is None content e = absurd (cc)
content_is (Some c) content e = ap (λ x. Some x) ((decide_contents c content).0 e)

-- the accepted makers and the node itself are so many different makers
orderers_differ : {S : Type 0} (scope : Scope S) (v : View) (r : Record) (h slot : ℕ) (content : Content)
    → IsOrderOf scope v r h slot content
    → AtLeast (orderers content (accepted scope r.statement.epoch v.me r) (v.desks h)) (IsShownToOrder scope v h content r)
orderers_differ {S} scope v r h slot content order = by (is_content (v.desks h).ordered content) refl
  where
    makers : List Tags
    makers = accepted scope r.statement.epoch v.me r

    Shown : ℕ → Type 0
    Shown = IsShownToOrder scope v h content r

    all : All Shown (makers_in makers)
    all = All-weaker (IsShown scope v r) Shown (λ m s. inl s) (makers_in makers) (shown scope v r)

    are : AreAccepted v.me (makers_in makers)
    are = accepted_are scope v r h slot content order

    by : (b : Bool) → is_content (v.desks h).ordered content ≡ b
        → AtLeast (length makers + (if b then 1 else 0)) Shown
    by true ordered =
        AtLeast-fewer (length (v.me ∷ makers_in makers)) (length makers + 1) Shown
        (let same = length-map makers (λ (m : Tags). m.maker) in omega (arith, same))
        (AtLeast-from_list Shown (v.me ∷ makers_in makers)
        (record {
          distinct = AllPairs-cons (λ x y. x ≢ y) v.me (makers_in makers) are.others are.different.distinct;
          hosts = All-cons (λ m. m < 32) v.me (makers_in makers) order.host are.different.hosts;
        })
        (All-cons Shown v.me (makers_in makers) (inr (refl, content_is (v.desks h).ordered content ordered)) all))
    by false ordered =
        AtLeast-fewer (length (makers_in makers)) (length makers + 0) Shown
        (let same = length-map makers (λ (m : Tags). m.maker) in omega (arith, same))
        (AtLeast-from_list Shown (makers_in makers) are.different all)

-- a certificate that a node counts shows a quorum
pub counts_by_makers : {S : Type 0} (scope : Scope S) (v : View) (r : Record) (h slot : ℕ) (content other : Content)
    → IsOrderOf scope v r h slot content → ((noted scope v r).desks h).certified ≡ Some other
    → ((v.desks h).certified ≡ Some other) ⊎ ((other ≡ content) × AreQuorum scope v h (IsShownToOrder scope v h content r))
unfolding noted
counts_by_makers {S} scope v r h slot content other order e =
    elim (certificate_is (quorum_at scope v.epoch h) content other makers (v.desks h) (ap (λ d. d.certified) (sym desk_is) ∙ e)) [
      | inl old ↦ inl old
      | inr new ↦ inr (
        new.0,
        AtLeast-fewer (orderers content makers (v.desks h)) (quorum_at scope v.epoch h)
            (IsShownToOrder scope v h content r) new.1 (orderers_differ scope v r h slot content order),
      )
    ]
  where
    makers : List Tags
    makers = accepted scope r.statement.epoch v.me r

    desk_is : (noted_body scope r.statement.epoch r.statement.body makers v).desks h
        ≡ with_certificate (quorum_at scope v.epoch h) content makers (v.desks h)
    desk_is =
        ap (λ b. (noted_body scope r.statement.epoch b makers v).desks h) order.says
        ∙ order_noted scope v r.statement.epoch h slot content makers order.other

-- the law
pub read_as_makers : {S : Type 0} (scope : Scope S) → ReadAsMakers scope
read_as_makers scope = record {
  orders = orders_by_makers scope;
  logs = logs_by_makers scope;
  delivers = delivers_by_makers scope;
  certifies = certifies_by_makers scope;
  attests = attests_by_makers scope;
  counts = counts_by_makers scope;
}

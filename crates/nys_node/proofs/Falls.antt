-- Each rule that a node takes lowers what it may still do.
use Rattle.std.proofs.Common.{◌≡◌, ◌≢◌, ℕ, ◌+◌, ◌<◌, ◌≤◌, ◌==◌, ◌&&◌, ◌++◌, Bool, true, false, not, cond, nat_lt, ltb-true, List, [], ◌∷◌, length, length-append, refl, ap, sym, subst, ◌∙◌, inl, inr, arith}
use Rattle.std.proofs.lemmas.Bool.{cases_eq}
use Rattle.std.proofs.lemmas.List.{length-set}
use Rattle.std.proofs.lemmas.List.Sums.{count_by-le-length}
use Rattle.std.proofs.lemmas.Option.{slice_get-get_or}
use Rattle.std.specs.Option.{option_or}
use Rattle.std.specs.Prelude.{is_none, Option, Some, None, slice_index_or, slice_set}
use Rattle.nys_agreement.proofs.TableLemmas.{put_at_case, put_here, put_there}
use Rattle.nys_attest.specs.Ranges.{link_at}
use Rattle.nys_bytes.specs.declared.content.Content.{Content}
use Rattle.nys_node.proofs.Says.{attest_next}
use Rattle.nys_node.proofs.SoundRanges.{attest_range, log_due, offer_due, open_room}
use Rattle.nys_node.proofs.Totals.{total_less, total_same, total_within}
use Rattle.nys_node.specs.Means.{IsReplicaOf, Means}
use Rattle.nys_node.specs.Sound.{IsScope, IsSound}
use Rattle.nys_node.specs.Weight.{desk_weight, link_weight, links_from_weight, links_weight, node_weight, none_yet, replica_length, seat_weight, seats_weight, weight}
use Rattle.nys_node.specs.declared.node.Node.{Node}
use Rattle.nys_replica.specs.declared.replica.Replica.{Replica}
use Rattle.nys_rules.proofs.CertificateLemmas.{both_true, only_if_some}
use Rattle.nys_rules.specs.declared.kept.Attested.{Attested}
use Rattle.nys_rules.specs.declared.rule.Rule.{Rule}
use Rattle.nys_rules.specs.declared.rule.Rule.TheVariants.{Offer, Order, Certificate, Deliver, Log, Attest}
use Rattle.nys_rules.specs.Heads.{with_heads}
use Rattle.nys_rules.specs.Logging.{logged, with_entry}
use Rattle.nys_rules.specs.Noting.{is_content}
use Rattle.nys_rules.specs.Rules.{Enabled, is_certified, to_certify, to_deliver, to_order}
use Rattle.nys_rules.specs.Scope.{Scope}
use Rattle.nys_rules.specs.Settling.{IsAmongHosts}
use Rattle.nys_rules.specs.Taking.{one_more, taken, with_deliver, with_kept, with_offer, with_order, with_sent}
use Rattle.nys_rules.specs.View.{attested_from, Desk, empty_desk, is_live, is_open, length_of, View, with_links}
use Rattle.nys_source.specs.Rules.{Rules}
use Rattle.nys_source.specs.Tables.{put, put_at}
use Rattle.nys_votes.specs.Seats.{count_all, count_seats, is_seated, passes, with_seat}

-- one host weighs less, and the others not more
seats_fall : (lengths lately : ℕ → ℕ) (desks later : ℕ → Desk) (h : ℕ) → h < 32 → seat_weight (lately h) (later h) < seat_weight (lengths h) (desks h)
    → ((x : ℕ) → x ≢ h → seat_weight (lately x) (later x) ≤ seat_weight (lengths x) (desks x)) → seats_weight lately later < seats_weight lengths desks
unfolding seats_weight
seats_fall lengths lately desks later h below less others =
    total_less 32 (λ x. seat_weight (lately x) (later x)) (λ x. seat_weight (lengths x) (desks x)) h below less each
  where
    each : (x : ℕ) → x < 32 → seat_weight (lately x) (later x) ≤ seat_weight (lengths x) (desks x)
    each x under = elim (cases_eq x h) [
      | inl e ↦ subst (λ y. seat_weight (lately y) (later y) ≤ seat_weight (lengths y) (desks y)) (sym e) (omega (arith, less))
      | inr ne ↦ others x ne
    ]

-- one desk weighs less, and nothing else changed
desk_falls : (lengths : ℕ → ℕ) (desks : ℕ → Desk) (h : ℕ) (new : Desk) → h < 32 → desk_weight new < desk_weight (desks h)
    → seats_weight lengths (put desks h new) < seats_weight lengths desks
desk_falls lengths desks h new below less =
    seats_fall lengths lengths desks (put desks h new) h below
    (subst (λ desk. seat_weight (lengths h) desk < seat_weight (lengths h) (desks h)) (sym (put_here desks h new)) (omega (arith, less)))
    (λ x ne. subst (λ desk. seat_weight (lengths x) desk ≤ seat_weight (lengths x) (desks x)) (sym (put_there desks h new x ne)) (omega arith))

-- no link weighs more
links_within : (old new : ℕ → ℕ → Option Attested) → ((p h : ℕ) → link_weight (new p h) ≤ link_weight (old p h)) → links_weight new ≤ links_weight old
unfolding links_weight links_from_weight
links_within old new within =
    total_within 32 (λ p. links_from_weight (new p)) (λ p. links_from_weight (old p))
    (λ p below. total_within 32 (λ h. link_weight (new p h)) (λ h. link_weight (old p h)) (λ h under. within p h))

-- one link weighs less, and no other more
links_fall : (old new : ℕ → ℕ → Option Attested) (p h : ℕ) → p < 32 → h < 32 → link_weight (new p h) < link_weight (old p h)
    → ((q g : ℕ) → link_weight (new q g) ≤ link_weight (old q g)) → links_weight new < links_weight old
unfolding links_weight links_from_weight
links_fall old new p h sender host less within =
    total_less 32 (λ q. links_from_weight (new q)) (λ q. links_from_weight (old q)) p sender
    (total_less 32 (λ g. link_weight (new p g)) (λ g. link_weight (old p g)) h host less (λ g under. within p g))
    (λ q below. total_within 32 (λ g. link_weight (new q g)) (λ g. link_weight (old q g)) (λ g under. within q g))

-- where there is nothing yet one is to be said
nothing_yet : {A : Type 0} (o : Option A) → is_none o ≡ true → none_yet o ≡ 1
nothing_yet None e = refl
nothing_yet (Some x) e = absurd (cc)

-- an Offer is said
offer_less : (content : Content) (desk : Desk) → desk.offered ≡ None → desk_weight (with_offer content desk) < desk_weight desk
unfolding with_offer
offer_less content desk none = let one : none_yet desk.offered ≡ 1 = ap none_yet none in omega (arith, one)

-- a seat is taken, and there are as many as before
seat_size : {A : Type 0} (m : ℕ) (x : A) (seats : List (Option A)) → length (with_seat m x seats) ≡ length seats
unfolding with_seat
seat_size m x seats = by (is_seated seats m)
  where
    by : (b : Bool) → length (cond b seats (slice_set seats m (Some x))) ≡ length seats
    by true = refl
    by false = length-set seats m (Some x)

-- an Order is said
order_less : (at_host : Bool) (me : ℕ) (content : Content) (tags : List (ℕ × List ℕ)) (desk : Desk) → is_none desk.ordered ≡ true
    → desk_weight (with_order at_host me content tags desk) < desk_weight desk
unfolding with_order
order_less at_host me content tags desk none =
    let one : none_yet desk.ordered ≡ 1 = nothing_yet desk.ordered none in
    omega (arith, one, by (at_host && is_content desk.offered content))
  where
    by : (b : Bool) → length (cond b (with_seat me tags desk.orders) desk.orders) ≡ length desk.orders
    by true = seat_size me tags desk.orders
    by false = refl

-- there are no more makers than seats
count_le : {A : Type 0} (seats : List (Option A)) → count_all seats ≤ length seats
unfolding count_seats
count_le seats = count_by-le-length (passes (λ _. true)) seats

-- a larger certificate is sent
sent_less : (desk : Desk) → desk.sent < count_all desk.orders → desk_weight (with_sent desk) < desk_weight desk
unfolding with_sent
sent_less desk more = let few : count_all desk.orders ≤ length desk.orders = count_le desk.orders in omega (arith, more, few)

-- a Deliver is said
deliver_less : (me : ℕ) (content : Content) (tags : List (ℕ × List ℕ)) (desk : Desk) → is_none desk.delivered ≡ true
    → desk_weight (with_deliver me content tags desk) < desk_weight desk
unfolding with_deliver
deliver_less me content tags desk none = let one : none_yet desk.delivered ≡ 1 = nothing_yet desk.delivered none in omega (arith, one)

-- no Order was made where one is due
order_new : {S : Type 0} (scope : Scope S) (v : View) (h : ℕ) (content : Content) → to_order scope v h ≡ Some content → is_none (v.desks h).ordered ≡ true
unfolding to_order
order_new scope v h content e =
    let due = only_if_some (is_open scope v h && is_none (v.desks h).ordered) _ content e in
    (both_true (is_open scope v h) (is_none (v.desks h).ordered) due.0).1

-- fewer makers were sent than are collected where a certificate is due
certificate_new : {S : Type 0} (scope : Scope S) (v : View) (h : ℕ) (content : Content) → to_certify scope v h ≡ Some content
    → (v.desks h).sent < count_all (v.desks h).orders
unfolding to_certify
certificate_new scope v h content e =
    let due = only_if_some ((v.me == h && (is_live scope v h && not v.wedged))
    && (is_certified scope v h && nat_lt (v.desks h).sent (count_all (v.desks h).orders))) (v.desks h).offered content e in
    let parts = both_true (v.me == h && (is_live scope v h && not v.wedged))
    (is_certified scope v h && nat_lt (v.desks h).sent (count_all (v.desks h).orders)) due.0 in
    ltb-true (v.desks h).sent (count_all (v.desks h).orders)
    (both_true (is_certified scope v h) (nat_lt (v.desks h).sent (count_all (v.desks h).orders)) parts.1).1

-- no Deliver was made where one is due
deliver_new : {S : Type 0} (scope : Scope S) (v : View) (h : ℕ) (content : Content) → to_deliver scope v h ≡ Some content → is_none (v.desks h).delivered ≡ true
unfolding to_deliver
deliver_new scope v h content e =
    let due = only_if_some (is_open scope v h && is_none (v.desks h).delivered) _ content e in
    (both_true (is_open scope v h) (is_none (v.desks h).delivered) due.0).1

-- a desk changes so that it weighs less
at_desk_falls : (v : View) (h : ℕ) (new : Desk) → h < 32 → desk_weight new < desk_weight (v.desks h) → weight (record v { desks = put v.desks h new }) < weight v
unfolding weight
at_desk_falls v h new below less =
    let seats : seats_weight (length_of v) (put v.desks h new) < seats_weight (length_of v) v.desks = desk_falls (length_of v) v.desks h new below less in
    omega (arith, seats)

-- the same where the node voted besides
voted_falls : (v : View) (h n : ℕ) (new : Desk) → h < 32 → desk_weight new < desk_weight (v.desks h)
    → weight (record v { voted_to = put v.voted_to h n; desks = put v.desks h new }) < weight v
unfolding weight
voted_falls v h n new below less =
    let seats : seats_weight (length_of v) (put v.desks h new) < seats_weight (length_of v) v.desks = desk_falls (length_of v) v.desks h new below less in
    omega (arith, seats)

-- a link that begins weighs no more
begun_within : (a b : Option Attested) → link_weight (option_or a b) ≤ link_weight a
begun_within (Some range) b = omega arith
begun_within None None = omega arith
begun_within None (Some range) = omega arith

-- a log has one entry more, and its desk is empty
log_falls : {S : Type 0} (scope : Scope S) (v : View) (h : ℕ) (content : Content) → h < 32 → length_of v h ≤ 1023 → weight (logged scope h content v) < weight v
unfolding weight logged with_heads with_links
log_falls scope v h content below room =
    let more = v.logs h ++ content ∷ [] in
    let longer : length (put v.logs h more h) ≡ length (v.logs h) + 1 = ap length (put_here v.logs h more) ∙ length-append (v.logs h) (content ∷ []) in
    let empty : desk_weight (put v.desks h empty_desk h) ≡ 35 = ap desk_weight (put_here v.desks h empty_desk) in
    let seats : seats_weight (λ x. length (put v.logs h more x)) (put v.desks h empty_desk) < seats_weight (length_of v) v.desks =
    seats_fall (length_of v) (λ x. length (put v.logs h more x)) v.desks (put v.desks h empty_desk) h below
    (omega (arith, longer, empty, room))
    (λ x ne. omega (arith, ap length (put_there v.logs h more x ne), ap desk_weight (put_there v.desks h empty_desk x ne))) in
    let links : links_weight (λ p g. option_or (v.attested p g) (attested_from scope (with_entry h content v) p g)) ≤ links_weight v.attested =
    links_within v.attested (λ p g. option_or (v.attested p g) (attested_from scope (with_entry h content v) p g))
    (λ p g. begun_within (v.attested p g) (attested_from scope (with_entry h content v) p g)) in
    omega (arith, seats, links)

-- the same once the votes are kept
kept_falls : {S : Type 0} (scope : Scope S) (v : View) (h : ℕ) (content : Content) → h < 32 → length_of v h ≤ 1023
    → weight (logged scope h content (with_kept h content v)) < weight v
unfolding weight
kept_falls scope v h content below room = log_falls scope (with_kept h content v) h content below room

-- a range with one number more weighs no more
more_within : (o : Option Attested) → link_weight (one_more o) ≤ link_weight o
more_within None = omega arith
more_within (Some range) = omega arith

-- it weighs less, where its numbers are in range
more_less : (o : Option Attested) (range : Attested) → o ≡ Some range → range.next ≤ 65535 → link_weight (one_more o) < link_weight o
more_less None range e few = absurd (cc)
more_less (Some other) range e few = let same : other ≡ range = cc in subst (λ r. link_weight (one_more (Some r)) < link_weight (Some r)) (sym same) (omega (arith, few))

-- one link has one number more
attest_falls : (attested : ℕ → ℕ → Option Attested) (p h : ℕ) (range : Attested) → p < 32 → h < 32 → attested p h ≡ Some range → range.next ≤ 65535
    → links_weight (put_at attested p h (one_more (attested p h))) < links_weight attested
attest_falls attested p h range sender host is few =
    links_fall attested (put_at attested p h (one_more (attested p h))) p h sender host
    (subst (λ o. link_weight o < link_weight (attested p h)) (sym here) (more_less (attested p h) range is few)) each
  where
    here : put_at attested p h (one_more (attested p h)) p h ≡ one_more (attested p h)
    here = ap (λ f. f h) (put_here attested p (put (attested p) h (one_more (attested p h)))) ∙ put_here (attested p) h (one_more (attested p h))

    each : (q g : ℕ) → link_weight (put_at attested p h (one_more (attested p h)) q g) ≤ link_weight (attested q g)
    each q g = put_at_case (λ o. link_weight o ≤ link_weight (attested q g)) attested p h (one_more (attested p h)) q g
        (λ sender_is host_is. subst (λ x. link_weight (one_more (attested p h)) ≤ link_weight (attested x g)) (sym sender_is)
        (subst (λ y. link_weight (one_more (attested p h)) ≤ link_weight (attested p y)) (sym host_is) (more_within (attested p h))))
        (λ other. omega arith)

-- the same once heads are recorded
headed_falls : {S : Type 0} (scope : Scope S) (v : View) (p h : ℕ) → links_weight (put_at v.attested p h (one_more (v.attested p h))) < links_weight v.attested
    → weight (with_heads scope h (record v { attested = put_at v.attested p h (one_more (v.attested p h)) })) < weight v
unfolding weight with_heads
headed_falls scope v p h less = omega (arith, less)

-- a rule that is taken lowers the weight
pub falls : {S : Type 0} (scope : Scope S) → IsScope scope → (v : View) → IsSound scope v → v.epoch < scope.epochs → (rule : Rule) → IsAmongHosts rule
    → Enabled scope v rule → weight (taken scope v rule) < weight v
falls scope is v sound within (Offer h content) low e =
    at_desk_falls v h (with_offer content (v.desks h)) low (offer_less content (v.desks h) (offer_due scope v h content e).2)
falls scope is v sound within (Order h content) low e =
    at_desk_falls v h _ low (order_less (v.me == h) v.me content _ (v.desks h) (order_new scope v h content e))
falls scope is v sound within (Certificate h content) low e =
    at_desk_falls v h (with_sent (v.desks h)) low (sent_less (v.desks h) (certificate_new scope v h content e))
falls scope is v sound within (Deliver h content) low e =
    voted_falls v h _ _ low (deliver_less v.me content _ (v.desks h) (deliver_new scope v h content e))
falls scope is v sound within (Log h content) low e =
    kept_falls scope v h content low (open_room scope v h (log_due scope v h content e).0).1
falls scope is v sound within (Attest p h k payload) low e =
    let next = attest_next scope v p h k payload e in
    let few : k ≤ 65535 = (attest_range scope is v sound within p h k payload e).body.2 in
    headed_falls scope v p h (attest_falls v.attested p h next.0 low.0 low.1 next.1 (omega (arith, next.2, few)))

-- the replica has the entries of the log
replica_size : {P S : Type 0} (rules : Rules S) (h : ℕ) (o : Option (Replica P S)) (log : List Content) (kept : ℕ) (known : Bool) → IsReplicaOf rules h o log kept known
    → replica_length o ≡ length log
replica_size rules h None log kept known is = sym (ap length is.0)
replica_size rules h (Some replica) log kept known is = is.0.count

-- seats that are the same weigh the same
seats_same : (lengths lately : ℕ → ℕ) (desks later : ℕ → Desk) → ((h : ℕ) → h < 32 → seat_weight (lengths h) (desks h) ≡ seat_weight (lately h) (later h))
    → seats_weight lengths desks ≡ seats_weight lately later
unfolding seats_weight
seats_same lengths lately desks later same = total_same 32 (λ h. seat_weight (lengths h) (desks h)) (λ h. seat_weight (lately h) (later h)) same

-- links that are the same weigh the same
links_same : (old new : ℕ → ℕ → Option Attested) → ((p h : ℕ) → p < 32 → h < 32 → old p h ≡ new p h) → links_weight old ≡ links_weight new
unfolding links_weight links_from_weight
links_same old new same =
    total_same 32 (λ p. links_from_weight (old p)) (λ p. links_from_weight (new p))
    (λ p below. total_same 32 (λ h. link_weight (old p h)) (λ h. link_weight (new p h)) (λ h under. ap link_weight (same p h below under)))

-- a node weighs what each view does that it means
pub node_is : {P S : Type 0} (scope : Scope S) (node : Node P S) (v : View) → Means scope node v → node_weight node ≡ weight v
unfolding node_weight weight
node_is {P} {S} scope node v m =
    ap (λ n. n + links_weight (link_at node.links)) (seats_same lengths (length_of v) desks v.desks seat)
    ∙ ap (λ n. seats_weight (length_of v) v.desks + n) (links_same (link_at node.links) v.attested m.links)
  where
    lengths : ℕ → ℕ
    lengths h = replica_length (slice_index_or node.replicas.items h None)

    desks : ℕ → Desk
    desks h = slice_index_or node.desks.items h empty_desk

    seat : (h : ℕ) → h < 32 → seat_weight (lengths h) (desks h) ≡ seat_weight (length_of v h) (v.desks h)
    seat h below =
        let row = slice_get-get_or node.replicas.items h None (subst (λ n. h < n) (sym m.rows) below) in
        let desk = slice_get-get_or node.desks.items h empty_desk (subst (λ n. h < n) (sym m.desks.size) below) in
        ap (λ n. seat_weight n (desks h)) (replica_size scope.rules h _ (v.logs h) (v.kept_from h) (v.known h) (m.replicas h _ row))
        ∙ ap (seat_weight (length_of v h)) (m.desks.each h _ desk)

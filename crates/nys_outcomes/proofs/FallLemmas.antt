-- Each rule that a node takes lowers what it may still do.
use Rattle.std.proofs.Common.{◌≡◌, ℕ, zero, suc, ◌+◌, ◌<◌, ◌≤◌, ◌⊎◌, ◌==◌, ◌&&◌, ◌++◌, Bool, true, false, not, cond, nat_lt, ltb-true, ℤ, List, [], ◌∷◌, length, length-append, refl, ap, sym, subst, ◌∙◌, inl, inr, arith}
use Rattle.std.proofs.Math.Nat.{eq-or-lt_of_le}
use Rattle.std.proofs.lemmas.Bool.{cases_eq}
use Rattle.std.proofs.lemmas.List.{length-set}
use Rattle.std.proofs.lemmas.List.Sums.{count_by-le-length}
use Rattle.std.specs.Option.{option_or}
use Rattle.std.specs.Prelude.{is_none, Option, Some, None, option_map, slice_get, slice_set}
use Rattle.nys_agreement.proofs.TableLemmas.{put_at_case, put_case, put_here, put_there}
use Rattle.nys_agreement.specs.Alone.{alone}
use Rattle.nys_bytes.specs.declared.content.Content.{Content}
use Rattle.nys_rules.proofs.CertificateLemmas.{both_true, only_if_some}
use Rattle.nys_rules.specs.declared.kept.Attested.{Attested}
use Rattle.nys_rules.specs.declared.rule.Rule.{Rule}
use Rattle.nys_rules.specs.declared.rule.Rule.TheVariants.{Offer, Order, Certificate, Deliver, Log, Attest}
use Rattle.nys_rules.specs.Heads.{candidate, with_heads}
use Rattle.nys_rules.specs.Logging.{logged, with_entry}
use Rattle.nys_rules.specs.Noting.{is_content}
use Rattle.nys_rules.specs.Rules.{Enabled, is_certified, to_attest, to_certify, to_deliver, to_log, to_offer, to_order, unattested}
use Rattle.nys_rules.specs.Scope.{Scope}
use Rattle.nys_rules.specs.Settling.{IsAmongHosts}
use Rattle.nys_rules.specs.Taking.{one_more, taken, with_deliver, with_kept, with_offer, with_order, with_sent}
use Rattle.nys_rules.specs.View.{attested_from, Desk, empty_desk, has_reached, is_attesting, is_live, is_open, length_of, sent_to, View, with_links}
use Rattle.nys_source.specs.Tables.{put, put_at}
use Rattle.nys_votes.specs.Seats.{count_all, count_seats, is_seated, passes, with_seat}
use Rattle.nys_outcomes.specs.Outcomes.{HasFewEffects}
use Rattle.nys_outcomes.specs.Weight.{attested_to, desk_weight, hosts_weight, link_weight, links_from_weight, links_weight, none_yet, slots_weight, total, weight}
use Rattle.nys_outcomes.proofs.SentLemmas.{entry_short}

-- ---- sums

-- where none is more the sum isn't
pub total_within : (n : ℕ) (f g : ℕ → ℕ) → ((x : ℕ) → x < n → f x ≤ g x) → total n f ≤ total n g
total_within zero f g within = omega arith
total_within (suc n) f g within =
    omega (arith, total_within n f g (λ x below. within x (omega (arith, below))), within n (omega arith))

-- where one is less besides, the sum is
pub total_less : (n : ℕ) (f g : ℕ → ℕ) (h : ℕ) → h < n → f h < g h → ((x : ℕ) → x < n → f x ≤ g x) → total n f < total n g
total_less zero f g h below less within = absurd (omega (arith, below))
total_less (suc n) f g h below less within =
    let up : h ≤ n = omega (arith, below) in
    by (eq-or-lt_of_le up) (λ before. total_less n f g h before less rest)
  where
    rest : (x : ℕ) → x < n → f x ≤ g x
    rest x under = within x (omega (arith, under))

    by : (h ≡ n) ⊎ (h < n) → (h < n → total n f < total n g) → total (suc n) f < total (suc n) g
    by (inl last) so = omega (arith, total_within n f g rest, subst (λ x. f x < g x) last less)
    by (inr before) so = omega (arith, so before, within n (omega arith))

-- ---- one desk

-- where there is nothing yet one is to be said
nothing_yet : {A : Type 0} (o : Option A) → is_none o ≡ true → none_yet o ≡ 1
nothing_yet None e = refl
nothing_yet (Some x) e = absurd (cc)

-- an Offer is said
offer_less : (content : Content) (desk : Desk) → is_none desk.offered ≡ true → desk_weight (with_offer content desk) < desk_weight desk
unfolding with_offer
offer_less content desk none = let one : none_yet desk.offered ≡ 1 = nothing_yet desk.offered none in omega (arith, one)

-- a seat is taken, and there are as many as before
seat_size : {A : Type 0} (m : ℕ) (x : A) (seats : List (Option A)) → length (with_seat m x seats) ≡ length seats
unfolding with_seat
seat_size m x seats = by (is_seated seats m)
  where
    by : (b : Bool) → length (cond b seats (slice_set seats m (Some x))) ≡ length seats
    by true = refl
    by false = length-set seats m (Some x)

-- an Order is said
order_less : (at_host : Bool) (me : ℕ) (content : Content) (tags : List (ℕ × List ℕ)) (desk : Desk) → is_none desk.ordered ≡ true
    → desk_weight (with_order at_host me content tags desk) < desk_weight desk
unfolding with_order
order_less at_host me content tags desk none =
    let one : none_yet desk.ordered ≡ 1 = nothing_yet desk.ordered none in
    omega (arith, one, by (at_host && is_content desk.offered content))
  where
    by : (b : Bool) → length (cond b (with_seat me tags desk.orders) desk.orders) ≡ length desk.orders
    by true = seat_size me tags desk.orders
    by false = refl

-- there are no more makers than seats
count_le : {A : Type 0} (seats : List (Option A)) → count_all seats ≤ length seats
unfolding count_seats
count_le seats = count_by-le-length (passes (λ _. true)) seats

-- a larger certificate is sent
sent_less : (desk : Desk) → desk.sent < count_all desk.orders → desk_weight (with_sent desk) < desk_weight desk
unfolding with_sent
sent_less desk more = let few : count_all desk.orders ≤ length desk.orders = count_le desk.orders in omega (arith, more, few)

-- a Deliver is said
deliver_less : (me : ℕ) (content : Content) (tags : List (ℕ × List ℕ)) (desk : Desk) → is_none desk.delivered ≡ true
    → desk_weight (with_deliver me content tags desk) < desk_weight desk
unfolding with_deliver
deliver_less me content tags desk none = let one : none_yet desk.delivered ≡ 1 = nothing_yet desk.delivered none in omega (arith, one)

-- ---- what is known where a rule is enabled

-- no Offer was made
offer_new : {S : Type 0} (scope : Scope S) (v : View) (h : ℕ) (content : Content) → to_offer scope v h ≡ Some content
    → is_none (v.desks h).offered ≡ true
unfolding to_offer
offer_new scope v h content e =
    let due = only_if_some (v.me == h && (is_open scope v h && is_none (v.desks h).offered)) (candidate scope v h) content e in
    let own = both_true (v.me == h) (is_open scope v h && is_none (v.desks h).offered) due.0 in
    (both_true (is_open scope v h) (is_none (v.desks h).offered) own.1).1

-- no Order was made
order_new : {S : Type 0} (scope : Scope S) (v : View) (h : ℕ) (content : Content) → to_order scope v h ≡ Some content
    → is_none (v.desks h).ordered ≡ true
unfolding to_order
order_new scope v h content e =
    let due = only_if_some (is_open scope v h && is_none (v.desks h).ordered) _ content e in
    (both_true (is_open scope v h) (is_none (v.desks h).ordered) due.0).1

-- fewer makers were sent than are collected
certificate_new : {S : Type 0} (scope : Scope S) (v : View) (h : ℕ) (content : Content) → to_certify scope v h ≡ Some content
    → (v.desks h).sent < count_all (v.desks h).orders
unfolding to_certify
certificate_new scope v h content e =
    let due = only_if_some ((v.me == h && (is_live scope v h && not v.wedged))
    && (is_certified scope v h && nat_lt (v.desks h).sent (count_all (v.desks h).orders))) (v.desks h).offered content e in
    let parts = both_true (v.me == h && (is_live scope v h && not v.wedged))
    (is_certified scope v h && nat_lt (v.desks h).sent (count_all (v.desks h).orders)) due.0 in
    ltb-true (v.desks h).sent (count_all (v.desks h).orders)
    (both_true (is_certified scope v h) (nat_lt (v.desks h).sent (count_all (v.desks h).orders)) parts.1).1

-- no Deliver was made
deliver_new : {S : Type 0} (scope : Scope S) (v : View) (h : ℕ) (content : Content) → to_deliver scope v h ≡ Some content
    → is_none (v.desks h).delivered ≡ true
unfolding to_deliver
deliver_new scope v h content e =
    let due = only_if_some (is_open scope v h && is_none (v.desks h).delivered) _ content e in
    (both_true (is_open scope v h) (is_none (v.desks h).delivered) due.0).1

-- the log has room, and is that of a host
record HasRoom {S : Type 0} (scope : Scope S) (v : View) (h : ℕ) : Type 0 where
  host : h < scope.rules.hosts
  room : length_of v h < 1024

-- so it is where a slot is open
open_room : {S : Type 0} (scope : Scope S) (v : View) (h : ℕ) → is_open scope v h ≡ true → HasRoom scope v h
unfolding is_open is_live
open_room scope v h e =
    let one = both_true (is_live scope v h) (not v.wedged && (has_reached v h && nat_lt (length_of v h) 1024)) e in
    let two = both_true (not v.wedged) (has_reached v h && nat_lt (length_of v h) 1024) one.1 in
    let three = both_true (has_reached v h) (nat_lt (length_of v h) 1024) two.1 in
    let host = both_true (nat_lt h scope.rules.hosts) (scope.guards v.epoch h v.me && not (v.retired h)) one.0 in
    record { host = ltb-true h scope.rules.hosts host.0; room = ltb-true (length_of v h) 1024 three.1 }

-- so it is where a log takes a content
log_room : {S : Type 0} (scope : Scope S) (v : View) (h : ℕ) (content : Content) → to_log scope v h ≡ Some content → HasRoom scope v h
unfolding to_log
log_room scope v h content e = open_room scope v h (only_if_some (is_open scope v h) _ content e).0

-- a number that is there is below the length
there_below : {A : Type 0} (xs : List A) (k : ℕ) (x : A) → slice_get xs k ≡ Some x → k < length xs
there_below [] k x e = absurd (cc)
there_below (y ∷ xs) zero x e = omega arith
there_below (y ∷ xs) (suc k) x e = omega (arith, there_below xs k x e)

-- the next number of the link was sent
record IsUnattested (sent : List (List ℤ)) (o : Option Attested) : Type 0 where
  range : Attested
  is : o ≡ Some range
  below : range.next < length sent

-- so it is where something is unattested
unattested_below : (sent : List (List ℤ)) (o : Option Attested) (x : ℕ × List ℤ) → unattested sent o ≡ Some x → IsUnattested sent o
unattested_below sent None x e = absurd (cc)
unattested_below sent (Some range) x e = by (slice_get sent range.next) refl e
  where
    by : (o : Option (List ℤ)) → slice_get sent range.next ≡ o → option_map {U = ℕ × List ℤ} (λ payload. (range.next, payload)) o ≡ Some x
        → IsUnattested sent (Some range)
    by None is same = absurd (cc)
    by (Some payload) is same = record { range = range; is = refl; below = there_below sent range.next payload is }

-- so it is where the node attests
attest_below : {S : Type 0} (scope : Scope S) (v : View) (p h : ℕ) (x : ℕ × List ℤ) → to_attest scope v p h ≡ Some x
    → IsUnattested (sent_to scope v p h) (v.attested p h)
unfolding to_attest
attest_below scope v p h x e =
    unattested_below (sent_to scope v p h) (v.attested p h) x (only_if_some (not v.wedged && is_attesting scope v p h) _ x e).1

-- ---- views

-- a view in which one desk weighs less, and no log and no link changed
abbrev with_desk : ℕ → Desk → View → View
with_desk h new v = record v { desks = put v.desks h new }

-- hosts weigh less where one desk does
desk_falls : (v : View) (h : ℕ) (new : Desk) → h < 32 → desk_weight new < desk_weight (v.desks h)
    → hosts_weight (length_of v) (put v.desks h new) < hosts_weight (length_of v) v.desks
unfolding hosts_weight
desk_falls v h new below less =
    total_less 32 (λ x. slots_weight (length_of v x) (put v.desks h new x)) (λ x. slots_weight (length_of v x) (v.desks x)) h below
    (subst (λ desk. slots_weight (length_of v h) desk < slots_weight (length_of v h) (v.desks h)) (sym (put_here v.desks h new)) (omega (arith, less)))
    each
  where
    each : (x : ℕ) → x < 32 → slots_weight (length_of v x) (put v.desks h new x) ≤ slots_weight (length_of v x) (v.desks x)
    each x under = elim (cases_eq x h) [
      | inl e ↦ subst (λ y. slots_weight (length_of v y) (put v.desks h new y) ≤ slots_weight (length_of v y) (v.desks y)) (sym e)
          (subst (λ desk. slots_weight (length_of v h) desk ≤ slots_weight (length_of v h) (v.desks h)) (sym (put_here v.desks h new)) (omega (arith, less)))
      | inr ne ↦ subst (λ desk. slots_weight (length_of v x) desk ≤ slots_weight (length_of v x) (v.desks x)) (sym (put_there v.desks h new x ne)) (omega arith)
    ]

-- the whole weighs less
at_desk_falls : {S : Type 0} (scope : Scope S) (v : View) (h : ℕ) (new : Desk) → h < 32 → desk_weight new < desk_weight (v.desks h)
    → weight scope (record v { desks = put v.desks h new }) < weight scope v
unfolding weight
at_desk_falls scope v h new below less = let hosts = desk_falls v h new below less in omega (arith, hosts)

-- the same where the node voted besides
voted_falls : {S : Type 0} (scope : Scope S) (v : View) (h n : ℕ) (new : Desk) → h < 32 → desk_weight new < desk_weight (v.desks h)
    → weight scope (record v { voted_to = put v.voted_to h n; desks = put v.desks h new }) < weight scope v
unfolding weight
voted_falls scope v h n new below less = let hosts = desk_falls v h new below less in omega (arith, hosts)

-- ---- a log that grows

-- what begins to be attested leaves no more to attest
begun_more : (a b : Option Attested) → attested_to a ≤ attested_to (option_or a b)
begun_more (Some range) b = omega arith
begun_more None b = omega arith

-- one link, once the log of its sender is longer
entry_link : {S : Type 0} (scope : Scope S) → HasFewEffects scope.rules → (v : View) (h g : ℕ) (content : Content) (later : Option Attested)
    → HasRoom scope v h → attested_to (v.attested h g) ≤ attested_to later
    → link_weight (length (v.logs h ++ content ∷ [])) (length ((alone scope.rules h (v.logs h ++ content ∷ [])).sent h g)) later
    ≤ link_weight (length (v.logs h)) (length ((alone scope.rules h (v.logs h)).sent h g)) (v.attested h g)
entry_link scope few v h g content later room more =
    let longer = length-append (v.logs h) (content ∷ []) in
    let sent = entry_short scope.rules few h g room.host (v.logs h) content in
    let below = room.room in
    omega (arith, longer, sent, below, more)

-- all links weigh no more once a log is longer
log_links : {S : Type 0} (scope : Scope S) → HasFewEffects scope.rules → (v : View) (h : ℕ) (content : Content) (later : ℕ → ℕ → Option Attested)
    → HasRoom scope v h → ((p g : ℕ) → attested_to (v.attested p g) ≤ attested_to (later p g))
    → links_weight scope.rules (put v.logs h (v.logs h ++ content ∷ [])) later ≤ links_weight scope.rules v.logs v.attested
unfolding links_weight links_from_weight
log_links {S} scope few v h content later room more =
    total_within 32 _ _ (λ p low. total_within 32 _ _ (λ g below. each p g))
  where
    grown : List Content
    grown = v.logs h ++ content ∷ []

    old : ℕ → ℕ → ℕ
    old p g = link_weight (length (v.logs p)) (length ((alone scope.rules p (v.logs p)).sent p g)) (v.attested p g)

    each : (p g : ℕ) → link_weight (length (put v.logs h grown p)) (length ((alone scope.rules p (put v.logs h grown p)).sent p g)) (later p g) ≤ old p g
    each p g = put_case (λ (log : List Content). link_weight (length log) (length ((alone scope.rules p log).sent p g)) (later p g) ≤ old p g) v.logs h grown p
        (λ e. subst (λ y. link_weight (length grown) (length ((alone scope.rules y grown).sent y g)) (later y g) ≤ old y g) (sym e)
        (entry_link scope few v h g content (later h g) room (more h g)))
        (λ ne. let rises = more p g in omega (arith, rises))

-- hosts weigh less once a log is longer
log_hosts : {S : Type 0} (scope : Scope S) (v : View) (h : ℕ) (content : Content) → h < 32 → HasRoom scope v h
    → hosts_weight (λ x. length (put v.logs h (v.logs h ++ content ∷ []) x)) (put v.desks h empty_desk) < hosts_weight (length_of v) v.desks
unfolding hosts_weight
log_hosts {S} scope v h content low room =
    total_less 32 _ _ h low here (λ x below. each x)
  where
    grown : List Content
    grown = v.logs h ++ content ∷ []

    new : ℕ → ℕ
    new x = slots_weight (length (put v.logs h grown x)) (put v.desks h empty_desk x)

    old : ℕ → ℕ
    old x = slots_weight (length_of v x) (v.desks x)

    here : new h < old h
    here =
        let longer : length (put v.logs h grown h) ≡ length (v.logs h) + 1 = ap length (put_here v.logs h grown) ∙ length-append (v.logs h) (content ∷ []) in
        let empty : desk_weight (put v.desks h empty_desk h) ≡ 35 = ap desk_weight (put_here v.desks h empty_desk) in
        let below = room.room in
        omega (arith, longer, empty, below)

    each : (x : ℕ) → new x ≤ old x
    each x = elim (cases_eq x h) [
      | inl e ↦ subst (λ y. new y ≤ old y) (sym e) (let less = here in omega (arith, less))
      | inr ne ↦ omega (arith, ap length (put_there v.logs h grown x ne), ap desk_weight (put_there v.desks h empty_desk x ne))
    ]

-- the whole weighs less
log_falls : {S : Type 0} (scope : Scope S) → HasFewEffects scope.rules → (v : View) (h : ℕ) (content : Content) → h < 32 → HasRoom scope v h
    → weight scope (logged scope h content (with_kept h content v)) < weight scope v
unfolding weight logged with_heads with_links
log_falls scope few v h content low room =
    let entered = with_entry h content (with_kept h content v) in
    let hosts = log_hosts scope v h content low room in
    let links = log_links scope few v h content (λ p g. option_or (v.attested p g) (attested_from scope entered p g)) room
    (λ p g. begun_more (v.attested p g) (attested_from scope entered p g)) in
    omega (arith, hosts, links)

-- ---- a number that is attested

-- a range with one number more leaves no more to attest
more_within : (n sent : ℕ) (o : Option Attested) → link_weight n sent (one_more o) ≤ link_weight n sent o
more_within n sent None = omega arith
more_within n sent (Some range) = omega arith

-- it leaves less, where that number was sent
more_less : (n : ℕ) (sent : List (List ℤ)) (o : Option Attested) → IsUnattested sent o
    → link_weight n (length sent) (one_more o) < link_weight n (length sent) o
more_less n sent None is = absurd (let no = is.is in cc)
more_less n sent (Some range) is =
    let same : range ≡ is.range = let e = is.is in cc in
    let below = is.below in
    let next : range.next ≡ is.range.next = ap (λ (r : Attested). r.next) same in
    omega (arith, below, next)

-- all links weigh less where one has one number more
attest_links : {S : Type 0} (scope : Scope S) (v : View) (p h : ℕ) → p < 32 → h < 32
    → IsUnattested ((alone scope.rules p (v.logs p)).sent p h) (v.attested p h)
    → links_weight scope.rules v.logs (put_at v.attested p h (one_more (v.attested p h))) < links_weight scope.rules v.logs v.attested
unfolding links_weight links_from_weight
attest_links {S} scope v p h sender host is =
    total_less 32 _ _ p sender
    (total_less 32 _ _ h host here (λ g below. each p g))
    (λ q low. total_within 32 _ _ (λ g below. each q g))
  where
    later : ℕ → ℕ → Option Attested
    later = put_at v.attested p h (one_more (v.attested p h))

    sent : ℕ → ℕ → List (List ℤ)
    sent q g = (alone scope.rules q (v.logs q)).sent q g

    put_one : later p h ≡ one_more (v.attested p h)
    put_one = ap (λ f. f h) (put_here v.attested p (put (v.attested p) h (one_more (v.attested p h)))) ∙ put_here (v.attested p) h (one_more (v.attested p h))

    here : link_weight (length (v.logs p)) (length (sent p h)) (later p h) < link_weight (length (v.logs p)) (length (sent p h)) (v.attested p h)
    here = subst (λ o. link_weight (length (v.logs p)) (length (sent p h)) o < link_weight (length (v.logs p)) (length (sent p h)) (v.attested p h)) (sym put_one)
        (more_less (length (v.logs p)) (sent p h) (v.attested p h) is)

    each : (q g : ℕ) → link_weight (length (v.logs q)) (length (sent q g)) (later q g) ≤ link_weight (length (v.logs q)) (length (sent q g)) (v.attested q g)
    each q g = put_at_case (λ o. link_weight (length (v.logs q)) (length (sent q g)) o ≤ link_weight (length (v.logs q)) (length (sent q g)) (v.attested q g))
        v.attested p h (one_more (v.attested p h)) q g
        (λ sender_is host_is. subst (λ o. link_weight (length (v.logs q)) (length (sent q g)) (one_more (v.attested p h)) ≤ link_weight (length (v.logs q)) (length (sent q g)) o)
        (ap (λ x. v.attested x h) (sym sender_is) ∙ ap (v.attested q) (sym host_is))
        (more_within (length (v.logs q)) (length (sent q g)) (v.attested p h)))
        (λ other. omega arith)

-- the whole weighs less
attest_falls : {S : Type 0} (scope : Scope S) (v : View) (p h : ℕ) → p < 32 → h < 32 → IsUnattested (sent_to scope v p h) (v.attested p h)
    → weight scope (with_heads scope h (record v { attested = put_at v.attested p h (one_more (v.attested p h)) })) < weight scope v
unfolding weight sent_to with_heads
attest_falls scope v p h sender host is = let links = attest_links scope v p h sender host is in omega (arith, links)

-- ---- all rules

-- a rule that is taken lowers the weight
pub falls : {S : Type 0} (scope : Scope S) → HasFewEffects scope.rules → (v : View) (rule : Rule) → IsAmongHosts rule
    → Enabled scope v rule → weight scope (taken scope v rule) < weight scope v
falls scope few v (Offer h content) low e =
    at_desk_falls scope v h (with_offer content (v.desks h)) low (offer_less content (v.desks h) (offer_new scope v h content e))
falls scope few v (Order h content) low e =
    at_desk_falls scope v h _ low (order_less (v.me == h) v.me content _ (v.desks h) (order_new scope v h content e))
falls scope few v (Certificate h content) low e =
    at_desk_falls scope v h (with_sent (v.desks h)) low (sent_less (v.desks h) (certificate_new scope v h content e))
falls scope few v (Deliver h content) low e =
    voted_falls scope v h (length_of v h + 1) _ low (deliver_less v.me content _ (v.desks h) (deliver_new scope v h content e))
falls scope few v (Log h content) low e = log_falls scope few v h content low (log_room scope v h content e)
falls scope few v (Attest p h k payload) low e = attest_falls scope v p h low.0 low.1 (attest_below scope v p h (k, payload) e)

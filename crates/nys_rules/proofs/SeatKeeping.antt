-- All that a node keeps by maker has a seat for each host, whatever the node does.
use Rattle.std.proofs.Common.{◌≡◌, ℕ, ◌+◌, ◌&&◌, ◌==◌, Bool, true, false, ℤ, List, [], ◌∷◌, length, Some, None, refl, ◌∙◌}
use Rattle.std.specs.Prelude.{Option, is_none, if◌then◌else◌, slice_set, fold}
use Rattle.std.proofs.lemmas.List.{length-replicate, length-set}
use Rattle.nys_bytes.specs.declared.content.Content.{Content}
use Rattle.nys_agreement.proofs.TableLemmas.{put_at_case, put_case}
use Rattle.nys_source.specs.Tables.{put, put_at}
use Rattle.nys_stmt.specs.declared.records.Record.{Record}
use Rattle.nys_stmt.specs.declared.statement.Body.{Body}
use Rattle.nys_stmt.specs.declared.statement.Body.TheVariants as body
use Rattle.nys_stmt.specs.declared.statement.FilledKind.TheVariants as kind
use Rattle.nys_stmt.specs.declared.tags.Tags.{Tags}
use Rattle.nys_votes.specs.Ordered.{is_ordered}
use Rattle.nys_votes.specs.Seats.{is_seated, no_seats, with_seat}
use Rattle.nys_votes.specs.declared.vote.Vote.{Vote}
use Rattle.nys_rules.specs.declared.rule.Rule.{Rule}
use Rattle.nys_rules.specs.declared.rule.Rule.TheVariants.{Offer, Order, Certificate, Deliver, Log, Attest}
use Rattle.nys_rules.specs.Certificates.{HasDeskSeats, HasSeats, KeepSeats}
use Rattle.nys_rules.specs.Dropping.{accepted}
use Rattle.nys_rules.specs.Heads.{with_heads, with_own}
use Rattle.nys_rules.specs.Logging.{logged, with_entry}
use Rattle.nys_rules.specs.Noting.{at_desk, bases, collected, hearing, is_content, noted, noted_body, orderers, retirements, with_attests, with_certificate, with_held, with_orders, with_votes}
use Rattle.nys_rules.specs.Scope.{quorum_at, Scope}
use Rattle.nys_rules.specs.Taking.{own_tags, taken, with_deliver, with_kept, with_offer, with_order, with_sent}
use Rattle.nys_rules.specs.View.{Desk, empty_desk, entering, first_view, length_of, newborn, View, with_links}
use Rattle.nys_rules.proofs.KeepLemmas.{asks_keep, handles_keep, takes_keep}

-- a seat that is taken leaves as many seats
pub length-with_seat : {A : Type 0} (m : ℕ) (x : A) (seats : List (Option A))
    → length (with_seat m x seats) ≡ length seats
unfolding with_seat
length-with_seat {A} m x seats = by (is_seated seats m)
  where
    by : (b : Bool) → length (if b then seats else slice_set seats m (Some x)) ≡ length seats
    by true = refl
    by false = length-set seats m (Some x)

-- so do the seats of several makers
length-seated : {A X : Type 0} (maker : X → ℕ) (kept : X → A) (xs : List X) (seats : List (Option A))
    → length (fold (λ some x. with_seat (maker x) (kept x) some) seats xs) ≡ length seats
length-seated maker kept [] seats = refl
length-seated maker kept (x ∷ xs) seats =
    length-seated maker kept xs (with_seat (maker x) (kept x) seats) ∙ length-with_seat (maker x) (kept x) seats

-- so does a node's own attestation
pub length-with_own : (me : ℕ) (own : Option (List ℤ)) (heard : List (Option (List ℤ)))
    → length (with_own me own heard) ≡ length heard
length-with_own me None heard = refl
length-with_own me (Some payload) heard = length-with_seat me payload heard

-- nobody's seats are 32
pub length-no_seats : (A : Type 0) → length (no_seats {A = A}) ≡ 32
length-no_seats A = let none : Option A = None in length-replicate 32 none

-- an empty desk
empty_seats : HasDeskSeats empty_desk
empty_seats = record { orders = length-no_seats (List (ℕ × List ℕ)); votes = length-no_seats Vote }

-- an offer that is held
held_seats : (content : Content) (desk : Desk) → HasDeskSeats desk → HasDeskSeats (with_held content desk)
unfolding with_held
held_seats content desk k = record { orders = k.orders; votes = k.votes }

-- orders that are collected
orders_seats : (content : Content) (makers : List Tags) (desk : Desk) → HasDeskSeats desk
    → HasDeskSeats (with_orders content makers desk)
unfolding with_orders
orders_seats content makers desk k = by (is_content desk.offered content)
  where
    by : (b : Bool) → HasDeskSeats (if b then record desk { orders = collected makers desk.orders } else desk)
    by true = record { orders = length-seated (λ m. m.maker) (λ m. m.tags) makers desk.orders ∙ k.orders; votes = k.votes }
    by false = k

-- a certificate that is counted
certificate_seats : (q : ℕ) (content : Content) (makers : List Tags) (desk : Desk) → HasDeskSeats desk
    → HasDeskSeats (with_certificate q content makers desk)
unfolding with_certificate
certificate_seats q content makers desk k = by (is_ordered q (orderers content makers desk) && is_none desk.certified)
  where
    by : (b : Bool) → HasDeskSeats (if b then record desk { certified = Some content } else desk)
    by true = record { orders = k.orders; votes = k.votes }
    by false = k

-- votes that are kept
votes_seats : (content : Content) (makers : List Tags) (desk : Desk) → HasDeskSeats desk
    → HasDeskSeats (with_votes content makers desk)
unfolding with_votes
votes_seats content makers desk k = record {
  orders = k.orders;
  votes = length-seated (λ m. m.maker) (λ m. record { content = content; tags = m.tags }) makers desk.votes ∙ k.votes;
}

-- an offer that is made
offer_seats : (content : Content) (desk : Desk) → HasDeskSeats desk → HasDeskSeats (with_offer content desk)
unfolding with_offer
offer_seats content desk k = record { orders = k.orders; votes = k.votes }

-- an order that is made
order_seats : (at_host : Bool) (me : ℕ) (content : Content) (tags : List (ℕ × List ℕ)) (desk : Desk)
    → HasDeskSeats desk
    → HasDeskSeats (with_order at_host me content tags desk)
unfolding with_order
order_seats at_host me content tags desk k = record {
  orders = by (at_host && is_content desk.offered content) ∙ k.orders;
  votes = k.votes;
}
  where
    by : (b : Bool) → length (if b then with_seat me tags desk.orders else desk.orders) ≡ length desk.orders
    by true = length-with_seat me tags desk.orders
    by false = refl

-- a certificate that is sent
sent_seats : (desk : Desk) → HasDeskSeats desk → HasDeskSeats (with_sent desk)
unfolding with_sent
sent_seats desk k = record { orders = k.orders; votes = k.votes }

-- a vote that is made
deliver_seats : (me : ℕ) (content : Content) (tags : List (ℕ × List ℕ)) (desk : Desk) → HasDeskSeats desk
    → HasDeskSeats (with_deliver me content tags desk)
unfolding with_deliver
deliver_seats me content tags desk k = record {
  orders = k.orders;
  votes = length-with_seat me (record { content = content; tags = tags }) desk.votes ∙ k.votes;
}

-- a view with one desk changed
desk_seats : (h : ℕ) (change : Desk → Desk) (v : View)
    → ((desk : Desk) → HasDeskSeats desk → HasDeskSeats (change desk)) → HasSeats v
    → HasSeats (at_desk h change v)
desk_seats h change v keeps k = record {
  desks = λ x. put_case HasDeskSeats v.desks h (change (v.desks h)) x (λ e. keeps (v.desks h) (k.desks h)) (λ ne. k.desks x);
  heard = k.heard;
}

-- heads that are recorded
heads_seats : {S : Type 0} (scope : Scope S) (h : ℕ) (v : View) → HasSeats v → HasSeats (with_heads scope h v)
unfolding with_heads
heads_seats scope h v k = record { desks = k.desks; heard = k.heard }

-- links that begin
links_seats : {S : Type 0} (scope : Scope S) (v : View) → HasSeats v → HasSeats (with_links scope v)
unfolding with_links
links_seats scope v k = record { desks = k.desks; heard = k.heard }

-- an entry of a log, behind which the desk is empty
entry_seats : (h : ℕ) (content : Content) (v : View) → HasSeats v → HasSeats (with_entry h content v)
entry_seats h content v k = record {
  desks = λ x. put_case HasDeskSeats v.desks h empty_desk x (λ e. empty_seats) (λ ne. k.desks x);
  heard = k.heard;
}

-- a log that grows
pub logged_seats : {S : Type 0} (scope : Scope S) (h : ℕ) (content : Content) (v : View) → HasSeats v
    → HasSeats (logged scope h content v)
unfolding logged
logged_seats scope h content v k =
    heads_seats scope h (with_links scope (with_entry h content v))
    (links_seats scope (with_entry h content v) (entry_seats h content v k))

-- an epoch that begins
pub entering_seats : {S : Type 0} (scope : Scope S) (epoch : ℕ) (base : ℕ → ℕ) (retired : ℕ → Bool) (v : View)
    → HasSeats (entering scope epoch base retired v)
unfolding entering with_links
entering_seats scope epoch base retired v =
    record { desks = λ h. empty_seats; heard = λ p h k. length-no_seats (List ℤ) }

-- attestations that are heard
attests_seats : (p h k : ℕ) (payload : List ℤ) (makers : List Tags) (v : View) → HasSeats v
    → HasSeats (with_attests p h k payload makers v)
unfolding with_attests
attests_seats p h k payload makers v kept = record {
  desks = kept.desks;
  heard = λ x y z.
      put_case (λ (f : ℕ → ℕ → List (Option (List ℤ))). length (f y z) ≡ 32) v.heard p
      (put_at (v.heard p) h k (hearing payload makers (v.heard p h k))) x
      (λ e.
      put_at_case (λ (s : List (Option (List ℤ))). length s ≡ 32) (v.heard p) h k
      (hearing payload makers (v.heard p h k)) y z
      (λ a b. length-seated (λ m. m.maker) (λ m. payload) makers (v.heard p h k) ∙ kept.heard p h k) (λ not. kept.heard p y z))
      (λ ne. kept.heard x y z);
}

-- each kind of record
noted_body_seats : {S : Type 0} (scope : Scope S) (e : ℕ) (said : Body) (makers : List Tags) (v : View)
    → HasSeats v
    → HasSeats (noted_body scope e said makers v)
noted_body_seats scope e (body.Filled kind.Offer h slot content) makers v k = desk_seats h (with_held content) v (held_seats content) k
noted_body_seats scope e (body.Filled kind.Order h slot content) makers v k = by (v.me == h)
  where
    by : (b : Bool) → HasSeats (if b then at_desk h (with_orders content makers) v
        else at_desk h (with_certificate (quorum_at scope v.epoch h) content makers) v)
    by true = desk_seats h (with_orders content makers) v (orders_seats content makers) k
    by false = desk_seats h (with_certificate (quorum_at scope v.epoch h) content makers) v
        (certificate_seats (quorum_at scope v.epoch h) content makers) k
noted_body_seats scope e (body.Filled kind.Deliver h slot content) makers v k =
    desk_seats h (with_votes content makers) v (votes_seats content makers) k
noted_body_seats scope e (body.Attest p h n payload) makers v k =
    heads_seats scope h (with_attests p h n payload makers v) (attests_seats p h n payload makers v k)
noted_body_seats scope e (body.Ask h slot) makers v k = k
noted_body_seats scope e body.Wedge makers v k = record { desks = k.desks; heard = k.heard }
noted_body_seats scope e (body.Filled kind.Report h slot content) makers v k = k
noted_body_seats scope e (body.Frozen h slot) makers v k = k
noted_body_seats scope e (body.Open lengths) makers v k = entering_seats scope e (bases lengths) (retirements lengths) v
noted_body_seats scope e (body.Filled kind.Inherit h slot content) makers v k = logged_seats scope h content v k

-- a record that is noted
pub noted_seats : {S : Type 0} (scope : Scope S) (v : View) (r : Record) → HasSeats v
    → HasSeats (noted scope v r)
unfolding noted
noted_seats scope v r k =
    noted_body_seats scope r.statement.epoch r.statement.body (accepted scope r.statement.epoch v.me r) v k

-- each rule that is taken
pub taken_seats : {S : Type 0} (scope : Scope S) (v : View) (rule : Rule) → HasSeats v
    → HasSeats (taken scope v rule)
taken_seats scope v (Offer h content) k = desk_seats h (with_offer content) v (offer_seats content) k
taken_seats scope v (Order h content) k =
    desk_seats h (with_order (v.me == h) v.me content tags) v (order_seats (v.me == h) v.me content tags) k
  where
    tags : List (ℕ × List ℕ)
    tags = own_tags scope v h (body.Filled kind.Order h (length_of v h) content)
taken_seats scope v (Certificate h content) k = desk_seats h with_sent v sent_seats k
taken_seats scope v (Deliver h content) k =
    desk_seats h (with_deliver v.me content tags) (record v { voted_to = put v.voted_to h (length_of v h + 1) })
    (deliver_seats v.me content tags) (record { desks = k.desks; heard = k.heard })
  where
    tags : List (ℕ × List ℕ)
    tags = own_tags scope v h (body.Filled kind.Deliver h (length_of v h) content)
taken_seats scope v (Log h content) k =
    logged_seats scope h content (with_kept h content v) (record { desks = k.desks; heard = k.heard })
taken_seats scope v (Attest p h n payload) k = heads_seats scope h _ (record { desks = k.desks; heard = k.heard })

-- the first view
pub first_seats : {S : Type 0} (scope : Scope S) (me : ℕ) → HasSeats (first_view scope me)
unfolding first_view
first_seats scope me = entering_seats scope 0 (λ _. 0) (λ _. false) (newborn me)

-- the law
pub keep_seats : {S : Type 0} (scope : Scope S) → KeepSeats scope
keep_seats scope = record {
  first = first_seats scope;
  handles = handles_keep scope HasSeats (λ v rule due k. taken_seats scope v rule k) (λ v r is k. noted_seats scope v r k);
  takes =
      takes_keep scope HasSeats (λ v rule due k. taken_seats scope v rule k)
      (λ v payload room k. record { desks = k.desks; heard = k.heard });
  asks = asks_keep scope HasSeats (λ v rule due k. taken_seats scope v rule k);
}

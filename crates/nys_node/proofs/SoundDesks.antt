-- What is kept of an open slot stays in range, with a tag of each maker, whatever is put there.
use Rattle.std.proofs.Common.{◌≡◌, ℕ, ◌≤◌, ◌⊎◌, ◌&&◌, Bool, true, false, List, [], ◌∷◌, length, Some, refl, ap, sym, subst, ◌∙◌, inl, inr, arith}
use Rattle.std.specs.Prelude.{Contains, Option, if◌then◌else◌, is_none, fold}
use Rattle.std.specs.List.{list_any}
use Rattle.std.proofs.lemmas.List.Elements.{All-contains, filter_passes}
use Rattle.nys_bytes.specs.declared.content.Content.{Content}
use Rattle.nys_stmt.specs.Ranges.{IsContentInRange}
use Rattle.nys_stmt.specs.declared.records.Record.{Record}
use Rattle.nys_stmt.specs.declared.tags.Tags.{Tags}
use Rattle.nys_votes.specs.Ordered.{is_ordered}
use Rattle.nys_votes.specs.Seats.{count_all, seat_of, with_seat}
use Rattle.nys_votes.specs.declared.vote.Vote.{Vote}
use Rattle.nys_rules.specs.Dropping.{accepted, accepts, permits, verifies}
use Rattle.nys_rules.specs.Noting.{collected, is_content, orderers, voted, with_certificate, with_held, with_orders, with_votes}
use Rattle.nys_rules.specs.Scope.{Scope}
use Rattle.nys_rules.specs.Taking.{with_deliver, with_offer, with_order, with_sent}
use Rattle.nys_rules.specs.View.{Desk, empty_desk}
use Rattle.nys_rules.proofs.CertificateLemmas.{both_true}
use Rattle.nys_rules.proofs.SeatCases.{collected_case, seats_case, with_seat_case}
use Rattle.nys_rules.proofs.SeatKeeping.{length-no_seats, length-with_seat}
use Rattle.nys_node.specs.Sound.{IsSoundDesk, IsTagged}
use Rattle.nys_node.proofs.SoundSeats.{count_with_seat, no_seat}

-- each of these makers has a tag
abbrev pub AreTagged : List Tags → Type 0
AreTagged makers = (t : Tags) → Contains makers t → 1 ≤ length t.tags

-- where a tag passes there is one
any_some : {A : Type 0} (test : A → Bool) (xs : List A) → list_any test xs ≡ true → 1 ≤ length xs
any_some test [] e = absurd (cc)
any_some test (x ∷ xs) e = omega arith

-- an accepted maker has a tag, since one verifies
accepts_tagged : {S : Type 0} (scope : Scope S) (e taker : ℕ) (r : Record) (t : Tags)
    → accepts scope e taker r.statement t ≡ true → 1 ≤ length t.tags
unfolding accepts
accepts_tagged scope e taker r t is =
    let rest = both_true _ (permits scope e r.statement.body t.maker && verifies scope taker r.statement t) is in
    any_some _ t.tags (both_true _ (verifies scope taker r.statement t) rest.1).1

-- so have all that are accepted
pub accepted_tagged : {S : Type 0} (scope : Scope S) (e taker : ℕ) (r : Record) → AreTagged (accepted scope e taker r)
unfolding accepted
accepted_tagged scope e taker r t among =
    accepts_tagged scope e taker r t
    (All-contains (λ x. accepts scope e taker r.statement x ≡ true) (accepted scope e taker r) t
    (filter_passes (accepts scope e taker r.statement) r.makers) among)

-- seats of several makers are as many as before
length-seated : {A X : Type 0} (maker : X → ℕ) (kept : X → A) (xs : List X) (seats : List (Option A))
    → length (fold (λ some x. with_seat (maker x) (kept x) some) seats xs) ≡ length seats
length-seated maker kept [] seats = refl
length-seated maker kept (x ∷ xs) seats =
    length-seated maker kept xs (with_seat (maker x) (kept x) seats) ∙ length-with_seat (maker x) (kept x) seats

-- seats of several makers count no fewer
count-seated : {A X : Type 0} (maker : X → ℕ) (kept : X → A) (xs : List X) (seats : List (Option A))
    → count_all seats ≤ count_all (fold (λ some x. with_seat (maker x) (kept x) some) seats xs)
count-seated maker kept [] seats = omega arith
count-seated maker kept (x ∷ xs) seats =
    omega (
      arith,
      count-seated maker kept xs (with_seat (maker x) (kept x) seats),
      count_with_seat (maker x) (kept x) seats,
    )

-- an empty desk
pub empty_sound : (n : ℕ) → IsSoundDesk n empty_desk
empty_sound n = record {
  seats = record { orders = length-no_seats (List (ℕ × List ℕ)); votes = length-no_seats Vote };
  offered = tt;
  held = tt;
  ordered = tt;
  certified = tt;
  delivered = tt;
  orders = λ m tags e. absurd (no_seat m tags e);
  votes = λ m vote e. absurd (no_seat m vote e);
  sent = omega arith;
}

-- an offer that is held
pub held_sound : (n : ℕ) (content : Content) (desk : Desk) → IsContentInRange content → IsSoundDesk n desk
    → IsSoundDesk n (with_held content desk)
unfolding with_held
held_sound n content desk in_range k = record {
  seats = record { orders = k.seats.orders; votes = k.seats.votes };
  offered = k.offered;
  held = in_range;
  ordered = k.ordered;
  certified = k.certified;
  delivered = k.delivered;
  orders = k.orders;
  votes = k.votes;
  sent = k.sent;
}

-- orders that are collected
pub orders_sound : (n : ℕ) (content : Content) (makers : List Tags) (desk : Desk) → AreTagged makers → IsSoundDesk n desk
    → IsSoundDesk n (with_orders content makers desk)
unfolding with_orders
orders_sound n content makers desk tagged k = by (is_content desk.offered content)
  where
    by : (b : Bool) → IsSoundDesk n (if b then record desk { orders = collected makers desk.orders } else desk)
    by true = record {
      seats = record {
        orders = length-seated (λ (m : Tags). m.maker) (λ m. m.tags) makers desk.orders ∙ k.seats.orders;
        votes = k.seats.votes;
      };
      offered = k.offered;
      held = k.held;
      ordered = k.ordered;
      certified = k.certified;
      delivered = k.delivered;
      orders = λ m tags e. elim (collected_case makers desk.orders m tags e) [
        | inl old ↦ k.orders m tags old
        | inr new ↦ λ told. subst (λ (x : List (ℕ × List ℕ)). 1 ≤ length x) new.3 (tagged new.0 new.1)
      ];
      votes = k.votes;
      sent = omega (arith, k.sent, count-seated (λ (m : Tags). m.maker) (λ m. m.tags) makers desk.orders);
    }
    by false = k

-- a certificate that is counted
pub counted_sound : (n q : ℕ) (content : Content) (makers : List Tags) (desk : Desk) → IsContentInRange content
    → IsSoundDesk n desk → IsSoundDesk n (with_certificate q content makers desk)
unfolding with_certificate
counted_sound n q content makers desk in_range k =
    by (is_ordered q (orderers content makers desk) && is_none desk.certified)
  where
    by : (b : Bool) → IsSoundDesk n (if b then record desk { certified = Some content } else desk)
    by true = record {
      seats = record { orders = k.seats.orders; votes = k.seats.votes };
      offered = k.offered;
      held = k.held;
      ordered = k.ordered;
      certified = in_range;
      delivered = k.delivered;
      orders = k.orders;
      votes = k.votes;
      sent = k.sent;
    }
    by false = k

-- a vote that is kept was kept before, or is that of a maker with its tags
voted_tagged : (content : Content) (makers : List Tags) (votes : List (Option Vote)) (m : ℕ) (vote : Vote)
    → seat_of (voted content makers votes) m ≡ Some vote
    → (seat_of votes m ≡ Some vote)
    ⊎ ((tags : Tags) × Contains makers tags × (tags.tags ≡ vote.tags) × (vote.content ≡ content))
voted_tagged content makers votes m vote e =
    elim (seats_case (λ (t : Tags). t.maker) (λ t. record { content = content; tags = t.tags }) makers votes m vote e) [
      | inl old ↦ inl old
      | inr new ↦ inr (new.0, new.1, ap (λ (v : Vote). v.tags) new.3, ap (λ (v : Vote). v.content) (sym new.3))
    ]

-- votes that are kept
pub votes_sound : (n : ℕ) (content : Content) (makers : List Tags) (desk : Desk) → IsContentInRange content
    → AreTagged makers → IsSoundDesk n desk → IsSoundDesk n (with_votes content makers desk)
unfolding with_votes
votes_sound n content makers desk in_range tagged k = record {
  seats = record {
    orders = k.seats.orders;
    votes = length-seated (λ (m : Tags). m.maker) (λ m. record { content = content; tags = m.tags }) makers desk.votes
        ∙ k.seats.votes;
  };
  offered = k.offered;
  held = k.held;
  ordered = k.ordered;
  certified = k.certified;
  delivered = k.delivered;
  orders = k.orders;
  votes = λ m vote e. elim (voted_tagged content makers desk.votes m vote e) [
    | inl old ↦ k.votes m vote old
    | inr new ↦ (
      subst IsContentInRange (sym new.3) in_range,
      λ told. subst (λ (x : List (ℕ × List ℕ)). 1 ≤ length x) new.2 (tagged new.0 new.1),
    )
  ];
  sent = k.sent;
}

-- an offer that is made
pub offer_sound : (n : ℕ) (content : Content) (desk : Desk) → IsContentInRange content → IsSoundDesk n desk
    → IsSoundDesk n (with_offer content desk)
unfolding with_offer
offer_sound n content desk in_range k = record {
  seats = record { orders = k.seats.orders; votes = k.seats.votes };
  offered = in_range;
  held = in_range;
  ordered = k.ordered;
  certified = k.certified;
  delivered = k.delivered;
  orders = k.orders;
  votes = k.votes;
  sent = k.sent;
}

-- an order that is made
pub order_sound : (n : ℕ) (at_host : Bool) (me : ℕ) (content : Content) (tags : List (ℕ × List ℕ)) (desk : Desk)
    → IsContentInRange content → IsTagged n tags → IsSoundDesk n desk
    → IsSoundDesk n (with_order at_host me content tags desk)
unfolding with_order
order_sound n at_host me content tags desk in_range tagged k = record {
  seats = record { orders = long (at_host && is_content desk.offered content) ∙ k.seats.orders; votes = k.seats.votes };
  offered = k.offered;
  held = k.held;
  ordered = in_range;
  certified = k.certified;
  delivered = k.delivered;
  orders = by (at_host && is_content desk.offered content);
  votes = k.votes;
  sent = omega (arith, k.sent, more (at_host && is_content desk.offered content));
}
  where
    seats : Bool → List (Option (List (ℕ × List ℕ)))
    seats b = if b then with_seat me tags desk.orders else desk.orders

    long : (b : Bool) → length (seats b) ≡ length desk.orders
    long true = length-with_seat me tags desk.orders
    long false = refl

    more : (b : Bool) → count_all desk.orders ≤ count_all (seats b)
    more true = count_with_seat me tags desk.orders
    more false = omega arith

    by : (b : Bool) (m : ℕ) (kept : List (ℕ × List ℕ)) → seat_of (seats b) m ≡ Some kept → IsTagged n kept
    by true m kept e = elim (with_seat_case me tags desk.orders m kept e) [
      | inl old ↦ k.orders m kept old
      | inr new ↦ subst (IsTagged n) new.1 tagged
    ]
    by false m kept e = k.orders m kept e

-- a certificate that is sent
pub sent_sound : (n : ℕ) (desk : Desk) → IsSoundDesk n desk → IsSoundDesk n (with_sent desk)
unfolding with_sent
sent_sound n desk k = record {
  seats = record { orders = k.seats.orders; votes = k.seats.votes };
  offered = k.offered;
  held = k.held;
  ordered = k.ordered;
  certified = k.certified;
  delivered = k.delivered;
  orders = k.orders;
  votes = k.votes;
  sent = omega arith;
}

-- a vote that is made
pub deliver_sound : (n me : ℕ) (content : Content) (tags : List (ℕ × List ℕ)) (desk : Desk) → IsContentInRange content
    → IsTagged n tags → IsSoundDesk n desk → IsSoundDesk n (with_deliver me content tags desk)
unfolding with_deliver
deliver_sound n me content tags desk in_range tagged k = record {
  seats = record {
    orders = k.seats.orders;
    votes = length-with_seat me (record { content = content; tags = tags }) desk.votes ∙ k.seats.votes;
  };
  offered = k.offered;
  held = k.held;
  ordered = k.ordered;
  certified = k.certified;
  delivered = in_range;
  orders = k.orders;
  votes = λ m vote e. elim (with_seat_case me (record { content = content; tags = tags }) desk.votes m vote e) [
    | inl old ↦ k.votes m vote old
    | inr new ↦ subst (λ (x : Vote). IsContentInRange x.content × IsTagged n x.tags) new.1 (in_range, tagged)
  ];
  sent = k.sent;
}

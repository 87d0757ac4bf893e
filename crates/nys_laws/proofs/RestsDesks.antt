-- What a desk rests on stays so, whatever is put there that has its grounds.
use Rattle.std.proofs.Common.{◌≡◌, ℕ, ◌&&◌, Bool, true, false, List, Some, sym, subst, inl, inr}
use Rattle.std.specs.Prelude.{Contains, if◌then◌else◌, is_none}
use Rattle.nys_bytes.specs.declared.content.Content.{Content}
use Rattle.nys_stmt.specs.declared.tags.Tags.{Tags}
use Rattle.nys_votes.specs.Ordered.{is_ordered}
use Rattle.nys_votes.specs.Seats.{seat_of, with_seat}
use Rattle.nys_rules.specs.Noting.{collected, is_content, orderers, with_certificate, with_held, with_orders, with_votes}
use Rattle.nys_rules.specs.Taking.{with_deliver, with_offer, with_order, with_sent}
use Rattle.nys_rules.specs.View.{Desk, empty_desk}
use Rattle.nys_rules.proofs.SeatCases.{collected_case, voted_case, with_seat_case}
use Rattle.nys_laws.specs.Rests.{RestsDesk}
use Rattle.nys_laws.proofs.DeskLemmas.{no_seat}

-- an empty desk
pub empty_rests : (guards : ℕ → Bool) (Is : Content → Type 0) (Has : Type 0)
    → RestsDesk guards Is Has empty_desk
empty_rests guards Is Has = record {
  votes = λ m vote e. absurd (no_seat m vote e);
  orders = λ m tags e. absurd (no_seat m tags e);
  certified = λ content e. absurd (cc);
  delivered = λ content e. absurd (cc);
}

-- a desk where more was ordered
pub more_rests : (guards : ℕ → Bool) (Is More : Content → Type 0) (Has : Type 0) (desk : Desk)
    → ((content : Content) → Is content → More content)
    → RestsDesk guards Is Has desk → RestsDesk guards More Has desk
more_rests guards Is More Has desk more k = record {
  votes = k.votes;
  orders = k.orders;
  certified = λ content e. more content (k.certified content e);
  delivered = k.delivered;
}

-- an offer that is held
pub held_rests : (guards : ℕ → Bool) (Is : Content → Type 0) (Has : Type 0) (content : Content)
    (desk : Desk) → RestsDesk guards Is Has desk → RestsDesk guards Is Has (with_held content desk)
unfolding with_held
held_rests guards Is Has content desk k = record {
  votes = k.votes;
  orders = k.orders;
  certified = k.certified;
  delivered = k.delivered;
}

-- all these makers are guards
abbrev pub AllGuard : (ℕ → Bool) → List Tags → Type 0
AllGuard guards makers = (t : Tags) → Contains makers t → guards t.maker ≡ true

-- orders that are collected
pub orders_rests : (guards : ℕ → Bool) (Is : Content → Type 0) (Has : Type 0) (content : Content)
    (makers : List Tags) (desk : Desk) → AllGuard guards makers → RestsDesk guards Is Has desk
    → RestsDesk guards Is Has (with_orders content makers desk)
unfolding with_orders
orders_rests guards Is Has content makers desk all k = by (is_content desk.offered content)
  where
    by : (b : Bool)
        → RestsDesk guards Is Has (if b then record desk { orders = collected makers desk.orders } else desk)
    by true = record {
      votes = k.votes;
      orders = λ m tags e. elim (collected_case makers desk.orders m tags e) [
        | inl old ↦ k.orders m tags old
        | inr new ↦ subst (λ x. guards x ≡ true) new.2 (all new.0 new.1)
      ];
      certified = k.certified;
      delivered = k.delivered;
    }
    by false = k

-- a certificate that is counted, where what is certified then has its grounds
pub certificate_rests : (guards : ℕ → Bool) (Is : Content → Type 0) (Has : Type 0) (q : ℕ)
    (content : Content) (makers : List Tags) (desk : Desk)
    → ((other : Content) → (with_certificate q content makers desk).certified ≡ Some other → Is other)
    → RestsDesk guards Is Has desk → RestsDesk guards Is Has (with_certificate q content makers desk)
unfolding with_certificate
certificate_rests guards Is Has q content makers desk has k =
    by (is_ordered q (orderers content makers desk) && is_none desk.certified) has
  where
    by : (b : Bool)
        → ((other : Content)
        → (if b then record desk { certified = Some content } else desk).certified ≡ Some other
        → Is other)
        → RestsDesk guards Is Has (if b then record desk { certified = Some content } else desk)
    by true now =
        record { votes = k.votes; orders = k.orders; certified = now; delivered = k.delivered }
    by false now = k

-- votes that are kept
pub votes_rests : (guards : ℕ → Bool) (Is : Content → Type 0) (Has : Type 0) (content : Content)
    (makers : List Tags) (desk : Desk) → AllGuard guards makers → RestsDesk guards Is Has desk
    → RestsDesk guards Is Has (with_votes content makers desk)
unfolding with_votes
votes_rests guards Is Has content makers desk all k = record {
  votes = λ m vote e. elim (voted_case content makers desk.votes m vote e) [
    | inl old ↦ k.votes m vote old
    | inr new ↦ subst (λ x. guards x ≡ true) new.2 (all new.0 new.1)
  ];
  orders = k.orders;
  certified = k.certified;
  delivered = k.delivered;
}

-- an offer that is made
pub offer_rests : (guards : ℕ → Bool) (Is : Content → Type 0) (Has : Type 0) (content : Content)
    (desk : Desk) → RestsDesk guards Is Has desk → RestsDesk guards Is Has (with_offer content desk)
unfolding with_offer
offer_rests guards Is Has content desk k = record {
  votes = k.votes;
  orders = k.orders;
  certified = k.certified;
  delivered = k.delivered;
}

-- an order that a guard makes
pub order_rests : (guards : ℕ → Bool) (Is : Content → Type 0) (Has : Type 0) (at_host : Bool) (me : ℕ)
    (content : Content) (tags : List (ℕ × List ℕ)) (desk : Desk) → guards me ≡ true
    → RestsDesk guards Is Has desk → RestsDesk guards Is Has (with_order at_host me content tags desk)
unfolding with_order
order_rests guards Is Has at_host me content tags desk guard k = record {
  votes = k.votes;
  orders = λ m kept e. by (at_host && is_content desk.offered content) m kept e;
  certified = k.certified;
  delivered = k.delivered;
}
  where
    by : (b : Bool) (m : ℕ) (kept : List (ℕ × List ℕ))
        → seat_of (if b then with_seat me tags desk.orders else desk.orders) m ≡ Some kept
        → guards m ≡ true
    by true m kept e = elim (with_seat_case me tags desk.orders m kept e) [
      | inl old ↦ k.orders m kept old
      | inr new ↦ subst (λ x. guards x ≡ true) (sym new.0) guard
    ]
    by false m kept e = k.orders m kept e

-- a certificate that is sent
pub sent_rests : (guards : ℕ → Bool) (Is : Content → Type 0) (Has : Type 0) (desk : Desk)
    → RestsDesk guards Is Has desk → RestsDesk guards Is Has (with_sent desk)
unfolding with_sent
sent_rests guards Is Has desk k = record {
  votes = k.votes;
  orders = k.orders;
  certified = k.certified;
  delivered = k.delivered;
}

-- a vote that a guard makes, where the log has reached its base
pub deliver_rests : (guards : ℕ → Bool) (Is : Content → Type 0) (Has : Type 0) (me : ℕ)
    (content : Content) (tags : List (ℕ × List ℕ)) (desk : Desk) → guards me ≡ true → Has
    → RestsDesk guards Is Has desk → RestsDesk guards Is Has (with_deliver me content tags desk)
unfolding with_deliver
deliver_rests guards Is Has me content tags desk guard has k = record {
  votes = λ m vote e.
      elim (with_seat_case me (record { content = content; tags = tags }) desk.votes m vote e) [
        | inl old ↦ k.votes m vote old
        | inr new ↦ subst (λ x. guards x ≡ true) (sym new.0) guard
      ];
  orders = k.orders;
  certified = k.certified;
  delivered = λ c e. has;
}

-- What stands on a desk stays true, whatever is put there that is true.
use Rattle.std.proofs.Common.{◌≡◌, ℕ, zero, suc, ◌&&◌, Bool, true, false, List, Some, None, refl, ap, sym, subst, ◌∙◌, inl, inr}
use Rattle.std.specs.Prelude.{Contains, Option, if◌then◌else◌, is_none, replicate, slice_index_or}
use Rattle.nys_bytes.specs.declared.content.Content.{Content}
use Rattle.nys_stmt.specs.declared.tags.Tags.{Tags}
use Rattle.nys_votes.proofs.ContentLemmas.{decide_contents}
use Rattle.nys_votes.specs.Ordered.{is_ordered}
use Rattle.nys_votes.specs.Seats.{no_seats, seat_of, with_seat}
use Rattle.nys_votes.specs.declared.vote.Vote.{Vote}
use Rattle.nys_rules.specs.Noting.{collected, is_content, orderers, with_certificate, with_held, with_orders, with_votes}
use Rattle.nys_rules.specs.Taking.{with_deliver, with_offer, with_order, with_sent}
use Rattle.nys_rules.specs.View.{Desk, empty_desk}
use Rattle.nys_rules.proofs.CertificateLemmas.{both_true}
use Rattle.nys_rules.proofs.SeatCases.{collected_case, voted_case, with_seat_case}
use Rattle.nys_laws.specs.Heard.{IsTrueDesk}
use Rattle.nys_laws.specs.Own.{Stage}
use Rattle.nys_laws.specs.Own.Stage.{Offered, Ordered, Delivered}

-- what is said of a stage, a maker and a content
abbrev pub Words : Type 1
Words = Stage → ℕ → Content → Type 0

-- empty places have nothing
none_there : {A : Type 0} (n m : ℕ) (x : A) → slice_index_or (replicate n None) m None ≡ Some x → ⊥
none_there zero m x e = cc
none_there (suc n) zero x e = cc
none_there (suc n) (suc m) x e = none_there n m x e

-- nothing stands in nobody's seats
pub no_seat : {A : Type 0} (m : ℕ) (x : A) → seat_of no_seats m ≡ Some x → ⊥
no_seat m x e = none_there 32 m x e

-- an empty desk
pub empty_true : (Said : Words) (h : ℕ) → IsTrueDesk Said h empty_desk
empty_true Said h = record {
  votes = λ m vote e. absurd (no_seat m vote e);
  orders = λ m tags e. absurd (no_seat m tags e);
  held = λ content e. absurd (cc);
}

-- a desk where more was said
pub more_true : (Said More : Words) (h : ℕ) (desk : Desk)
    → ((stage : Stage) (m : ℕ) (content : Content) → Said stage m content → More stage m content)
    → IsTrueDesk Said h desk → IsTrueDesk More h desk
more_true Said More h desk more k = record {
  votes = λ m vote e. more Delivered m vote.content (k.votes m vote e);
  orders = λ m tags e. let was = k.orders m tags e in (was.0, was.1, more Ordered m was.0 was.2);
  held = λ content e. more Offered h content (k.held content e);
}

-- an offer that is held
pub held_true : (Said : Words) (h : ℕ) (content : Content) (desk : Desk) → Said Offered h content
    → IsTrueDesk Said h desk → IsTrueDesk Said h (with_held content desk)
unfolding with_held
held_true Said h content desk said k = record {
  votes = k.votes;
  orders = k.orders;
  held = λ c e. subst (Said Offered h) (let same : content ≡ c = cc in same) said;
}

-- the content is there, and it is the same
pub content_is : (o : Option Content) (content : Content) → is_content o content ≡ true
    → o ≡ Some content
content_is None content e = absurd (cc)
content_is (Some other) content e =
    ap (λ c. Some c) ((decide_contents other content).0 e)

-- all these makers said the content at the stage
abbrev pub AllSaid : Words → Stage → Content → List Tags → Type 0
AllSaid Said stage content makers = (t : Tags) → Contains makers t → Said stage t.maker content

-- orders that are collected
pub orders_true : (Said : Words) (h : ℕ) (content : Content) (makers : List Tags) (desk : Desk)
    → AllSaid Said Ordered content makers
    → IsTrueDesk Said h desk → IsTrueDesk Said h (with_orders content makers desk)
unfolding with_orders
orders_true Said h content makers desk said k = by (is_content desk.offered content) refl
  where
    by : (b : Bool) → is_content desk.offered content ≡ b
        → IsTrueDesk Said h (if b then record desk { orders = collected makers desk.orders } else desk)
    by true is = record {
      votes = k.votes;
      orders = λ m tags e. elim (collected_case makers desk.orders m tags e) [
        | inl old ↦ k.orders m tags old
        | inr new ↦ (content, content_is desk.offered content is, subst (λ x. Said Ordered x content) new.2 (said new.0 new.1))
      ];
      held = k.held;
    }
    by false is = k

-- a certificate that is counted
pub certificate_true : (Said : Words) (h q : ℕ) (content : Content) (makers : List Tags) (desk : Desk)
    → IsTrueDesk Said h desk → IsTrueDesk Said h (with_certificate q content makers desk)
unfolding with_certificate
certificate_true Said h q content makers desk k =
    by (is_ordered q (orderers content makers desk) && is_none desk.certified)
  where
    by : (b : Bool)
        → IsTrueDesk Said h (if b then record desk { certified = Some content } else desk)
    by true = record { votes = k.votes; orders = k.orders; held = k.held }
    by false = k

-- votes that are kept
pub votes_true : (Said : Words) (h : ℕ) (content : Content) (makers : List Tags) (desk : Desk)
    → AllSaid Said Delivered content makers
    → IsTrueDesk Said h desk → IsTrueDesk Said h (with_votes content makers desk)
unfolding with_votes
votes_true Said h content makers desk said k = record {
  votes = λ m vote e. elim (voted_case content makers desk.votes m vote e) [
    | inl old ↦ k.votes m vote old
    | inr new ↦ subst (Said Delivered m) (sym new.3) (subst (λ x. Said Delivered x content) new.2 (said new.0 new.1))
  ];
  orders = k.orders;
  held = k.held;
}

-- an offer that is made where none was: no order was collected before
pub offer_true : (Said : Words) (h : ℕ) (content : Content) (desk : Desk) → desk.offered ≡ None
    → Said Offered h content → IsTrueDesk Said h desk → IsTrueDesk Said h (with_offer content desk)
unfolding with_offer
offer_true Said h content desk none said k = record {
  votes = k.votes;
  orders = λ m tags e. let was = k.orders m tags e in absurd (let both = sym none ∙ was.1 in cc);
  held = λ c e. subst (Said Offered h) (let same : content ≡ c = cc in same) said;
}

-- an order that is made
pub order_true : (Said : Words) (h : ℕ) (at_host : Bool) (me : ℕ) (content : Content) (tags : List (ℕ × List ℕ))
    (desk : Desk) → Said Ordered me content → IsTrueDesk Said h desk
    → IsTrueDesk Said h (with_order at_host me content tags desk)
unfolding with_order
order_true Said h at_host me content tags desk said k = record {
  votes = k.votes;
  orders = λ m kept e. by (at_host && is_content desk.offered content) refl m kept e;
  held = k.held;
}
  where
    by : (b : Bool) → (at_host && is_content desk.offered content) ≡ b
        → (m : ℕ) (kept : List (ℕ × List ℕ))
        → seat_of (if b then with_seat me tags desk.orders else desk.orders) m ≡ Some kept
        → (c : Content) × (desk.offered ≡ Some c) × Said Ordered m c
    by true is m kept e = elim (with_seat_case me tags desk.orders m kept e) [
      | inl old ↦ k.orders m kept old
      | inr new ↦
          let own = (both_true at_host (is_content desk.offered content) is).1 in
          (content, content_is desk.offered content own, subst (λ x. Said Ordered x content) (sym new.0) said)
    ]
    by false is m kept e = k.orders m kept e

-- a certificate that is sent
pub sent_true : (Said : Words) (h : ℕ) (desk : Desk) → IsTrueDesk Said h desk
    → IsTrueDesk Said h (with_sent desk)
unfolding with_sent
sent_true Said h desk k = record { votes = k.votes; orders = k.orders; held = k.held }

-- a vote that is made
pub deliver_true : (Said : Words) (h me : ℕ) (content : Content) (tags : List (ℕ × List ℕ)) (desk : Desk)
    → Said Delivered me content
    → IsTrueDesk Said h desk → IsTrueDesk Said h (with_deliver me content tags desk)
unfolding with_deliver
deliver_true Said h me content tags desk said k = record {
  votes = λ m vote e. elim (with_seat_case me (record { content = content; tags = tags }) desk.votes m vote e) [
    | inl old ↦ k.votes m vote old
    | inr new ↦
        subst (Said Delivered m) (ap (λ (x : Vote). x.content) new.1)
        (subst (λ x. Said Delivered x content) (sym new.0) said)
  ];
  orders = k.orders;
  held = k.held;
}

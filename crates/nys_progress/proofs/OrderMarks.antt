-- Orders that a host collects: each stays until the log is past the slot, and seats that change are more seats.
use Rattle.std.proofs.Common.{◌≡◌, ℕ, zero, suc, ◌+◌, ◌<◌, ◌≤◌, ◌⊎◌, ◌&&◌, Bool, true, false, List, [], ◌∷◌, length, Some, None, refl, ap, sym, subst, ◌∙◌, inl, inr, arith, set}
use Rattle.std.specs.Prelude.{cond, if◌then◌else◌, is_none, Option, replicate, slice_index_or, slice_set}
use Rattle.std.proofs.lemmas.List.Sums.{sum_by-cons}
use Rattle.nys_bytes.specs.declared.content.Content.{Content}
use Rattle.nys_hosts.proofs.CountLemmas.{hosts_with-some}
use Rattle.nys_votes.specs.Ordered.{is_ordered}
use Rattle.nys_votes.specs.Seats.{count_all, count_seats, is_seated, no_seats, passes, seat_of, with_seat}
use Rattle.nys_votes.proofs.SeatLemmas.{counts_kept}
use Rattle.nys_stmt.specs.declared.tags.Tags.{Tags}
use Rattle.nys_rules.specs.Noting.{collected, is_content, orderers, with_certificate, with_held, with_orders, with_votes}
use Rattle.nys_rules.specs.Taking.{with_deliver, with_offer, with_order, with_sent}
use Rattle.nys_rules.specs.View.{Desk}
use Rattle.nys_rules.proofs.SeatCases.{seats_keep, with_seat_keeps}
use Rattle.nys_progress.proofs.HostMoves.{DeskMoves}
use Rattle.nys_progress.proofs.HostMoves.DeskMoves.{Certifies, Collects, Delivers, Holds, Offers, Orders, Rests, Sends, Votes}
use Rattle.nys_progress.proofs.MarkedDesks.{IsKept, seat_there}

-- ---- an order that is collected

-- the maker's order is
abbrev pub HasOrder : ℕ → Desk → Type 0
HasOrder m desk = (tags : List (ℕ × List ℕ)) × (seat_of desk.orders m ≡ Some tags)

-- an order that is collected stays
orders_kept : (m me : ℕ) (desk next : Desk) (tags : List (ℕ × List ℕ)) → DeskMoves me desk next
    → seat_of desk.orders m ≡ Some tags → seat_of next.orders m ≡ Some tags
unfolding with_offer with_held with_order with_sent with_deliver with_votes with_orders with_certificate
orders_kept m me desk next tags (Rests is) get = subst (λ (d : Desk). seat_of d.orders m ≡ Some tags) (sym is) get
orders_kept m me desk next tags (Offers c is) get = subst (λ (d : Desk). seat_of d.orders m ≡ Some tags) (sym is) get
orders_kept m me desk next tags (Holds c is) get = subst (λ (d : Desk). seat_of d.orders m ≡ Some tags) (sym is) get
orders_kept m me desk next tags (Orders at_host c own is) get =
    subst (λ (d : Desk). seat_of d.orders m ≡ Some tags) (sym is) (by (at_host && is_content desk.offered c))
  where
    by : (b : Bool) → seat_of (if b then with_seat me own desk.orders else desk.orders) m ≡ Some tags
    by true = with_seat_keeps me own desk.orders m tags get
    by false = get
orders_kept m me desk next tags (Collects c makers is) get =
    subst (λ (d : Desk). seat_of d.orders m ≡ Some tags) (sym is) (by (is_content desk.offered c))
  where
    by : (b : Bool)
        → seat_of (if b then record desk { orders = collected makers desk.orders } else desk).orders m ≡ Some tags
    by true = seats_keep (λ (t : Tags). t.maker) (λ (t : Tags). t.tags) makers desk.orders m tags get
    by false = get
orders_kept m me desk next tags (Certifies q c makers is) get =
    subst (λ (d : Desk). seat_of d.orders m ≡ Some tags) (sym is) (by (is_ordered q (orderers c makers desk) && is_none desk.certified))
  where
    by : (b : Bool) → seat_of (if b then record desk { certified = Some c } else desk).orders m ≡ Some tags
    by true = get
    by false = get
orders_kept m me desk next tags (Sends is) get = subst (λ (d : Desk). seat_of d.orders m ≡ Some tags) (sym is) get
orders_kept m me desk next tags (Delivers c own is) get = subst (λ (d : Desk). seat_of d.orders m ≡ Some tags) (sym is) get
orders_kept m me desk next tags (Votes c makers is) get = subst (λ (d : Desk). seat_of d.orders m ≡ Some tags) (sym is) get

-- so the mark does
pub order_kept : (m : ℕ) → IsKept (HasOrder m)
order_kept m me desk next moves k = (k.0, orders_kept m me desk next k.0 moves k.1)

-- ---- a certificate that is counted

-- some content is certified
abbrev pub HasCertified : Desk → Type 0
HasCertified desk = (c : Content) × (desk.certified ≡ Some c)

-- it stays so
pub certified_kept : IsKept HasCertified
unfolding with_offer with_held with_order with_sent with_deliver with_votes with_orders with_certificate
certified_kept me desk next (Rests is) k = subst HasCertified (sym is) k
certified_kept me desk next (Offers c is) k = subst HasCertified (sym is) k
certified_kept me desk next (Holds c is) k = subst HasCertified (sym is) k
certified_kept me desk next (Orders at_host c own is) k = subst HasCertified (sym is) k
certified_kept me desk next (Collects c makers is) k = subst HasCertified (sym is) (by (is_content desk.offered c))
  where
    by : (b : Bool) → HasCertified (if b then record desk { orders = collected makers desk.orders } else desk)
    by true = k
    by false = k
certified_kept me desk next (Certifies q c makers is) k =
    subst HasCertified (sym is) (by (is_ordered q (orderers c makers desk) && is_none desk.certified))
  where
    by : (b : Bool) → HasCertified (if b then record desk { certified = Some c } else desk)
    by true = (c, refl)
    by false = k
certified_kept me desk next (Sends is) k = subst HasCertified (sym is) k
certified_kept me desk next (Delivers c own is) k = subst HasCertified (sym is) k
certified_kept me desk next (Votes c makers is) k = subst HasCertified (sym is) k

-- ---- seats that change

-- the seats are as they were, or more of them are taken
abbrev pub HaveGrown : {A : Type 0} → List (Option A) → List (Option A) → Type 0
HaveGrown seats next = (next ≡ seats) ⊎ (count_all seats < count_all next)

-- twice
pub grown_twice : {A : Type 0} (seats mid next : List (Option A)) → HaveGrown seats mid → HaveGrown mid next
    → HaveGrown seats next
grown_twice seats mid next (inl same) (inl again) = inl (again ∙ same)
grown_twice {A} seats mid next (inl same) (inr more) = inr (subst (λ (s : List (Option A)). count_all s < count_all next) same more)
grown_twice {A} seats mid next (inr more) (inl same) = inr (subst (λ (s : List (Option A)). count_all seats < count_all s) (sym same) more)
grown_twice seats mid next (inr more) (inr again) = inr (omega (arith, more, again))

-- never fewer are
pub grown_most : {A : Type 0} (seats next : List (Option A)) → HaveGrown seats next → count_all seats ≤ count_all next
grown_most seats next (inl same) = let is = ap count_all same in omega (arith, is)
grown_most seats next (inr more) = omega (arith, more)

-- how many are taken with one seat more
count_first : {A : Type 0} (o : Option A) (seats : List (Option A))
    → count_all (o ∷ seats) ≡ cond (passes (λ _. true) o) 1 0 + count_all seats
unfolding count_seats
count_first {A} o seats = sum_by-cons (λ (y : Option A). cond (passes (λ _. true) y) 1 0) o seats

-- a seat that is empty is taken, where there is one
set_grown : {A : Type 0} (seats : List (Option A)) (m : ℕ) (x : A) → is_seated seats m ≡ false
    → HaveGrown seats (set seats m (Some x))
set_grown [] m x is = inl refl
set_grown (None ∷ seats) zero x is = inr (let a = count_first None seats in let b = count_first (Some x) seats in omega (arith, a, b))
set_grown (Some y ∷ seats) zero x is = absurd (cc)
set_grown (o ∷ seats) (suc m) x is = elim (set_grown seats m x is) [
  | inl same ↦ inl (ap (λ s. o ∷ s) same)
  | inr more ↦ inr (let a = count_first o seats in let b = count_first o (set seats m (Some x)) in omega (arith, a, b, more))
]

-- a maker takes its seat, where that is empty
pub seat_grown : {A : Type 0} (m : ℕ) (x : A) (seats : List (Option A)) → HaveGrown seats (with_seat m x seats)
unfolding with_seat
seat_grown {A} m x seats = by (is_seated seats m) refl
  where
    by : (b : Bool) → is_seated seats m ≡ b → HaveGrown seats (if b then seats else slice_set seats m (Some x))
    by true is = inl refl
    by false is = set_grown seats m x is

-- so do several
pub collected_grown : (makers : List Tags) (orders : List (Option (List (ℕ × List ℕ))))
    → HaveGrown orders (collected makers orders)
collected_grown [] orders = inl refl
collected_grown (t ∷ makers) orders =
    grown_twice orders (with_seat t.maker t.tags orders) _ (seat_grown t.maker t.tags orders)
    (collected_grown makers (with_seat t.maker t.tags orders))

-- where a seat is counted some seat is taken
pub some_seated : {A : Type 0} (seats : List (Option A)) → length seats ≡ 32 → 0 < count_all seats
    → (m : ℕ) × (x : A) × (seat_of seats m ≡ Some x)
some_seated seats long more =
    let some = (counts_kept seats 1 long).0 more in
    let enough = some.enough in
    let one = hosts_with-some some.makers (omega (arith, enough)) in
    let at = seat_there seats one.0 (some.each one.0 one.2) in
    (one.0, at.0, at.1)

-- nothing stands in empty places
none_there : {A : Type 0} (n m : ℕ) (x : A) → slice_index_or (replicate n None) m None ≡ Some x → ⊥
none_there zero m x e = cc
none_there (suc n) zero x e = cc
none_there (suc n) (suc m) x e = none_there n m x e

-- nor in nobody's seats
pub nobody_there : {A : Type 0} (m : ℕ) (x : A) → seat_of no_seats m ≡ Some x → ⊥
nobody_there m x e = none_there 32 m x e

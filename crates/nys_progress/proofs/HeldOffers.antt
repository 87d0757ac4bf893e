-- What of an offer a node doesn't lose before its log is past the slot: that it holds one. And heads that are overdue.
use Rattle.std.proofs.Common.{◌≡◌, ℕ, zero, suc, ◌+◌, ◌<◌, ◌≤◌, ◌&&◌, Bool, true, false, List, [], ◌∷◌, length, Some, None, refl, ap, sym, subst, ◌∙◌, inl, inr, arith, length-append, lt-ltb}
use Rattle.std.specs.Prelude.{cond, if◌then◌else◌, is_none, Option}
use Rattle.std.specs.List.{position, position_or_len}
use Rattle.std.proofs.lemmas.List.Sums.{fails_before_first}
use Rattle.nys_bytes.specs.declared.content.Content.{Content}
use Rattle.nys_votes.specs.Seats.{seat_of}
use Rattle.nys_votes.specs.Ordered.{is_ordered}
use Rattle.nys_stmt.specs.declared.tags.Tags.{Tags}
use Rattle.nys_rules.specs.Forged.{Entry}
use Rattle.nys_rules.specs.Noting.{collected, is_content, orderers, with_certificate, with_held, with_orders, with_votes}
use Rattle.nys_rules.specs.Taking.{with_deliver, with_offer, with_order, with_sent}
use Rattle.nys_rules.specs.View.{Desk, entering, first_view, length_of, View, with_links}
use Rattle.nys_rules.specs.World.{fresh_world, Setting}
use Rattle.nys_follows.proofs.FeedingWorlds.{low_or_not}
use Rattle.nys_laws.specs.Worlds.{InEachWorld}
use Rattle.nys_laws.proofs.WorldKeeping.{HoldsOfNodes, StepsKeep, worlds_keep}
use Rattle.nys_progress.proofs.HostMoves.{DeskMoves, HostMoves, record_moves, rule_moves}
use Rattle.nys_progress.proofs.HostMoves.DeskMoves.{Certifies, Collects, Delivers, Holds, Offers, Orders, Rests, Sends, Votes}
use Rattle.nys_progress.proofs.HostMoves.HostMoves.{Enters, Grows, Waits}
use Rattle.nys_progress.proofs.MarkedDesks.{IsKept}

-- ---- an offer is held

-- some offer is held
abbrev pub HasHeld : Desk → Type 0
HasHeld desk = (c : Content) × (desk.held ≡ Some c)

-- collected orders change no offer
orders_held : (c : Content) (makers : List Tags) (desk : Desk)
    → ((with_orders c makers desk).held ≡ desk.held) × ((with_orders c makers desk).offered ≡ desk.offered)
unfolding with_orders
orders_held c makers desk = by (is_content desk.offered c)
  where
    by : (b : Bool)
        → ((if b then record desk { orders = collected makers desk.orders } else desk).held ≡ desk.held)
        × ((if b then record desk { orders = collected makers desk.orders } else desk).offered ≡ desk.offered)
    by true = (refl, refl)
    by false = (refl, refl)

-- nor does a certificate
certificate_held : (q : ℕ) (c : Content) (makers : List Tags) (desk : Desk)
    → ((with_certificate q c makers desk).held ≡ desk.held) × ((with_certificate q c makers desk).offered ≡ desk.offered)
unfolding with_certificate
certificate_held q c makers desk = by (is_ordered q (orderers c makers desk) && is_none desk.certified)
  where
    by : (b : Bool) → ((if b then record desk { certified = Some c } else desk).held ≡ desk.held)
        × ((if b then record desk { certified = Some c } else desk).offered ≡ desk.offered)
    by true = (refl, refl)
    by false = (refl, refl)

-- so one is held still
pub held_kept : IsKept HasHeld
unfolding with_offer with_held with_order with_sent with_deliver with_votes
held_kept me desk next (Rests is) k = subst HasHeld (sym is) k
held_kept me desk next (Offers c is) k = subst HasHeld (sym is) (c, refl)
held_kept me desk next (Holds c is) k = subst HasHeld (sym is) (c, refl)
held_kept me desk next (Orders at_host c tags is) k = subst HasHeld (sym is) k
held_kept me desk next (Collects c makers is) k =
    (k.0, ap (λ (d : Desk). d.held) is ∙ ((orders_held c makers desk).0 ∙ k.1))
held_kept me desk next (Certifies q c makers is) k =
    (k.0, ap (λ (d : Desk). d.held) is ∙ ((certificate_held q c makers desk).0 ∙ k.1))
held_kept me desk next (Sends is) k = subst HasHeld (sym is) k
held_kept me desk next (Delivers c tags is) k = subst HasHeld (sym is) k
held_kept me desk next (Votes c makers is) k = subst HasHeld (sym is) k

-- a host that offered holds an offer
abbrev pub HoldsOwn : Desk → Type 0
HoldsOwn desk = (c : Content) → desk.offered ≡ Some c → HasHeld desk

-- whatever happens to the desk
own_held : (me : ℕ) (desk next : Desk) → DeskMoves me desk next → HoldsOwn desk → HoldsOwn next
unfolding with_offer with_held with_order with_sent with_deliver with_votes
own_held me desk next (Rests is) k = subst HoldsOwn (sym is) k
own_held me desk next (Offers c is) k = subst HoldsOwn (sym is) (λ d made. (c, refl))
own_held me desk next (Holds c is) k = subst HoldsOwn (sym is) (λ d made. (c, refl))
own_held me desk next (Orders at_host c tags is) k = subst HoldsOwn (sym is) k
own_held me desk next (Collects c makers is) k = λ d made.
    held_kept me desk next (Collects c makers is) (k d (sym (ap (λ (x : Desk). x.offered) is ∙ (orders_held c makers desk).1) ∙ made))
own_held me desk next (Certifies q c makers is) k = λ d made.
    held_kept me desk next (Certifies q c makers is) (k d (sym (ap (λ (x : Desk). x.offered) is ∙ (certificate_held q c makers desk).1) ∙ made))
own_held me desk next (Sends is) k = subst HoldsOwn (sym is) k
own_held me desk next (Delivers c tags is) k = subst HoldsOwn (sym is) k
own_held me desk next (Votes c makers is) k = subst HoldsOwn (sym is) k

-- at each desk of a node
abbrev pub HoldOwn : ℕ → List Entry → View → Type 0
HoldOwn g ledger v = (h : ℕ) → HoldsOwn (v.desks h)

-- a step
hold_moves : (h : ℕ) (v next : View) → HostMoves h v next → HoldsOwn (v.desks h) → HoldsOwn (next.desks h)
hold_moves h v next (Waits stays logs desks) k = own_held v.me (v.desks h) (next.desks h) desks k
hold_moves h v next (Grows stays c logs desks) k = subst HoldsOwn (sym desks) (λ d made. absurd (cc))
hold_moves h v next (Enters same later logs desks) k = subst HoldsOwn (sym desks) (λ d made. absurd (cc))

-- each step
hold_steps : {S : Type 0} (setting : Setting S) → StepsKeep setting HoldOwn
hold_steps setting = record {
  beside = λ party made g ledger v ne k. k;
  rules = λ g ledger v rule is k h. hold_moves h v _ (rule_moves setting.scope v rule h) (k h);
  records = λ g ledger v r read is makers k h. hold_moves h v _ (record_moves setting.scope v r h is) (k h);
  inputs = λ g ledger v payload k. k;
  asking = λ g ledger v k. k;
}

-- the first world
first_held : {S : Type 0} (setting : Setting S) → HoldsOfNodes HoldOwn (fresh_world setting)
unfolding fresh_world first_view entering with_links
first_held setting g ne h c made = absurd (cc)

-- in each world
pub hold_own : {S : Type 0} (setting : Setting S) → InEachWorld setting (HoldsOfNodes HoldOwn)
hold_own setting events w happen =
    worlds_keep setting HoldOwn (hold_steps setting) (fresh_world setting) w events happen (first_held setting)

-- ---- heads that are overdue

-- no head is overdue in the slot
abbrev pub NoneLate : (credit slot : ℕ) → List (Option ℕ) → Type 0
NoneLate credit slot heads = (p u : ℕ) → seat_of heads p ≡ Some u → slot < u + credit

-- a node never goes back
pub no_back : (h : ℕ) (v next : View) → HostMoves h v next
    → (v.epoch ≤ next.epoch) × (length_of v h ≤ length_of next h)
no_back h v next (Waits stays logs desks) =
    let at = stays.epoch in let same = ap length logs in (omega (arith, at), omega (arith, same))
no_back h v next (Grows stays c logs desks) =
    let at = stays.epoch in let same = ap length logs in let one = length-append (v.logs h) (c ∷ []) in
    (omega (arith, at), omega (arith, same, one))
no_back h v next (Enters me later logs desks) =
    let same = ap length logs in (omega (arith, later), omega (arith, same))

-- a seat in which something stands is one of the list
seat_within : (heads : List (Option ℕ)) (p u : ℕ) → seat_of heads p ≡ Some u → p < length heads
seat_within [] p u at = absurd (cc)
seat_within (x ∷ heads) zero u at = omega arith
seat_within (x ∷ heads) (suc p) u at = let low = seat_within heads p u at in omega (arith, low)

-- where no place is found nothing passes
pub none_passes : (test : Option ℕ → Bool) (heads : List (Option ℕ)) → position test heads ≡ None → (p u : ℕ)
    → seat_of heads p ≡ Some u
    → test (Some u) ≡ true → ⊥
none_passes test heads none p u at is = elim (low_or_not (position_or_len test heads) (length heads)) [
  | inl low ↦
      let found = ap (λ (b : Bool). cond b (Some (position_or_len test heads)) None) (lt-ltb (position_or_len test heads) (length heads) low) in
      let no = sym found ∙ none in cc
  | inr past ↦
      let within = seat_within heads p u at in
      let fails = fails_before_first test heads p None (omega (arith, within, past)) in
      let no = sym fails ∙ (ap test at ∙ is) in cc
]

-- What a step of a node doesn't lose: entries of logs, and marks on the desk of a slot until the log is past it.
use Rattle.std.proofs.Common.{◌≡◌, ℕ, ◌<◌, ◌≤◌, ◌⊎◌, ◌&&◌, Bool, true, false, List, [], ◌∷◌, ◌++◌, length, Some, None, refl, ap, sym, subst, ◌∙◌, inl, inr, arith, length-append}
use Rattle.std.specs.Prelude.{if◌then◌else◌, is_none, is_some, Option, slice_get}
use Rattle.nys_agreement.proofs.ListLemmas.{append_some}
use Rattle.nys_bytes.specs.declared.content.Content.{Content}
use Rattle.nys_votes.specs.Seats.{is_seated, seat_of, with_seat}
use Rattle.nys_votes.specs.declared.vote.Vote.{Vote}
use Rattle.nys_rules.specs.Certificates.{HasSeats}
use Rattle.nys_rules.specs.Forged.{Entry}
use Rattle.nys_rules.specs.Noting.{collected, is_content, orderers, with_certificate, with_held, with_orders, with_votes}
use Rattle.nys_votes.specs.Ordered.{is_ordered}
use Rattle.nys_rules.specs.Taking.{with_deliver, with_offer, with_order, with_sent}
use Rattle.nys_rules.specs.View.{Desk, empty_desk, first_view, entering, length_of, View, with_links}
use Rattle.nys_rules.specs.World.{fresh_world, Setting}
use Rattle.nys_rules.proofs.SeatCases.{seats_keep, with_seat_keeps, with_seat_takes}
use Rattle.nys_stmt.specs.declared.tags.Tags.{Tags}
use Rattle.nys_laws.specs.Rests.{IsSound}
use Rattle.nys_laws.specs.SetUp.{AreHosts}
use Rattle.nys_laws.specs.Worlds.{InEachWorld}
use Rattle.nys_laws.proofs.RestsWorlds.{are_sound, sound_steps}
use Rattle.nys_laws.proofs.WorldKeeping.{HoldsOfNodes, StepsKeep, worlds_keep}
use Rattle.nys_progress.proofs.HostMoves.{DeskMoves, HostMoves, record_moves, rule_moves}
use Rattle.nys_progress.proofs.HostMoves.DeskMoves.{Certifies, Collects, Delivers, Holds, Offers, Orders, Rests, Sends, Votes}
use Rattle.nys_progress.proofs.HostMoves.HostMoves.{Enters, Grows, Waits}

-- ---- entries

-- an entry stays in a log
entry_moves : (h slot : ℕ) (c : Content) (v next : View) → HostMoves h v next
    → slice_get (v.logs h) slot ≡ Some c
    → slice_get (next.logs h) slot ≡ Some c
entry_moves h slot c v next (Waits stays logs desks) get = ap (λ l. slice_get l slot) logs ∙ get
entry_moves h slot c v next (Grows stays d logs desks) get =
    ap (λ l. slice_get l slot) logs ∙ append_some (v.logs h) (d ∷ []) slot c get
entry_moves h slot c v next (Enters me later logs desks) get = ap (λ l. slice_get l slot) logs ∙ get

-- at the node of g
abbrev pub HasEntry : (g h slot : ℕ) → Content → ℕ → List Entry → View → Type 0
HasEntry g h slot c x ledger v = x ≡ g → slice_get (v.logs h) slot ≡ Some c

-- whatever it does
pub entry_steps : {S : Type 0} (setting : Setting S) (g h slot : ℕ) (c : Content)
    → StepsKeep setting (HasEntry g h slot c)
entry_steps setting g h slot c = record {
  beside = λ party made x ledger v ne k. k;
  rules = λ x ledger v rule is k same. entry_moves h slot c v _ (rule_moves setting.scope v rule h) (k same);
  records = λ x ledger v r read is makers k same. entry_moves h slot c v _ (record_moves setting.scope v r h is) (k same);
  inputs = λ x ledger v payload k. k;
  asking = λ x ledger v k. k;
}

-- ---- marks

-- the log of h is past the slot, or the slot is the one behind it and the desk has the mark
abbrev pub Stands : (h slot : ℕ) → (Desk → Type 0) → View → Type 0
Stands h slot Mark v = (slot < length_of v h) ⊎ ((length_of v h ≡ slot) × Mark (v.desks h))

-- as an epoch began, at or past the slot
pub record IsHere (h slot : ℕ) (Mark : Desk → Type 0) (v : View) : Type 0 where
  pub lives : v.retired h ≡ false
  pub above : v.base h ≤ slot
  pub stands : Stands h slot Mark v

-- so it is in the epoch, which the node is in or past
pub record StandsIn (e h slot : ℕ) (Mark : Desk → Type 0) (v : View) : Type 0 where
  pub rises : e ≤ v.epoch
  pub here : v.epoch ≡ e → IsHere h slot Mark v

-- no change of a desk takes the mark away
abbrev pub IsKept : (Desk → Type 0) → Type 0
IsKept Mark = (me : ℕ) (desk next : Desk) → DeskMoves me desk next → Mark desk → Mark next

-- so no step does until the log is past the slot
pub stands_moves : (e h slot : ℕ) (Mark : Desk → Type 0) → IsKept Mark → (v next : View)
    → HostMoves h v next
    → StandsIn e h slot Mark v → StandsIn e h slot Mark next
stands_moves e h slot Mark kept v next (Waits stays logs desks) k = record {
  rises = let at = stays.epoch in let was = k.rises in omega (arith, at, was);
  here = λ now.
      let was = k.here (sym stays.epoch ∙ now) in
      let same : length_of next h ≡ length_of v h = ap length logs in
      let low = was.above in let base = stays.base in record {
        lives = stays.retired ∙ was.lives;
        above = omega (arith, low, base);
        stands = elim was.stands [
          | inl past ↦ inl (omega (arith, past, same))
          | inr at ↦ inr (same ∙ at.0, kept v.me (v.desks h) (next.desks h) desks at.1)
        ];
      };
}
stands_moves e h slot Mark kept v next (Grows stays c logs desks) k = record {
  rises = let at = stays.epoch in let was = k.rises in omega (arith, at, was);
  here = λ now.
      let was = k.here (sym stays.epoch ∙ now) in
      let longer : length_of next h ≡ length (v.logs h ++ c ∷ []) = ap length logs in
      let one = length-append (v.logs h) (c ∷ []) in
      let low = was.above in let base = stays.base in record {
        lives = stays.retired ∙ was.lives;
        above = omega (arith, low, base);
        stands = elim was.stands [
          | inl past ↦ inl (omega (arith, past, longer, one))
          | inr at ↦ inl (let is = at.0 in omega (arith, is, longer, one))
        ];
      };
}
stands_moves e h slot Mark kept v next (Enters me later logs desks) k = record {
  rises = let was = k.rises in omega (arith, later, was);
  here = λ now. absurd (let was = k.rises in omega (arith, later, was, now));
}

-- at the node of g
abbrev pub StandsAt : (g e h slot : ℕ) → (Desk → Type 0) → ℕ → List Entry → View → Type 0
StandsAt g e h slot Mark x ledger v = x ≡ g → StandsIn e h slot Mark v

-- whatever it does
pub stands_steps : {S : Type 0} (setting : Setting S) (g e h slot : ℕ) (Mark : Desk → Type 0) → IsKept Mark
    → StepsKeep setting (StandsAt g e h slot Mark)
stands_steps setting g e h slot Mark kept = record {
  beside = λ party made x ledger v ne k. k;
  rules = λ x ledger v rule is k same. stands_moves e h slot Mark kept v _ (rule_moves setting.scope v rule h) (k same);
  records = λ x ledger v r read is makers k same. stands_moves e h slot Mark kept v _ (record_moves setting.scope v r h is) (k same);
  inputs = λ x ledger v payload k same. let was = k same in record { rises = was.rises; here = λ now. let at = was.here now in record { lives = at.lives; above = at.above; stands = at.stands } };
  asking = λ x ledger v k. k;
}

-- ---- votes

-- the maker's vote is kept
abbrev pub HasVote : ℕ → Desk → Type 0
HasVote m desk = (vote : Vote) × (seat_of desk.votes m ≡ Some vote)

-- collected orders change no vote
orders_votes : (c : Content) (makers : List Tags) (desk : Desk)
    → (with_orders c makers desk).votes ≡ desk.votes
unfolding with_orders
orders_votes c makers desk = by (is_content desk.offered c)
  where
    by : (b : Bool)
        → (if b then record desk { orders = collected makers desk.orders } else desk).votes ≡ desk.votes
    by true = refl
    by false = refl

-- nor does a certificate
certificate_votes : (q : ℕ) (c : Content) (makers : List Tags) (desk : Desk)
    → (with_certificate q c makers desk).votes ≡ desk.votes
unfolding with_certificate
certificate_votes q c makers desk = by (is_ordered q (orderers c makers desk) && is_none desk.certified)
  where
    by : (b : Bool) → (if b then record desk { certified = Some c } else desk).votes ≡ desk.votes
    by true = refl
    by false = refl

-- neither changes the own Deliver
orders_delivered : (c : Content) (makers : List Tags) (desk : Desk)
    → (with_orders c makers desk).delivered ≡ desk.delivered
unfolding with_orders
orders_delivered c makers desk = by (is_content desk.offered c)
  where
    by : (b : Bool)
        → (if b then record desk { orders = collected makers desk.orders } else desk).delivered ≡ desk.delivered
    by true = refl
    by false = refl

-- nor does a certificate
certificate_delivered : (q : ℕ) (c : Content) (makers : List Tags) (desk : Desk)
    → (with_certificate q c makers desk).delivered ≡ desk.delivered
unfolding with_certificate
certificate_delivered q c makers desk = by (is_ordered q (orderers c makers desk) && is_none desk.certified)
  where
    by : (b : Bool) → (if b then record desk { certified = Some c } else desk).delivered ≡ desk.delivered
    by true = refl
    by false = refl

-- a vote that is kept stays
votes_kept : (m me : ℕ) (desk next : Desk) (vote : Vote) → DeskMoves me desk next
    → seat_of desk.votes m ≡ Some vote
    → seat_of next.votes m ≡ Some vote
unfolding with_offer with_held with_order with_sent with_deliver with_votes
votes_kept m me desk next vote (Rests is) get = subst (λ (d : Desk). seat_of d.votes m ≡ Some vote) (sym is) get
votes_kept m me desk next vote (Offers c is) get = subst (λ (d : Desk). seat_of d.votes m ≡ Some vote) (sym is) get
votes_kept m me desk next vote (Holds c is) get = subst (λ (d : Desk). seat_of d.votes m ≡ Some vote) (sym is) get
votes_kept m me desk next vote (Orders at_host c tags is) get = subst (λ (d : Desk). seat_of d.votes m ≡ Some vote) (sym is) get
votes_kept m me desk next vote (Collects c makers is) get =
    subst (λ vs. seat_of vs m ≡ Some vote) (sym (ap (λ (d : Desk). d.votes) is ∙ orders_votes c makers desk)) get
votes_kept m me desk next vote (Certifies q c makers is) get =
    subst (λ vs. seat_of vs m ≡ Some vote) (sym (ap (λ (d : Desk). d.votes) is ∙ certificate_votes q c makers desk)) get
votes_kept m me desk next vote (Sends is) get = subst (λ (d : Desk). seat_of d.votes m ≡ Some vote) (sym is) get
votes_kept m me desk next vote (Delivers c tags is) get =
    subst (λ (d : Desk). seat_of d.votes m ≡ Some vote) (sym is)
    (with_seat_keeps me (record { content = c; tags = tags }) desk.votes m vote get)
votes_kept m me desk next vote (Votes c makers is) get =
    subst (λ (d : Desk). seat_of d.votes m ≡ Some vote) (sym is)
    (seats_keep (λ (t : Tags). t.maker) (λ (t : Tags). record { content = c; tags = t.tags }) makers desk.votes m vote get)

-- so the mark does
pub vote_kept : (m : ℕ) → IsKept (HasVote m)
vote_kept m me desk next moves k = (k.0, votes_kept m me desk next k.0 moves k.1)

-- ---- the own vote

-- what stands of a vote once a seat is taken
pub seat_there : {A : Type 0} (seats : List (Option A)) (m : ℕ) → is_seated seats m ≡ true
    → (x : A) × (seat_of seats m ≡ Some x)
seat_there {A} seats m is = by (seat_of seats m) refl
  where
    by : (o : Option A) → seat_of seats m ≡ o → (x : A) × (seat_of seats m ≡ Some x)
    by (Some x) at = (x, at)
    by None at = absurd (let no = sym (ap is_some at) ∙ is in cc)

-- a host that made its Deliver for the slot keeps its own vote
abbrev pub HasOwn : ℕ → Desk → Type 0
HasOwn me desk = me < 32 → (c : Content) → desk.delivered ≡ Some c → HasVote me desk

-- so it is whatever happens to the desk
own_kept : (me : ℕ) (desk next : Desk) → length desk.votes ≡ 32 → DeskMoves me desk next → HasOwn me desk
    → HasOwn me next
unfolding with_offer with_held with_order with_sent with_deliver with_votes
own_kept me desk next seats (Rests is) k = subst (HasOwn me) (sym is) k
own_kept me desk next seats (Offers c is) k = subst (HasOwn me) (sym is) k
own_kept me desk next seats (Holds c is) k = subst (HasOwn me) (sym is) k
own_kept me desk next seats (Orders at_host c tags is) k = subst (HasOwn me) (sym is) k
own_kept me desk next seats (Collects c makers is) k = λ low d made.
    vote_kept me me desk next (Collects c makers is) (k low d (sym (ap (λ (x : Desk). x.delivered) is ∙ orders_delivered c makers desk) ∙ made))
own_kept me desk next seats (Certifies q c makers is) k = λ low d made.
    vote_kept me me desk next (Certifies q c makers is) (k low d (sym (ap (λ (x : Desk). x.delivered) is ∙ certificate_delivered q c makers desk) ∙ made))
own_kept me desk next seats (Sends is) k = subst (HasOwn me) (sym is) k
own_kept me desk next seats (Delivers c tags is) k = λ low d made.
    subst (HasVote me) (sym is)
    (seat_there (with_seat me (record { content = c; tags = tags }) desk.votes) me
    (with_seat_takes me (record { content = c; tags = tags }) desk.votes (omega (arith, low, seats))))
own_kept me desk next seats (Votes c makers is) k = λ low d made.
    vote_kept me me desk next (Votes c makers is) (k low d (sym (ap (λ (x : Desk). x.delivered) is) ∙ made))

-- at a node
pub record KeepsVotes {S : Type 0} (setting : Setting S) (g : ℕ) (ledger : List Entry) (v : View) : Type 0 where
  pub sound : IsSound setting g ledger v
  pub own : (h : ℕ) → HasOwn g (v.desks h)

-- an empty desk
own_empty : (me : ℕ) → HasOwn me empty_desk
own_empty me low c made = absurd (cc)

-- a step
own_moves : (g h : ℕ) (v next : View) → v.me ≡ g → HasSeats v → HostMoves h v next → HasOwn g (v.desks h)
    → HasOwn g (next.desks h)
own_moves g h v next me seats (Waits stays logs desks) k =
    own_kept g (v.desks h) (next.desks h) (seats.desks h).votes (subst (λ x. DeskMoves x (v.desks h) (next.desks h)) me desks) k
own_moves g h v next me seats (Grows stays c logs desks) k = subst (HasOwn g) (sym desks) (own_empty g)
own_moves g h v next me seats (Enters same later logs desks) k = subst (HasOwn g) (sym desks) (own_empty g)

-- each step
pub vote_steps : {S : Type 0} (setting : Setting S) → AreHosts setting.scope
    → StepsKeep setting (KeepsVotes setting)
vote_steps setting hosts = let sound = sound_steps setting hosts in record {
  beside = λ party made g ledger v ne k. record { sound = sound.beside party made g ledger v ne k.sound; own = k.own };
  rules = λ g ledger v rule is k. record {
    sound = sound.rules g ledger v rule is k.sound;
    own = λ h. own_moves g h v _ k.sound.own.host k.sound.seats (rule_moves setting.scope v rule h) (k.own h);
  };
  records = λ g ledger v r read is makers k. record {
    sound = sound.records g ledger v r read is makers k.sound;
    own = λ h. own_moves g h v _ k.sound.own.host k.sound.seats (record_moves setting.scope v r h is) (k.own h);
  };
  inputs = λ g ledger v payload k. record { sound = sound.inputs g ledger v payload k.sound; own = k.own };
  asking = λ g ledger v k. record { sound = sound.asking g ledger v k.sound; own = k.own };
}

-- the first world
first_votes : {S : Type 0} (setting : Setting S) → AreHosts setting.scope
    → HoldsOfNodes (KeepsVotes setting) (fresh_world setting)
unfolding fresh_world first_view entering with_links
first_votes setting hosts g ne = record {
  sound = are_sound setting hosts [] (fresh_world setting) refl g ne;
  own = λ h. own_empty g;
}

-- in each world
pub keep_votes : {S : Type 0} (setting : Setting S) → AreHosts setting.scope
    → InEachWorld setting (HoldsOfNodes (KeepsVotes setting))
keep_votes setting hosts events w happen =
    worlds_keep setting (KeepsVotes setting) (vote_steps setting hosts) (fresh_world setting) w events happen
    (first_votes setting hosts)

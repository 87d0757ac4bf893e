-- A node that hears of one number of a link.
use Rattle.std.proofs.Common.{◌≡◌, ◌≢◌, ℕ, ◌+◌, ◌<◌, ◌≤◌, ◌&&◌, Bool, true, false, cond, ℤ, List, drop, Option, Some, None, refl, ap, sym, subst, ◌∙◌, arith, ◌⊎◌, inl, inr, eq-eqb, le-leb, lt-ltb}
use Rattle.std.specs.Prelude.{nat_le, nat_lt, slice_get, slice_index_or, slice_set, is_some, Result, Ok}
use Rattle.std.specs.Vec.{with_item}
use Rattle.std.proofs.lemmas.Bool.{cases_eq, ne_eqb}
use Rattle.std.proofs.lemmas.Bool.Decides.{leb_tells}
use Rattle.std.proofs.lemmas.List.{length-set}
use Rattle.std.proofs.lemmas.Option.{slice_get_read}
use Rattle.circular_buffer.proofs.Places.{slice_get-set_other, slice_get-set_same}
use Rattle.nys_attest.specs.Windows.{beside, is_in_window, next_of, recorded, seats_at, Window}
use Rattle.nys_attest.specs.declared.window.Recorded.{Recorded}
use Rattle.nys_attest.specs.declared.window.Recorded.TheVariants.{New, Other, Same}
use Rattle.nys_rules.specs.Noting.{hearing, with_attests}
use Rattle.nys_rules.specs.Scope.{Scope}
use Rattle.nys_rules.specs.View.{is_live, next_number, View}
use Rattle.nys_source.specs.Tables.{put, put_at}
use Rattle.nys_stmt.specs.declared.tags.Tags.{Tags}
use Rattle.nys_votes.specs.Contents.{same_payload}
use Rattle.nys_votes.specs.Seats.{seat_of, with_seat}
use Rattle.nys_node.specs.Hearing.{CanHear}
use Rattle.nys_node.specs.Means.{HearsOf, Means}
use Rattle.nys_node.specs.declared.node.Node.{Node}
use Rattle.nys_sending.proofs.TableLemmas.{same_found}
use Rattle.nys_sending.proofs.Walks.{drop_next}

-- the view's seats of numbers at receiver x, once those of number k of p to h are others
abbrev heard_with : (v : View) (p h k : ℕ) → List (Option (List ℤ)) → (q x l : ℕ) → List (Option (List ℤ))
heard_with v p h k seats = put v.heard p (put_at (v.heard p) h k seats)

-- at another receiver all is as before
heard_apart : (v : View) (p h k : ℕ) (seats : List (Option (List ℤ))) (q x l : ℕ) → x ≢ h → heard_with v p h k seats q x l ≡ v.heard q x l
heard_apart v p h k seats q x l ne = elim (cases_eq q p) [
  | inl e ↦ rw (eq-eqb q p e) (rw (ne_eqb x h ne) (ap (λ i. v.heard i x l) (sym e)))
  | inr other ↦ rw (ne_eqb q p other) refl
]

-- at that receiver the seats of one number are others
heard_here : (v : View) (p h k : ℕ) (seats : List (Option (List ℤ))) (q l : ℕ) → heard_with v p h k seats q h l ≡ put_at (λ i n. v.heard i h n) p k seats q l
heard_here v p h k seats q l = elim (cases_eq q p) [
  | inl e ↦ rw (eq-eqb q p e) (rw (eq-eqb h h refl) refl)
  | inr other ↦ rw (ne_eqb q p other) refl
]

-- a function with another value at one place of two
put_both : {A : Type 0} (f g : ℕ → ℕ → A) (p k : ℕ) (x y : A) (q l : ℕ) → x ≡ y → ((q ≡ p → l ≡ k → ⊥) → f q l ≡ g q l)
    → put_at f p k x q l ≡ put_at g p k y q l
put_both f g p k x y q l same rest = elim (cases_eq q p) [
  | inl e ↦ rw (eq-eqb q p e) (elim (cases_eq l k) [
    | inl at ↦ rw (eq-eqb l k at) same
    | inr ne ↦ rw (ne_eqb l k ne) (subst (λ i. f i l ≡ g i l) e (rest (λ a b. ne b)))
  ])
  | inr ne ↦ rw (ne_eqb q p ne) (rest (λ a b. ne a))
]

-- the value at its place
put_at_here : {A : Type 0} (f : ℕ → ℕ → A) (p k : ℕ) (x : A) → put_at f p k x p k ≡ x
put_at_here f p k x = rw (eq-eqb p p refl) (rw (eq-eqb k k refl) refl)

-- the value at another place
put_at_there : {A : Type 0} (f : ℕ → ℕ → A) (p k : ℕ) (x : A) (q l : ℕ) → (q ≡ p → l ≡ k → ⊥) → put_at f p k x q l ≡ f q l
put_at_there f p k x q l ne = elim (cases_eq q p) [
  | inl e ↦ rw (eq-eqb q p e) (rw (ne_eqb l k (λ at. ne e at)) (ap (λ i. f i l) (sym e)))
  | inr other ↦ rw (ne_eqb q p other) refl
]

-- the value that is there already
put_at_same : {A : Type 0} (f : ℕ → ℕ → A) (p k : ℕ) (q l : ℕ) → put_at f p k (f p k) q l ≡ f q l
put_at_same f p k q l = elim (cases_eq q p) [
  | inl e ↦ rw (eq-eqb q p e) (elim (cases_eq l k) [
    | inl at ↦ rw (eq-eqb l k at) (ap (λ i. f i k) (sym e) ∙ ap (λ n. f q n) (sym at))
    | inr ne ↦ rw (ne_eqb l k ne) (ap (λ i. f i l) (sym e))
  ])
  | inr ne ↦ rw (ne_eqb q p ne) refl
]

-- a number from the next on and below the window's end is in the window
pub in_window : (next k : ℕ) → next ≤ k → k < next + 64 → is_in_window next k ≡ true
in_window next k least most = both (nat_le next k) (nat_lt k (next + 64)) (le-leb next k least) (lt-ltb k (next + 64) most)
  where
    both : (a b : Bool) → a ≡ true → b ≡ true → (a && b) ≡ true
    both true b e f = f
    both false b e f = absurd (cc)

-- a number of the window is the next or a later one
pub window_least : (next k : ℕ) → is_in_window next k ≡ true → next ≤ k
window_least next k inside = pick (leb_tells next k)
  where
    first : (a b : Bool) → (a && b) ≡ true → a ≡ true
    first true b e = refl
    first false b e = absurd (cc)

    pick : ((nat_le next k ≡ true) × (next ≤ k)) ⊎ ((nat_le next k ≡ false) × (k < next)) → next ≤ k
    pick (inl least) = least.1
    pick (inr more) =
        let contrary : true ≡ false = sym (first (nat_le next k) (nat_lt k (next + 64)) inside) ∙ more.0 in absurd (cc)

-- the number that can be heard is in the window
pub can_window : {P S : Type 0} (scope : Scope S) (node : Node P S) (p h k : ℕ) (table : List Window) → p < 32 → h < 32
    → table ≡ slice_index_or node.heard.items h table → CanHear scope node p h k → is_in_window (next_of table p) k ≡ true
can_window scope node p h k table sender below at can =
    let m = can.means in
    let next : next_of table p ≡ next_number scope can.view p h =
    (m.heard h table (slice_get_read node.heard.items 32 h table (sym m.tables) below at)).next_is p sender in
    in_window (next_of table p) k (omega (arith, next, can.least)) (omega (arith, next, can.most))

-- one answer alone is the answer
pub same_answer : {A E : Type 0} (x y : A) → ◌≡◌ {A = Result A E} (Ok x) (Ok y) → x ≡ y
same_answer x y e = cc

-- in the window the first payload of a maker is kept
pub one_heard : (old new : List Window) (p k maker : ℕ) (payload : List ℤ) (answer : Recorded)
    → answer ≡ recorded (next_of old p) k (seats_at old p k) maker payload → is_in_window (next_of old p) k ≡ true
    → (answer ≡ New → (q l : ℕ) → seats_at new q l ≡ put_at (seats_at old) p k (with_seat maker payload (seats_at old p k)) q l)
    → ((answer ≡ New → ⊥) → (q l : ℕ) → seats_at new q l ≡ seats_at old q l) → (q l : ℕ)
    → seats_at new q l ≡ put_at (seats_at old) p k (with_seat maker payload (seats_at old p k)) q l
unfolding recorded with_seat
one_heard old new p k maker payload answer is inside kept same q l = by (seat_of seats maker) refl
  where
    seats : List (Option (List ℤ))
    seats = seats_at old p k

    told : answer ≡ beside (seat_of seats maker) payload
    told = is ∙ rw inside refl

    not_new : (b : Bool) → answer ≡ cond b Same Other → answer ≡ New → ⊥
    not_new true e f = cc
    not_new false e f = cc

    by : (o : Option (List ℤ)) → seat_of seats maker ≡ o
        → seats_at new q l ≡ put_at (seats_at old) p k (cond (is_some (seat_of seats maker)) seats (slice_set seats maker (Some payload))) q l
    by None e = kept (told ∙ ap (λ o. beside o payload) e) q l
    by (Some other) e = rw e (same (not_new (same_payload other payload) (told ∙ ap (λ o. beside o payload) e)) q l ∙ sym (put_at_same (seats_at old) p k q l))

-- only one number has other seats, then they are changed again
pub frame_on : (old mid new : List Window) (p k : ℕ) (seats : List (Option (List ℤ)))
    → ((q l : ℕ) → seats_at mid q l ≡ put_at (seats_at old) p k (seats_at mid p k) q l)
    → ((q l : ℕ) → seats_at new q l ≡ put_at (seats_at mid) p k seats q l) → (q l : ℕ)
    → seats_at new q l ≡ put_at (seats_at old) p k (seats_at new p k) q l
frame_on old mid new p k seats before after q l = after q l
    ∙ put_both (seats_at mid) (seats_at old) p k seats (seats_at new p k) q l (sym (after p k ∙ put_at_here (seats_at mid) p k seats))
    (λ ne. before q l ∙ put_at_there (seats_at old) p k (seats_at mid p k) q l ne)

-- the next maker is heard, and the rest is left
pub rest_on : (mid new : List Window) (p k i : ℕ) (payload : List ℤ) (makers : List Tags) (tags : Tags) → slice_get makers i ≡ Some tags
    → ((q l : ℕ) → seats_at new q l ≡ put_at (seats_at mid) p k (with_seat tags.maker payload (seats_at mid p k)) q l)
    → hearing payload (drop (i + 1) makers) (seats_at new p k) ≡ hearing payload (drop i makers) (seats_at mid p k)
rest_on mid new p k i payload makers tags at after =
    ap (λ seats. hearing payload (drop (i + 1) makers) seats) (after p k ∙ put_at_here (seats_at mid) p k (with_seat tags.maker payload (seats_at mid p k)))
    ∙ ap (λ left. hearing payload left (seats_at mid p k)) (sym (drop_next makers i tags at))

-- what makers attest for one number of a link is heard
pub means_hear : {P S : Type 0} (scope : Scope S) (node : Node P S) (p h k : ℕ) (payload : List ℤ) (makers : List Tags) (old new : List Window)
    → p < 32 → h < 32 → old ≡ slice_index_or node.heard.items h old → next_of old p ≤ k
    → ((q : ℕ) → next_of new q ≡ next_of old q)
    → ((q l : ℕ) → seats_at new q l ≡ put_at (seats_at old) p k (hearing payload makers (seats_at old p k)) q l)
    → (v : View) → Means scope node v → Means scope (record node { heard = with_item node.heard h new }) (with_attests p h k payload makers v)
unfolding is_live next_number with_attests
means_hear scope node p h k payload makers old new sender below at least nexts seats v m = record {
  me = m.me;
  host = m.host;
  few = m.few;
  epoch = m.epoch;
  within = m.within;
  wedged = m.wedged;
  live = m.live;
  retired = m.retired;
  base = m.base;
  voted_to = m.voted_to;
  waiting = m.waiting;
  room = m.room;
  desks = m.desks;
  slots = m.slots;
  rows = m.rows;
  replicas = m.replicas;
  kept = m.kept;
  banks = m.banks;
  links = m.links;
  tables = length-set node.heard.items h new ∙ m.tables;
  heard = λ x table found. elim (cases_eq x h) [
    | inl e ↦ subst (λ y. HearsOf table (λ q. next_number scope v q y) (λ q l. heard_with v p h k attested q y l)) (sym e)
        (subst (λ t. HearsOf t (λ q. next_number scope v q h) (λ q l. heard_with v p h k attested q h l)) (sym (found_is x table e found)) here)
    | inr ne ↦
        let apart = m.heard x table (sym (slice_get-set_other node.heard.items h x new ne) ∙ found) in
        record {
          next_is = apart.next_is;
          heard_is = λ q l inside past. apart.heard_is q l inside past ∙ sym (heard_apart v p h k attested q x l ne);
        }
  ];
}
  where
    attested : List (Option (List ℤ))
    attested = hearing payload makers (v.heard p h k)

    before : HearsOf old (λ q. next_number scope v q h) (λ q l. v.heard q h l)
    before = m.heard h old (slice_get_read node.heard.items 32 h old (sym m.tables) below at)

    found_is : (x : ℕ) (table : List Window) → x ≡ h → slice_get (slice_set node.heard.items h new) x ≡ Some table → table ≡ new
    found_is x table e found =
        same_found (slice_get (slice_set node.heard.items h new) h) new table (slice_get-set_same node.heard.items h new (omega (arith, below, m.tables)))
        (subst (λ z. slice_get (slice_set node.heard.items h new) z ≡ Some table) e found)

    here : HearsOf new (λ q. next_number scope v q h) (λ q l. heard_with v p h k attested q h l)
    here = record {
      next_is = λ q inside. nexts q ∙ before.next_is q inside;
      heard_is = λ q l inside past. seats q l
          ∙ put_both (seats_at old) (λ i n. v.heard i h n) p k _ _ q l
          (ap (λ s. hearing payload makers s) (before.heard_is p k sender (subst (λ n. n ≤ k) (before.next_is p sender) least)))
          (λ ne. before.heard_is q l inside past) ∙ sym (heard_here v p h k attested q l);
    }

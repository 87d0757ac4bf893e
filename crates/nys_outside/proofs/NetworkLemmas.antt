-- What links in memory tell after one direction of the table changed.
use Rattle.std.proofs.Common.{ℕ, zero, suc, ◌<◌, ◌≡◌, List, [], ◌∷◌, ◌++◌, length, get_or, set, refl, sym, ap, ◌∙◌, Option, Ok, false}
use Rattle.std.proofs.lemmas.List.{get_or-set_same, get_or-set_other}
use Rattle.nys_outside.specs.Counts.{RoseOnce, Calls}
use Rattle.nys_outside.specs.Network.{Directed, KeepsFrames, PollMoves, SendStep, PollStep, is_closed}
use Rattle.nys_outside.specs.Ways.{Way, no_way, place_of, way_of, network_of, GaveFront}
use Rattle.nys_outside.specs.declared.got.Got.{Got}
use Rattle.nys_outside.specs.declared.got.Got.TheVariants.{Frame, NotYet, Closed, Failed, NoMemory}
use Rattle.nys_outside.proofs.WayLemmas.{place_once}

-- a part that the new item shares with the old one is the same everywhere
pub set_shares : {A B : Type 0} (part : A → B) (xs : List A) (i j : ℕ) (x d : A) → part x ≡ part (get_or xs i d) →
    part (get_or (set xs i x) j d) ≡ part (get_or xs j d)
set_shares part [] i j x d same = refl
set_shares part (y ∷ ys) zero zero x d same = same
set_shares part (y ∷ ys) zero (suc j) x d same = refl
set_shares part (y ∷ ys) (suc i) zero x d same = refl
set_shares part (y ∷ ys) (suc i) (suc j) x d same = set_shares part ys i j x d same

-- the direction that changed
pub way_here : (ways : List Way) (from to : ℕ) (way : Way) → place_of from to < length ways →
    way_of (set ways (place_of from to) way) from to ≡ way
way_here ways from to way room = get_or-set_same ways (place_of from to) way no_way room

-- another direction
pub way_elsewhere : (ways : List Way) (from to f t : ℕ) (way : Way) → ((f ≡ from) × (t ≡ to) → ⊥) →
    way_of (set ways (place_of from to) way) f t ≡ way_of ways f t
way_elsewhere ways from to f t way apart =
    get_or-set_other ways (place_of from to) (place_of f t) way no_way (λ same. apart (place_once from to f t same))

-- a frame that waits behind the others of its direction
pub sent : (E : Type 0) (hosts : Option ℕ) (ways : List Way) (given : List Directed) (calls counted : Calls) (from to : ℕ) (frame : List ℕ) (way : Way) →
    place_of from to < length ways → way.waiting ≡ (way_of ways from to).waiting ++ frame ∷ [] → way.polls ≡ (way_of ways from to).polls →
    SendStep {T = Unit {0}} {E = E} from to frame (Ok tt)
    (network_of (record { hosts = hosts; ways = ways; given = given; calls = calls }))
    (network_of (record { hosts = hosts; ways = set ways (place_of from to) way; given = given; calls = counted }))
sent E hosts ways given calls counted from to frame way room waiting polls = record {
  moves = (
    ap (λ w. w.waiting) (way_here ways from to way room) ∙ waiting,
    λ f t apart. ap (λ w. w.waiting) (way_elsewhere ways from to f t way apart),
  );
  given = refl;
  polls = λ f t. set_shares (λ w. w.polls) ways (place_of from to) (place_of f t) way no_way polls;
  answered = λ f t. refl;
  closed = λ f t closed. closed;
}

-- a poll that leaves the frames
pub kept : (hosts : Option ℕ) (ways : List Way) (given given_now : List Directed) (calls counted : Calls) (from to : ℕ) (way : Way) →
    way.waiting ≡ (way_of ways from to).waiting → given_now ≡ given →
    KeepsFrames (network_of (record { hosts = hosts; ways = ways; given = given; calls = calls }))
    (network_of (record { hosts = hosts; ways = set ways (place_of from to) way; given = given_now; calls = counted }))
kept hosts ways given given_now calls counted from to way waiting same = record {
  waiting = λ f t. set_shares (λ w. w.waiting) ways (place_of from to) (place_of f t) way no_way waiting;
  given = same;
}

-- what a poll moved
pub moved : (got : Got) (hosts : Option ℕ) (ways : List Way) (given given_now : List Directed) (calls counted : Calls) (from to : ℕ) (buf : List ℕ) (way : Way) →
    place_of from to < length ways → GaveFront from to got buf (way_of ways from to).waiting way.waiting given given_now →
    PollMoves from to got buf (network_of (record { hosts = hosts; ways = ways; given = given; calls = calls }))
    (network_of (record { hosts = hosts; ways = set ways (place_of from to) way; given = given_now; calls = counted }))
moved Frame hosts ways given given_now calls counted from to buf way room front = (
  front.0 ∙ ap (λ w. buf ∷ w.waiting) (sym (way_here ways from to way room)),
  λ f t apart. ap (λ w. w.waiting) (way_elsewhere ways from to f t way apart),
  front.1,
)
moved NotYet hosts ways given given_now calls counted from to buf way room front =
    (front.0, kept hosts ways given given_now calls counted from to way front.1 front.2)
moved Closed hosts ways given given_now calls counted from to buf way room front = absurd front
moved Failed hosts ways given given_now calls counted from to buf way room front = absurd front
moved NoMemory hosts ways given given_now calls counted from to buf way room front =
    kept hosts ways given given_now calls counted from to way front.0 front.1

-- a poll that answered by what waited never answers that the direction is closed
pub open_still : (got : Got) (from to : ℕ) (buf : List ℕ) (old new : List (List ℕ)) (given given_now : List Directed) →
    GaveFront from to got buf old new given given_now → is_closed got ≡ false
open_still Frame from to buf old new given given_now front = refl
open_still NotYet from to buf old new given given_now front = refl
open_still Closed from to buf old new given given_now front = absurd front
open_still Failed from to buf old new given given_now front = absurd front
open_still NoMemory from to buf old new given given_now front = refl

-- a poll that was counted
pub polled : (got : Got) (hosts : Option ℕ) (ways : List Way) (given given_now : List Directed) (calls counted : Calls) (from to : ℕ) (buf : List ℕ) (way : Way) →
    place_of from to < length ways → RoseOnce (way_of ways from to).polls way.polls → is_closed got ≡ false →
    PollMoves from to got buf (network_of (record { hosts = hosts; ways = ways; given = given; calls = calls }))
    (network_of (record { hosts = hosts; ways = set ways (place_of from to) way; given = given_now; calls = counted })) →
    PollStep from to got buf (network_of (record { hosts = hosts; ways = ways; given = given; calls = calls }))
    (network_of (record { hosts = hosts; ways = set ways (place_of from to) way; given = given_now; calls = counted }))
polled got hosts ways given given_now calls counted from to buf way room rose unclosed moves = record {
  moves = moves;
  counted = rw (way_here ways from to way room) rose;
  other_polls = λ f t apart. ap (λ w. w.polls) (way_elsewhere ways from to f t way apart);
  answered = sym unclosed;
  other_answers = λ f t apart. refl;
  closed = λ f t closed. closed;
}

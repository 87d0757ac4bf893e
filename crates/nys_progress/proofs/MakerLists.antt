-- The makers of a record that all seats make, rising; and how many hosts a list of makers counts.
use Rattle.std.proofs.Common.{◌≡◌, ◌≢◌, ℕ, zero, suc, ◌+◌, ◌<◌, ◌≤◌, ◌==◌, ◌||◌, Bool, true, false, List, [], ◌∷◌, length, map, Some, None, refl, ap, sym, subst, ◌∙◌, inl, inr, arith}
use Rattle.std.specs.Prelude.{All, AllPairs, cond, Contains, Option}
use Rattle.std.proofs.lemmas.Bool.{cases_eq, ne_eqb}
use Rattle.std.proofs.lemmas.Bool.Decides.{Decides-eqb}
use Rattle.std.proofs.lemmas.List.Elements.{All-cons, All-nil}
use Rattle.std.proofs.lemmas.List.Kept.{AllPairs-cons}
use Rattle.nys_hosts.specs.Counts.{count_below, hosts_with}
use Rattle.nys_hosts.specs.Makers.{is_listed}
use Rattle.nys_hosts.proofs.CountLemmas.{count_below-none, count_below-one, count_below-suc, count_below-zero, hosts_with-within}
use Rattle.nys_votes.specs.Ordered.{makers_from, makers_of}
use Rattle.nys_votes.specs.Seats.{seat_of}
use Rattle.nys_stmt.specs.Makers.{AreMakers}
use Rattle.nys_stmt.specs.declared.tags.Tags.{Tags}
use Rattle.nys_wire.proofs.Steps.{IsBytes}
use Rattle.nys_follows.proofs.FeedingWorlds.{low_or_not}

-- the entry of a maker with its tags
abbrev pub entry : ℕ → List (ℕ × List ℕ) → Tags
entry m tags = record { maker = m; tags = tags }

-- what holds of each seat's entry holds of all entries
makers_all : (P : Tags → Type 0) (n : ℕ) (seats : List (Option (List (ℕ × List ℕ))))
    → ((m : ℕ) (tags : List (ℕ × List ℕ)) → seat_of seats m ≡ Some tags → P (entry (n + m) tags))
    → All P (makers_from n seats)
makers_all P n [] each = All-nil P
makers_all P n (None ∷ seats) each =
    makers_all P (n + 1) seats
    (λ m tags get. let same : n + suc m ≡ n + 1 + m = omega arith in subst (λ k. P (entry k tags)) same (each (suc m) tags get))
makers_all P n (Some own ∷ seats) each =
    All-cons P (entry n own) (makers_from (n + 1) seats)
    (let same : n + 0 ≡ n = omega arith in subst (λ k. P (entry k own)) same (each 0 own refl))
    (makers_all P (n + 1) seats
    (λ m tags get. let same : n + suc m ≡ n + 1 + m = omega arith in subst (λ k. P (entry k tags)) same (each (suc m) tags get)))

-- from the first seat on
pub seats_all : (P : Tags → Type 0) (seats : List (Option (List (ℕ × List ℕ))))
    → ((m : ℕ) (tags : List (ℕ × List ℕ)) → seat_of seats m ≡ Some tags → P (entry m tags)) → All P (makers_of seats)
unfolding makers_of
seats_all P seats each =
    makers_all P 0 seats (λ m tags get. let same : m ≡ 0 + m = omega arith in subst (λ k. P (entry k tags)) same (each m tags get))

-- makers rise
makers_rise : (n : ℕ) (seats : List (Option (List (ℕ × List ℕ)))) → AllPairs (λ (a b : Tags). a.maker < b.maker) (makers_from n seats)
makers_rise n [] = λ i j d lt within. absurd (omega (arith, within))
makers_rise n (None ∷ seats) = makers_rise (n + 1) seats
makers_rise n (Some own ∷ seats) =
    AllPairs-cons (λ (a b : Tags). a.maker < b.maker) (entry n own) (makers_from (n + 1) seats)
    (makers_all (λ t. n < t.maker) (n + 1) seats (λ m tags get. omega arith)) (makers_rise (n + 1) seats)

-- a seat in which something stands is one of the list
pub seat_low : {A : Type 0} (seats : List (Option A)) (m : ℕ) (x : A) → seat_of seats m ≡ Some x → m < length seats
seat_low [] m x at = absurd (cc)
seat_low (o ∷ seats) zero x at = omega arith
seat_low (o ∷ seats) (suc m) x at = let low = seat_low seats m x at in omega (arith, low)

-- so they are makers of a record
pub seats_are_makers : (seats : List (Option (List (ℕ × List ℕ)))) → length seats ≤ 33 → AreMakers (makers_of seats)
unfolding makers_of
seats_are_makers seats long = record {
  rising = makers_rise 0 seats;
  parties = makers_all (λ t. t.maker ≤ 32) 0 seats
      (λ m tags get. let low = seat_low seats m tags get in omega (arith, low, long));
}

-- what stands in a seat is among them
makers_among : (n : ℕ) (seats : List (Option (List (ℕ × List ℕ)))) (m : ℕ) (tags : List (ℕ × List ℕ))
    → seat_of seats m ≡ Some tags → Contains (makers_from n seats) (entry (n + m) tags)
makers_among n [] m tags get = absurd (cc)
makers_among n (None ∷ seats) zero tags get = absurd (cc)
makers_among n (None ∷ seats) (suc m) tags get =
    let same : n + 1 + m ≡ n + suc m = omega arith in
    subst (λ k. Contains (makers_from (n + 1) seats) (entry k tags)) same (makers_among (n + 1) seats m tags get)
makers_among n (Some own ∷ seats) zero tags get =
    let is : own ≡ tags = cc in
    let same : n ≡ n + 0 = omega arith in
    (0, omega arith, ap (λ k. entry k own) same ∙ ap (entry (n + 0)) is)
makers_among n (Some own ∷ seats) (suc m) tags get =
    let same : n + 1 + m ≡ n + suc m = omega arith in
    let rest = subst (λ k. Contains (makers_from (n + 1) seats) (entry k tags)) same (makers_among (n + 1) seats m tags get) in
    (suc rest.0, omega (arith, rest.1), rest.2)

-- from the first seat on
pub seat_among : (seats : List (Option (List (ℕ × List ℕ)))) (m : ℕ) (tags : List (ℕ × List ℕ))
    → seat_of seats m ≡ Some tags → Contains (makers_of seats) (entry m tags)
unfolding makers_of
seat_among seats m tags get =
    let same : 0 + m ≡ m = omega arith in
    subst (λ k. Contains (makers_from 0 seats) (entry k tags)) same (makers_among 0 seats m tags get)

-- ---- counts

-- at most one number is this one
one_at_most : (x n : ℕ) → count_below (λ h. x == h) n ≤ 1
one_at_most x n = elim (low_or_not x n) [
  | inl low ↦ let one = count_below-one x n low in omega (arith, one)
  | inr past ↦ let none = count_below-none (λ h. x == h) n (λ h below. ne_eqb x h (λ is. omega (arith, is, past, below))) in omega (arith, none)
]

-- of two tests together no more pass than of each
either_most : (p q : ℕ → Bool) (n : ℕ) → count_below (λ h. p h || q h) n ≤ count_below p n + count_below q n
either_most p q zero = let a = count_below-zero (λ h. p h || q h) in omega (arith, a)
either_most p q (suc n) =
    let a = count_below-suc (λ h. p h || q h) n in
    let b = count_below-suc p n in
    let c = count_below-suc q n in
    let rest = either_most p q n in
    let last = bits (p n) (q n) in
    omega (arith, a, b, c, rest, last)
  where
    bits : (x y : Bool) → cond (x || y) 1 0 ≤ cond x 1 0 + cond y 1 0
    bits true true = omega arith
    bits true false = omega arith
    bits false true = omega arith
    bits false false = omega arith

-- a list counts no more hosts than it has members
pub listed_most : (xs : List ℕ) → hosts_with (is_listed xs) ≤ length xs
unfolding hosts_with is_listed
listed_most [] = let none = count_below-none (λ h. false) 32 (λ h below. refl) in omega (arith, none)
listed_most (x ∷ xs) =
    let both = either_most (λ h. x == h) (is_listed xs) 32 in
    let one = one_at_most x 32 in
    let rest = listed_most xs in
    omega (arith, both, one, rest)

-- a maker of an entry in the list is listed
pub maker_listed : (xs : List Tags) (t : Tags) → Contains xs t → is_listed (map (λ (x : Tags). x.maker) xs) t.maker ≡ true
unfolding is_listed
maker_listed [] t among = absurd (omega (arith, among.1))
maker_listed (x ∷ xs) t (zero, lt, at) = ap (λ b. b || is_listed (map (λ (y : Tags). y.maker) xs) t.maker)
    (ap (λ (y : Tags). y.maker == t.maker) at ∙ self t.maker)
  where
    self : (n : ℕ) → (n == n) ≡ true
    self n = (Decides-eqb n n).1 refl
maker_listed (x ∷ xs) t (suc n, lt, at) =
    ap (λ b. (x.maker == t.maker) || b) (maker_listed xs t (n, omega (arith, lt), at)) ∙ either (x.maker == t.maker)
  where
    either : (b : Bool) → (b || true) ≡ true
    either true = refl
    either false = refl

-- so are all hosts of a test, where each but one is a maker of the list
pub all_but_one : (p : ℕ → Bool) (g : ℕ) (xs : List Tags)
    → ((m : ℕ) → p m ≡ true → m ≢ g → (t : Tags) × Contains xs t × (t.maker ≡ m))
    → hosts_with p ≤ length xs + 1
unfolding is_listed
all_but_one p g xs each =
    let within = hosts_with-within p (is_listed (g ∷ makers)) (λ m below passes. listed m passes) in
    let most = listed_most (g ∷ makers) in
    let long = length_map xs in
    omega (arith, within, most, long)
  where
    makers : List ℕ
    makers = map (λ (x : Tags). x.maker) xs

    length_map : (ys : List Tags) → length (map (λ (x : Tags). x.maker) ys) ≡ length ys
    length_map [] = refl
    length_map (y ∷ ys) = ap suc (length_map ys)

    self : (n : ℕ) → (n == n) ≡ true
    self n = (Decides-eqb n n).1 refl

    either : (b : Bool) → (b || true) ≡ true
    either true = refl
    either false = refl

    listed : (m : ℕ) → p m ≡ true → is_listed (g ∷ makers) m ≡ true
    listed m passes = elim (cases_eq m g) [
      | inl same ↦ ap (λ b. b || is_listed makers m) (ap (λ k. k == m) (sym same) ∙ self m)
      | inr ne ↦
          let one = each m passes ne in
          ap (λ b. (g == m) || b) (subst (λ k. is_listed makers k ≡ true) one.2 (maker_listed xs one.0 one.1)) ∙ either (g == m)
    ]

-- ---- bytes

-- a list of bytes, place by place
pub bytes_at : (bytes : List ℕ) → All (λ b. b < 256) bytes → IsBytes bytes
bytes_at [] all i = omega arith
bytes_at (b ∷ bytes) all zero = all 0 0 (omega arith)
bytes_at (b ∷ bytes) all (suc i) = bytes_at bytes (λ j d within. all (suc j) d (omega (arith, within))) i

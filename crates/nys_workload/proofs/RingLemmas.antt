-- The ring has no link at fault, and each of its hosts has at most two neighbours.
use Rattle.std.proofs.Common.{◌≡◌, ℕ, ◌+◌, ◌-◌, ◌<◌, ◌≤◌, ◌==◌, ◌&&◌, ◌||◌, Bool, true, false, List, [], ◌∷◌, ◌++◌, zero, suc, length, map, append_assoc, None, Some, nat_lt, if◌then◌else◌, refl, ap, sym, ◌∙◌, inl, inr, ◌⊎◌, arith, eqb-true}
use Rattle.std.specs.Prelude.{option_and_then, slice_get, take}
use Rattle.std.specs.List.{list_any, range_with_len}
use Rattle.std.proofs.lemmas.Bool.{cases_lt, eq-eqb, lt-leb, lt-ltb, ltb-false, ltb-true, ne_eqb, or_cases}
use Rattle.std.proofs.lemmas.List.{length-map}
use Rattle.std.proofs.lemmas.List.FromFn.{length-range_with_len}
use Rattle.std.proofs.lemmas.Option.{slice_get_past}
use Rattle.nys_graph.specs.Faults.{fault_at, refusal_of}
use Rattle.nys_graph.specs.Links.{joined, joins}
use Rattle.nys_hosts.proofs.CountLemmas.{hosts_with-more, hosts_with-none, hosts_with-within}
use Rattle.nys_hosts.specs.Counts.{hosts_with}
use Rattle.nys_workload.specs.Rings.{link_from, ring_linked, ring_links}

-- ---- lists of links

-- the link at a place
link_at : (f : ℕ → ℕ × ℕ) (from len k : ℕ) → k < len → slice_get (map f (range_with_len from len)) k ≡ Some (f (from + k))
link_at f from zero k less = absurd (omega (arith, less))
link_at f from (suc len) zero less = let same : from ≡ from + 0 = omega arith in ap (λ i. Some (f i)) same
link_at f from (suc len) (suc k) less =
    let same : (from + 1) + k ≡ from + suc k = omega arith in
    link_at f (from + 1) len k (omega (arith, less)) ∙ ap (λ i. Some (f i)) same

-- none of the first links passes a test
none_passes : (p : ℕ × ℕ → Bool) (f : ℕ → ℕ × ℕ) (from len k : ℕ) → ((i : ℕ) → from ≤ i → i < from + k → p (f i) ≡ false)
    → list_any p (take k (map f (range_with_len from len))) ≡ false
none_passes p f from len zero each = refl
none_passes p f from zero (suc k) each = refl
none_passes p f from (suc len) (suc k) each =
    rw (each from (omega arith) (omega arith))
    (none_passes p f (from + 1) len k (λ i low high. each i (omega (arith, low)) (omega (arith, high))))

-- one of the links passes a test: the first or one behind it
abbrev Passes : (ℕ × ℕ → Bool) → (ℕ → ℕ × ℕ) → ℕ → Type 0
Passes p f end = (i : ℕ) × (i < end) × (p (f i) ≡ true)

first_or_later : (p : ℕ × ℕ → Bool) (f : ℕ → ℕ × ℕ) (from end : ℕ) (b rest : Bool) → from < end → p (f from) ≡ b → (rest ≡ true → Passes p f end)
    → (b || rest) ≡ true → Passes p f end
first_or_later p f from end true rest low is later e = (from, low, is)
first_or_later p f from end false rest low is later e = later e

one_passes : (p : ℕ × ℕ → Bool) (f : ℕ → ℕ × ℕ) (from len end : ℕ) → from + len ≡ end → list_any p (map f (range_with_len from len)) ≡ true → Passes p f end
one_passes p f from zero end same e = absurd (cc)
one_passes p f from (suc len) end same e =
    first_or_later p f from end (p (f from)) (list_any p (map f (range_with_len (from + 1) len))) (omega (arith, same)) refl
    (one_passes p f (from + 1) len end (omega (arith, same))) e

-- the links so far, with one more
pub links_on : (f : ℕ → ℕ × ℕ) (h hosts : ℕ) (links more : List (ℕ × ℕ)) → h < hosts → more ≡ links ++ f h ∷ []
    → more ++ map f (range_with_len (h + 1) (hosts - (h + 1))) ≡ links ++ map f (range_with_len h (hosts - h))
links_on f h hosts links more less is =
    let left : suc (hosts - (h + 1)) ≡ hosts - h = omega (arith, less) in
    let rest = map f (range_with_len (h + 1) (hosts - (h + 1))) in
    ap (λ l. l ++ rest) is ∙ append_assoc links (f h ∷ []) rest ∙ ap (λ n. links ++ map f (range_with_len h n)) left

-- ---- no link is at fault

-- a host below the last is linked to the next
inner_link : (n i : ℕ) → i + 1 < n → link_from n i ≡ (i, i + 1)
inner_link n i less = rw (lt-ltb (i + 1) n less) refl

-- the last to the first
last_link : (n i : ℕ) → nat_lt (i + 1) n ≡ false → link_from n i ≡ (i, 0)
last_link n i last = rw last refl

-- two hosts are not the ends of a link
not_joined : (x y a b : ℕ) → (x == a) ≡ false → (x == b) ≡ false ⊎ ((y == a) ≡ false) → joins (x, y) a b ≡ false
not_joined x y a b first (inl second) = rw (first, second) refl
not_joined x y a b first (inr second) = rw (first, second) (by (x == b))
  where
    by : (c : Bool) → (c && false) ≡ false
    by true = refl
    by false = refl

-- the links before one don't join its ends
fresh_link : (n k a b : ℕ) → k < n → ((i : ℕ) → i < k → joins (i, i + 1) a b ≡ false) → joined (take k (ring_links n)) a b ≡ false
unfolding joined
fresh_link n k a b inside each = none_passes (λ link. joins link a b) (link_from n) 0 n k
    (λ i low high. ap (λ link. joins link a b) (inner_link n i (omega (arith, inside, high))) ∙ each i (omega (arith, high)))

-- each link may join those before it
link_fits : (n k : ℕ) → 4 ≤ n → k < n → refusal_of n (joined (take k (ring_links n))) k (link_from n k) ≡ None
link_fits n k some inside = by (nat_lt (k + 1) n) refl
  where
    linked : ℕ → ℕ → Bool
    linked = joined (take k (ring_links n))

    by : (b : Bool) → nat_lt (k + 1) n ≡ b → refusal_of n linked k (link_from n k) ≡ None
    by true is =
        let less : k + 1 < n = ltb-true (k + 1) n is in
        let fresh : linked k (k + 1) ≡ false = fresh_link n k k (k + 1) inside (λ i low.
        not_joined i (i + 1) k (k + 1) (ne_eqb i k (λ e. absurd (omega (arith, e, low)))) (inl (ne_eqb i (k + 1) (λ e. absurd (omega (arith, e, low)))))) in
        ap (refusal_of n linked k) (inner_link n k less)
        ∙ rw (lt-leb n k inside, lt-leb n (k + 1) less, ne_eqb k (k + 1) (λ e. absurd (omega (arith, e))), fresh) refl
    by false is =
        let last : n ≤ k + 1 = ltb-false (k + 1) n is in
        let fresh : linked k 0 ≡ false = fresh_link n k k 0 inside (λ i low. first i low last) in
        ap (refusal_of n linked k) (last_link n k is)
        ∙ rw (lt-leb n k inside, lt-leb n 0 (omega (arith, some)), ne_eqb k 0 (λ e. absurd (omega (arith, e, some, last))), fresh) refl
      where
        first : (i : ℕ) → i < k → n ≤ k + 1 → joins (i, i + 1) k 0 ≡ false
        first zero low last =
            not_joined 0 (0 + 1) k 0 (ne_eqb 0 k (λ e. absurd (omega (arith, e, low)))) (inr (ne_eqb (0 + 1) k (λ e. absurd (omega (arith, e, some, last)))))
        first (suc i) low last =
            not_joined (suc i) (suc i + 1) k 0 (ne_eqb (suc i) k (λ e. absurd (omega (arith, e, low)))) (inl (ne_eqb (suc i) 0 (λ e. absurd (omega (arith, e)))))

-- no place has a link at fault
pub ring_clean : (n k : ℕ) → 4 ≤ n → fault_at n (ring_links n) k ≡ None
ring_clean n k some = elim (cases_lt k n) [
  | inl inside ↦
      let here : 0 + k ≡ k = omega arith in
      ap (λ o. option_and_then (refusal_of n (joined (take k (ring_links n))) k) o)
      (link_at (link_from n) 0 n k inside ∙ ap (λ i. Some (link_from n i)) here)
      ∙ link_fits n k some inside
  | inr past ↦
      let size : length (ring_links n) ≡ n = length-map (range_with_len 0 n) (link_from n) ∙ length-range_with_len 0 n in
      ap (λ o. option_and_then (refusal_of n (joined (take k (ring_links n))) k) o) (slice_get_past (ring_links n) k (omega (arith, size, past)))
]

-- ---- neighbours

-- the host behind another
abbrev next : ℕ → ℕ → ℕ
next n h = if nat_lt (h + 1) n then h + 1 else 0

-- the host before another
abbrev before : ℕ → ℕ → ℕ
before n zero = n - 1
before n (suc h) = h

-- a link goes from a host to the one behind it
link_is : (n i : ℕ) → link_from n i ≡ (i, next n i)
link_is n i = by (nat_lt (i + 1) n)
  where
    by : (b : Bool) → ◌≡◌ {A = ℕ × ℕ} (if b then (i, i + 1) else (i, 0)) (i, (if b then i + 1 else 0))
    by true = refl
    by false = refl

-- a host stands before the one behind it
before_next : (n g h : ℕ) → g < n → next n g ≡ h → g ≡ before n h
before_next n g h inside is = by (nat_lt (g + 1) n) refl is
  where
    place : (k : ℕ) → (g + 1 ≡ k) → g ≡ before n k
    place zero e = absurd (omega (arith, e))
    place (suc k) e = omega (arith, e)

    by : (b : Bool) → nat_lt (g + 1) n ≡ b → (if b then g + 1 else 0) ≡ h → g ≡ before n h
    by true less e = place h e
    by false last e =
        let most : n ≤ g + 1 = ltb-false (g + 1) n last in
        let here : g ≡ n - 1 = omega (arith, most, inside) in
        here ∙ ap (before n) e

-- the one before isn't the one behind
apart : (n h : ℕ) → 4 ≤ n → h < n → before n h ≡ next n h → ⊥
apart n h some inside is = by (nat_lt (h + 1) n) refl is
  where
    low : (k : ℕ) → k < n → before n k ≡ k + 1 → ⊥
    low zero small e = omega (arith, e, some)
    low (suc k) small e = omega (arith, e)

    last : (k : ℕ) → n ≤ k + 1 → before n k ≡ 0 → ⊥
    last zero most e = omega (arith, most, some)
    last (suc k) most e = omega (arith, e, most, some)

    by : (b : Bool) → nat_lt (h + 1) n ≡ b → before n h ≡ (if b then h + 1 else 0) → ⊥
    by true less e = low h inside e
    by false more e = last h (ltb-false (h + 1) n more) e

-- both are hosts
before_host : (n h : ℕ) → 4 ≤ n → h < n → before n h < n
before_host n zero some inside = omega (arith, some)
before_host n (suc h) some inside = omega (arith, inside)

next_host : (n h : ℕ) → 4 ≤ n → next n h < n
next_host n h some = by (nat_lt (h + 1) n) refl
  where
    by : (b : Bool) → nat_lt (h + 1) n ≡ b → (if b then h + 1 else 0) < n
    by true less = ltb-true (h + 1) n less
    by false last = omega (arith, some)

-- the neighbours of a host: the one behind it and the one before it
abbrev beside : ℕ → ℕ → ℕ → Bool
beside n h g = (next n h == g) || ((before n h == g) || false)

-- both of two
and_both : (a b : Bool) → (a && b) ≡ true → (a ≡ true) × (b ≡ true)
and_both true b e = (refl, e)
and_both false b e = absurd (cc)

-- a number is itself
eqb_same : (x y : ℕ) → x ≡ y → (x == y) ≡ true
eqb_same x y same = eq-eqb x y same

-- the first or the second of three
in_first : (a b : Bool) → a ≡ true → (a || b) ≡ true
in_first a b is = rw is refl

in_second : (a b : Bool) → b ≡ true → (a || (b || false)) ≡ true
in_second true b is = refl
in_second false b is = rw is refl

-- the ends of a link are beside each other
ends_beside : (n h g i : ℕ) → i < n → joins (i, next n i) h g ≡ true → beside n h g ≡ true
ends_beside n h g i inside is = elim (or_cases ((i == h) && (next n i == g)) ((i == g) && (next n i == h)) is) [
  | inl behind ↦
      let both = and_both (i == h) (next n i == g) behind in
      let host : i ≡ h = eqb-true i h both.0 in
      let here : next n h ≡ g = ap (next n) (sym host) ∙ eqb-true (next n i) g both.1 in
      in_first (next n h == g) ((before n h == g) || false) (eqb_same (next n h) g here)
  | inr ahead ↦
      let both = and_both (i == g) (next n i == h) ahead in
      let host : i ≡ g = eqb-true i g both.0 in
      let behind : next n g ≡ h = ap (next n) (sym host) ∙ eqb-true (next n i) h both.1 in
      let there : g ≡ before n h = before_next n g h (omega (arith, inside, host)) behind in
      in_second (next n h == g) (before n h == g) (eqb_same (before n h) g (sym there))
]

-- each neighbour is one of them
neighbour_is : (n h g : ℕ) → ring_linked n h g ≡ true → beside n h g ≡ true
unfolding joined
neighbour_is n h g linked =
    let found = one_passes (λ link. joins link h g) (link_from n) 0 n n (omega arith) linked in
    ends_beside n h g found.0 found.1 (ap (λ link. joins link h g) (sym (link_is n found.0)) ∙ found.2)

-- each host has at most two neighbours
pub ring_sparse : (n h : ℕ) → 4 ≤ n → n ≤ 32 → h < n → hosts_with (ring_linked n h) ≤ 2
ring_sparse n h some few inside =
    let behind = next_host n h some in
    let ahead = before_host n h some inside in
    let none : hosts_with (λ g. false) ≡ 0 = hosts_with-none (λ g. false) (λ g low. refl) in
    let one : hosts_with (λ g. (before n h == g) || false) ≡ 1 + hosts_with (λ g. false) =
    hosts_with-more (λ g. false) (before n h) (omega (arith, ahead, few)) refl in
    let other : ((before n h == next n h) || false) ≡ false = rw (ne_eqb (before n h) (next n h) (apart n h some inside)) refl in
    let two : hosts_with (beside n h) ≡ 1 + hosts_with (λ g. (before n h == g) || false) =
    hosts_with-more (λ g. (before n h == g) || false) (next n h) (omega (arith, behind, few)) other in
    let within = hosts_with-within (ring_linked n h) (beside n h) (λ g low linked. neighbour_is n h g linked) in
    omega (arith, none, one, two, within)

-- Lists of different makers against the tests that count them.
use Rattle.std.proofs.Common.{◌≡◌, ◌≢◌, ℕ, zero, suc, ◌+◌, ◌<◌, ◌≤◌, Bool, true, false, cond, ◌==◌, ◌||◌, ◌&&◌, List, [], ◌∷◌, length, filter, count_by, refl, sym, ap, subst, ◌∙◌, inl, inr, arith, zero-add}
use Rattle.std.specs.Prelude.{All, AllPairs, Contains}
use Rattle.std.specs.List.{list_any, range_with_len}
use Rattle.std.proofs.lemmas.Bool.{cases_eq, ne_eqb, cond_both}
use Rattle.std.proofs.lemmas.List.Elements.{All-contains, All-filter, All-head, All-tail, All-weaker, filter_passes}
use Rattle.std.proofs.lemmas.List.FromFn.{get_or-range_with_len, length-range_with_len}
use Rattle.std.proofs.lemmas.List.Kept.{AllPairs-filter}
use Rattle.std.proofs.lemmas.List.Sums.{length-filter, sum_by-cons}
use Rattle.nys_hosts.specs.Counts.{AtLeast, count_below, hosts_with}
use Rattle.nys_hosts.specs.Makers.{AreDifferent, CountsDifferent, CountsListed, is_listed, IsPassing, ListsPassing, passing}
use Rattle.nys_hosts.proofs.CountLemmas.{and_false, hosts_with-more, hosts_with-none, hosts_with-within}

-- the pairs of a longer list are pairs of its rest
pairs_tail : {X : Type 0} (R : X → X → Type 0) (x : X) (xs : List X) → AllPairs R (x ∷ xs) → AllPairs R xs
pairs_tail R x xs all i j d lt within = all (suc i) (suc j) d (omega arith) (omega arith)

-- the first is in relation to each later one
pairs_head : {X : Type 0} (R : X → X → Type 0) (x : X) (xs : List X) → AllPairs R (x ∷ xs) → All (R x) xs
pairs_head R x xs all k d within = all zero (suc k) d (omega arith) (omega arith)

-- what holds of all makers of a list holds of each that is listed
pub listed_all : (P : ℕ → Type 0) (makers : List ℕ) (h : ℕ) → All P makers → is_listed makers h ≡ true → P h
unfolding is_listed
listed_all P [] h all listed = absurd (cc)
listed_all P (m ∷ makers) h all listed =
    elim (cases_eq m h) [
      | inl e ↦ subst P e (All-head P m makers all)
      | inr ne ↦ listed_all P makers h (All-tail P m makers all)
          (ap (λ b. b || list_any (λ x. x == h) makers) (sym (ne_eqb m h ne)) ∙ listed)
    ]

-- a maker that differs from all of a list is not listed
pub not_listed : (x : ℕ) (makers : List ℕ) → All (λ y. x ≢ y) makers → is_listed makers x ≡ false
unfolding is_listed
not_listed x [] all = refl
not_listed x (m ∷ makers) all =
    ap (λ b. b || list_any (λ y. y == x) makers) (ne_eqb m x (λ e. All-head (λ y. x ≢ y) m makers all (sym e)))
    ∙ not_listed x makers (All-tail (λ y. x ≢ y) m makers all)

-- different makers without their first
different_tail : (m : ℕ) (makers : List ℕ) → AreDifferent (m ∷ makers) → AreDifferent makers
different_tail m makers many = record {
  distinct = pairs_tail (λ x y. x ≢ y) m makers many.distinct;
  hosts = All-tail (λ x. x < 32) m makers many.hosts;
}

-- each maker of the list counts one
pub counts_listed : CountsListed
unfolding is_listed
counts_listed [] many = hosts_with-none (λ h. false) (λ h below. refl)
counts_listed (m ∷ makers) many =
    hosts_with-more (is_listed makers) m (All-head (λ x. x < 32) m makers many.hosts)
    (not_listed m makers (pairs_head (λ x y. x ≢ y) m makers many.distinct))
    ∙ ap (λ n. 1 + n) (counts_listed makers (different_tail m makers many))
    ∙ omega arith

-- the listed makers all pass
pub counts_different : CountsDifferent
counts_different p makers many all =
    subst (λ n. n ≤ hosts_with p) (counts_listed makers many)
    (hosts_with-within (is_listed makers) p (λ h below listed. listed_all (λ m. p m ≡ true) makers h all listed))

-- what is in a list and passes is in the list of what passes
Contains-filter : {X : Type 0} (p : X → Bool) (xs : List X) (x : X) → Contains xs x → p x ≡ true → Contains (filter p xs) x
Contains-filter p [] x has passes = absurd (omega (arith, has.1))
Contains-filter {X} p (y ∷ ys) x (zero, within, is) passes =
    cond_both (p y) (y ∷ filter p ys) (filter p ys) (λ zs. Contains zs x)
    (λ yes. (zero, omega arith, is)) (λ no. absurd (let e : true ≡ false = sym passes ∙ ap p (sym is) ∙ no in cc))
Contains-filter {X} p (y ∷ ys) x (suc k, within, is) passes =
    let rest = Contains-filter p ys x (k, omega arith, is) passes in
    cond_both (p y) (y ∷ filter p ys) (filter p ys) (λ zs. Contains zs x)
    (λ yes. (suc rest.0, omega (arith, rest.1), rest.2)) (λ no. rest)

-- a range rises
range-rising : (n : ℕ) → AllPairs (λ x y. x < y) (range_with_len 0 n)
range-rising n i j d lt within =
    let long = length-range_with_len 0 n in
    omega (arith, get_or-range_with_len 0 n i d (omega arith), get_or-range_with_len 0 n j d (omega arith))

-- a range ends below its length
range-below : (n : ℕ) → All (λ x. x < n) (range_with_len 0 n)
range-below n k d within =
    let long = length-range_with_len 0 n in omega (arith, get_or-range_with_len 0 n k d (omega arith))

-- a range has each number below its length
range-contains : (n x : ℕ) → x < n → Contains (range_with_len 0 n) x
range-contains n x below =
    (x, omega (arith, length-range_with_len 0 n), get_or-range_with_len 0 n x x below ∙ zero-add x)

-- the hosts that pass are a part of the range of all
pub lists_passing : ListsPassing
unfolding passing hosts_with count_below
lists_passing p = record {
  rising = AllPairs-filter (λ x y. x < y) p (range_with_len 0 32) (range-rising 32);
  hosts = All-filter p (λ m. m < 32) (range_with_len 0 32) (range-below 32);
  same = λ h. (
    (λ listed. (
      All-contains (λ m. p m ≡ true) (filter p (range_with_len 0 32)) h (filter_passes p (range_with_len 0 32)) listed,
      All-contains (λ m. m < 32) (filter p (range_with_len 0 32)) h (All-filter p (λ m. m < 32) (range_with_len 0 32) (range-below 32)) listed,
    )),
    (λ both. Contains-filter p (range_with_len 0 32) h (range-contains 32 h both.1) both.0),
  );
  count = length-filter p (range_with_len 0 32);
}

-- a list of different makers of a fact is so many makers of it
pub AtLeast-from_list : (P : ℕ → Type 0) (makers : List ℕ) → AreDifferent makers → All P makers → AtLeast (length makers) P
AtLeast-from_list P makers many all = record {
  makers = is_listed makers;
  each = λ m listed. listed_all P makers m all listed;
  enough = omega (arith, counts_listed makers many);
}

-- so many makers of a fact make a list of them, rising
pub AtLeast-list : (n : ℕ) (P : ℕ → Type 0) (some : AtLeast n P) → IsPassing some.makers (passing some.makers) × (n ≤ length (passing some.makers)) × All P (passing some.makers)
unfolding passing
AtLeast-list n P some =
    let list = lists_passing some.makers in (
      list,
      omega (arith, list.count, some.enough),
      All-weaker (λ m. some.makers m ≡ true) P some.each (filter some.makers (range_with_len 0 32))
          (filter_passes some.makers (range_with_len 0 32)),
    )

-- entries of different makers, counted by a test, are as many as the makers that have such an entry
pub counts_entries : {X : Type 0} (maker : X → ℕ) (q : X → Bool) (xs : List X) → AllPairs (λ x y. maker x ≢ maker y) xs
    → All (λ x. maker x < 32) xs → count_by q xs ≡ hosts_with (λ m. list_any (λ x. q x && (maker x == m)) xs)
counts_entries maker q [] many hosts = sym (hosts_with-none (λ m. false) (λ h below. refl))
counts_entries {X} maker q (x ∷ xs) many hosts =
    sum_by-cons (λ y. cond (q y) 1 0) x xs
    ∙ ap (λ n. cond (q x) 1 0 + n) (counts_entries maker q xs (pairs_tail (λ y z. maker y ≢ maker z) x xs many) (All-tail (λ y. maker y < 32) x xs hosts))
    ∙ sym (one (q x))
  where
    rest : ℕ → Bool
    rest m = list_any (λ y. q y && (maker y == m)) xs

    new : (ys : List X) → All (λ y. maker x ≢ maker y) ys → list_any (λ y. q y && (maker y == maker x)) ys ≡ false
    new [] all = refl
    new (y ∷ ys) all =
        rw (ne_eqb (maker y) (maker x) (λ e. All-head (λ z. maker x ≢ maker z) y ys all (sym e)), and_false (q y))
        (new ys (All-tail (λ z. maker x ≢ maker z) y ys all))

    one : (b : Bool) → hosts_with (λ m. (b && (maker x == m)) || rest m) ≡ cond b 1 0 + hosts_with rest
    one true = hosts_with-more rest (maker x) (All-head (λ y. maker y < 32) x xs hosts) (new xs (pairs_head (λ y z. maker y ≢ maker z) x xs many))
    one false = sym (zero-add (hosts_with rest))

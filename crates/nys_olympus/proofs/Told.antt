-- The makers of tags as a set: its members are they, rising.
use Rattle.std.proofs.Common.{◌≡◌, ◌≢◌, ℕ, zero, suc, ◌+◌, ◌<◌, ◌≤◌, ◌==◌, ◌||◌, Bool, false, cond, List, [], ◌∷◌, map, refl, ap, sym, ◌∙◌, inl, inr, eq-eqb, arith}
use Rattle.std.proofs.lemmas.Bool.{cases_eq, lt-ltb, ne_eqb}
use Rattle.std.proofs.lemmas.List.Elements.{All-head, All-tail, All-weaker}
use Rattle.std.specs.Prelude.{All, AllPairs, filter}
use Rattle.std.specs.List.{list_any, range_with_len}
use Rattle.nys_hosts.specs.Makers.{passing}
use Rattle.nys_hosts.specs.Sets.{has, members}
use Rattle.nys_hosts.specs.declared.set.HostSet.{HostSet}
use Rattle.nys_rules.specs.Handling.{hosts_among}
use Rattle.nys_stmt.specs.Makers.{AreMakers}
use Rattle.nys_stmt.specs.declared.tags.Tags.{Tags}
use Rattle.nys_olympus.specs.Heard.{IsHost}

-- tests that agree on a range keep the same of it
pub filter_alike : (p q : ℕ → Bool) (a n : ℕ) → ((h : ℕ) → a ≤ h → p h ≡ q h) → filter p (range_with_len a n) ≡ filter q (range_with_len a n)
filter_alike p q a zero same = refl
filter_alike p q a (suc n) same =
    rw (same a (omega arith), filter_alike p q (a + 1) n (λ h above. same h (omega (arith, above)))) refl

-- a test that nothing passes keeps nothing
pub filter_none : (p : ℕ → Bool) (xs : List ℕ) → ((h : ℕ) → p h ≡ false) → filter p xs ≡ []
filter_none p [] none = refl
filter_none p (x ∷ xs) none = rw (none x) (filter_none p xs none)

-- the set has none
pub no_members : (set : HostSet) → ((h : ℕ) → has set h ≡ false) → members set ≡ []
unfolding passing
no_members set none = filter_none (has set) (range_with_len 0 32) none

-- a maker above h isn't h
above_not : (h : ℕ) (makers : List Tags) → All (λ m. h < m.maker) makers → list_any (λ m. m.maker == h) makers ≡ false
above_not h [] above = refl
above_not h (m ∷ ms) above =
    ap (λ b. b || list_any (λ x. x.maker == h) ms) (ne_eqb m.maker h (λ e. let more = All-head (λ x. h < x.maker) m ms above in omega (arith, e, more)))
    ∙ above_not h ms (All-tail (λ x. h < x.maker) m ms above)

-- makers below h aren't h
pub below_not : (h : ℕ) (makers : List Tags) → All (λ m. m.maker < h) makers → list_any (λ m. m.maker == h) makers ≡ false
below_not h [] below = refl
below_not h (m ∷ ms) below =
    ap (λ b. b || list_any (λ x. x.maker == h) ms) (ne_eqb m.maker h (λ e. let less = All-head (λ x. x.maker < h) m ms below in omega (arith, e, less)))
    ∙ below_not h ms (All-tail (λ x. x.maker < h) m ms below)

-- the pairs of a longer list are pairs of its rest
pairs_tail : (m : Tags) (ms : List Tags) → AllPairs (λ x y. x.maker < y.maker) (m ∷ ms) → AllPairs (λ x y. x.maker < y.maker) ms
pairs_tail m ms all i j d lt within = all (suc i) (suc j) d (omega arith) (omega arith)

-- the first is below each later one
pairs_head : (m : Tags) (ms : List Tags) → AllPairs (λ x y. x.maker < y.maker) (m ∷ ms) → All (λ y. m.maker < y.maker) ms
pairs_head m ms all k d within = all zero (suc k) d (omega arith) (omega arith)

-- the first is the beginning of the range
kept_here : (n a : ℕ) (m : Tags) (ms : List Tags) → AllPairs (λ x y. x.maker < y.maker) (m ∷ ms) → m.maker ≡ a
    → filter (λ h. list_any (λ x. x.maker == h) ms) (range_with_len (a + 1) n) ≡ map (λ x. x.maker) ms
    → filter (λ h. list_any (λ x. x.maker == h) (m ∷ ms)) (range_with_len a (suc n)) ≡ m.maker ∷ map (λ x. x.maker) ms
kept_here n a m ms rising e rest =
    ap (λ b. cond (b || list_any (λ x. x.maker == a) ms) (a ∷ filter test (range_with_len (a + 1) n)) (filter test (range_with_len (a + 1) n))) (eq-eqb m.maker a e)
    ∙ ap (λ xs. a ∷ xs) (filter_alike test (λ h. list_any (λ x. x.maker == h) ms) (a + 1) n
    (λ h above. ap (λ b. b || list_any (λ x. x.maker == h) ms) (ne_eqb m.maker h (λ same. omega (arith, same, e, above)))) ∙ rest)
    ∙ ap (λ x. x ∷ map (λ y. y.maker) ms) (sym e)
  where
    test : ℕ → Bool
    test h = list_any (λ x. x.maker == h) (m ∷ ms)

-- the first is past the beginning of the range, and so are all
kept_later : (n a : ℕ) (m : Tags) (ms : List Tags) → AllPairs (λ x y. x.maker < y.maker) (m ∷ ms) → All (λ y. a ≤ y.maker) (m ∷ ms) → m.maker ≢ a
    → filter (λ h. list_any (λ x. x.maker == h) (m ∷ ms)) (range_with_len (a + 1) n) ≡ map (λ x. x.maker) (m ∷ ms)
    → filter (λ h. list_any (λ x. x.maker == h) (m ∷ ms)) (range_with_len a (suc n)) ≡ map (λ x. x.maker) (m ∷ ms)
kept_later n a m ms rising low ne rest =
    let first : a ≤ m.maker = All-head (λ x. a ≤ x.maker) m ms low in
    ap (λ b. cond (b || list_any (λ x. x.maker == a) ms) (a ∷ filter test (range_with_len (a + 1) n)) (filter test (range_with_len (a + 1) n))) (ne_eqb m.maker a ne)
    ∙ ap (λ b. cond b (a ∷ filter test (range_with_len (a + 1) n)) (filter test (range_with_len (a + 1) n)))
    (above_not a ms (All-weaker (λ y. m.maker < y.maker) (λ y. a < y.maker) (λ y more. omega (arith, more, first)) ms (pairs_head m ms rising)))
    ∙ rest
  where
    test : ℕ → Bool
    test h = list_any (λ x. x.maker == h) (m ∷ ms)

-- so all are past the next number
raised : (a : ℕ) (m : Tags) (ms : List Tags) → AllPairs (λ x y. x.maker < y.maker) (m ∷ ms) → All (λ y. a ≤ y.maker) (m ∷ ms) → m.maker ≢ a
    → All (λ y. a + 1 ≤ y.maker) (m ∷ ms)
raised a m ms rising low ne zero d within = let first : a ≤ m.maker = All-head (λ x. a ≤ x.maker) m ms low in omega (arith, first, ne)
raised a m ms rising low ne (suc k) d within =
    let first : a ≤ m.maker = All-head (λ x. a ≤ x.maker) m ms low in
    let more = pairs_head m ms rising k d (omega (arith, within)) in omega (arith, first, more)

-- the range has of rising makers all, in their order
pub rising_kept : (n a : ℕ) (makers : List Tags) → AllPairs (λ x y. x.maker < y.maker) makers → All (λ m. a ≤ m.maker) makers
    → All (λ m. m.maker < a + n) makers
    → filter (λ h. list_any (λ m. m.maker == h) makers) (range_with_len a n) ≡ map (λ m. m.maker) makers
rising_kept zero a [] rising low high = refl
rising_kept zero a (m ∷ ms) rising low high =
    absurd (let l = All-head (λ x. a ≤ x.maker) m ms low in let r = All-head (λ x. x.maker < a + 0) m ms high in omega (arith, l, r))
rising_kept (suc n) a [] rising low high = filter_none (λ h. false) (range_with_len a (suc n)) (λ h. refl)
rising_kept (suc n) a (m ∷ ms) rising low high = elim (cases_eq m.maker a) [
  | inl e ↦ kept_here n a m ms rising e
      (rising_kept n (a + 1) ms (pairs_tail m ms rising)
      (All-weaker (λ y. m.maker < y.maker) (λ y. a + 1 ≤ y.maker) (λ y more. omega (arith, more, e)) ms (pairs_head m ms rising))
      (All-weaker (λ y. y.maker < a + suc n) (λ y. y.maker < a + 1 + n) (λ y less. omega (arith, less)) ms (All-tail (λ y. y.maker < a + suc n) m ms high)))
  | inr ne ↦ kept_later n a m ms rising low ne
      (rising_kept n (a + 1) (m ∷ ms) rising (raised a m ms rising low ne) (All-weaker (λ y. y.maker < a + suc n) (λ y. y.maker < a + 1 + n) (λ y less. omega (arith, less)) (m ∷ ms) high))
]

-- all hosts among hosts are they
all_hosts : (makers : List Tags) → All IsHost makers → hosts_among makers ≡ map (λ m. m.maker) makers
all_hosts [] all = refl
all_hosts (m ∷ ms) all =
    ap (λ b. cond b (m.maker ∷ hosts_among ms) (hosts_among ms)) (lt-ltb m.maker 32 (All-head IsHost m ms all).host)
    ∙ ap (λ xs. m.maker ∷ xs) (all_hosts ms (All-tail IsHost m ms all))

-- a set of exactly the makers has them as its members
pub members_are : (set : HostSet) (makers : List Tags) → ((h : ℕ) → has set h ≡ list_any (λ m. m.maker == h) makers) → All IsHost makers → AreMakers makers
    → members set ≡ hosts_among makers
unfolding passing
members_are set makers same hosts rule =
    filter_alike (has set) (λ h. list_any (λ m. m.maker == h) makers) 0 32 (λ h above. same h)
    ∙ rising_kept 32 0 makers rule.rising (λ k d within. omega arith)
    (All-weaker IsHost (λ m. m.maker < 0 + 32) (λ m host. omega (arith, host.host)) makers hosts)
    ∙ sym (all_hosts makers hosts)

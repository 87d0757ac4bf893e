-- The first hosts of a list, chosen one by one.
use Rattle.std.proofs.Common.{◌≡◌, ◌≢◌, ℕ, zero, suc, ◌+◌, ◌<◌, ◌≤◌, Bool, true, false, cond, ◌==◌, ◌&&◌, ◌||◌, not, nat_lt, min, List, [], ◌∷◌, ◌++◌, length, take, filter, refl, sym, ap, subst, ◌∙◌, inl, inr, arith, add-zero, zero-add, add-one, length-append, append_assoc, append-nil, ◌⊎◌}
use Rattle.std.specs.Prelude.{All, AllPairs}
use Rattle.std.specs.List.{list_any, range_with_len}
use Rattle.std.proofs.lemmas.Bool.{cases_lt, le-ltb, lt-ltb}
use Rattle.std.proofs.lemmas.List.{get_or-take, length-take, take_all, take-append-le}
use Rattle.std.proofs.lemmas.List.Elements.{All-append, All-filter, All-head, All-tail, All-take, All-weaker, filter-append, filter_passes, filter_agree}
use Rattle.std.proofs.lemmas.List.Filters.{length-filter_both}
use Rattle.std.proofs.lemmas.List.Folds.{list_any-append}
use Rattle.std.proofs.lemmas.List.FromFn.{get_or-range_with_len, length-range_with_len}
use Rattle.std.proofs.lemmas.List.Kept.{AllPairs-cons, AllPairs-filter}
use Rattle.nys_hosts.specs.Counts.{hosts_with}
use Rattle.nys_hosts.specs.Makers.{AreDifferent, is_listed}
use Rattle.nys_hosts.proofs.CountLemmas.{hosts_with-same}
use Rattle.nys_hosts.proofs.ListLemmas.{counts_listed}
use Rattle.nys_plan.specs.Planned.{hosts_passing, IsFirst, order_of}

-- a range by its last number
range-more : (a n : ℕ) → range_with_len a (suc n) ≡ range_with_len a n ++ (a + n) ∷ []
range-more a zero = rw (add-zero a) refl
range-more a (suc n) =
    let e : a + suc n ≡ a + 1 + n = omega arith in rw e (ap (λ xs. a ∷ xs) (range-more (a + 1) n))

-- one host more is taken where it passes
pub hosts_passing-more : (p : ℕ → Bool) (n : ℕ)
    → hosts_passing p (n + 1) ≡ hosts_passing p n ++ cond (p n) (n ∷ []) []
unfolding hosts_passing
hosts_passing-more p n =
    ap (λ k. filter p (range_with_len 0 k)) (add-one n)
    ∙ ap (filter p) (range-more 0 n ∙ ap (λ m. range_with_len 0 n ++ m ∷ []) (zero-add n))
    ∙ filter-append p (range_with_len 0 n) (n ∷ [])

-- of no hosts none is taken
pub hosts_passing-zero : (p : ℕ → Bool) → hosts_passing p 0 ≡ []
unfolding hosts_passing
hosts_passing-zero p = refl

-- tests that agree take the same hosts
pub hosts_passing-same : (p q : ℕ → Bool) (n : ℕ) → ((h : ℕ) → p h ≡ q h)
    → hosts_passing p n ≡ hosts_passing q n
unfolding hosts_passing
hosts_passing-same p q n same = filter_agree p q same (range_with_len 0 n)

-- those that pass and those that don't are all
pub length-order_of : (n : ℕ) (p : ℕ → Bool) → length (order_of n p) ≡ n
unfolding hosts_passing
length-order_of n p =
    length-append (filter p (range_with_len 0 n)) (filter (λ h. not (p h)) (range_with_len 0 n))
    ∙ length-filter_both p (λ h. not (p h)) (λ h. refl) (range_with_len 0 n)
    ∙ length-range_with_len 0 n

-- a range has different numbers, all below its length
range-distinct : (n : ℕ) → AllPairs (λ x y. x ≢ y) (range_with_len 0 n)
range-distinct n i j d lt within same =
    let long = length-range_with_len 0 n in
    absurd (omega (
      arith,
      get_or-range_with_len 0 n i d
          (omega arith),
      get_or-range_with_len 0 n j d (omega arith),
    ))

range-below : (n : ℕ) → n ≤ 32 → All (λ x. x < 32) (range_with_len 0 n)
range-below n few k d within =
    let long = length-range_with_len 0 n in omega
    (arith, get_or-range_with_len 0 n k d (omega arith))

-- pairs of a list in two parts
pairs_tail : (x : ℕ) (xs : List ℕ) → AllPairs (λ y z. y ≢ z) (x ∷ xs) → AllPairs (λ y z. y ≢ z) xs
pairs_tail x xs all i j d lt within = all (suc i) (suc j) d (omega arith) (omega arith)

pairs_head : (x : ℕ) (xs : List ℕ) → AllPairs (λ y z. y ≢ z) (x ∷ xs) → All (λ y. x ≢ y) xs
pairs_head x xs all k d within = all zero (suc k) d (omega arith) (omega arith)

pairs_append : (xs ys : List ℕ) → AllPairs (λ x y. x ≢ y) xs → AllPairs (λ x y. x ≢ y) ys
    → All (λ x. All (λ y. x ≢ y) ys) xs → AllPairs (λ x y. x ≢ y) (xs ++ ys)
pairs_append [] ys first second apart = second
pairs_append (x ∷ xs) ys first second apart =
    AllPairs-cons (λ y z. y ≢ z) x (xs ++ ys)
    (All-append (λ y. x ≢ y) xs ys (pairs_head x xs first)
    (All-head (λ x. All (λ y. x ≢ y) ys) x xs apart))
    (pairs_append xs ys (pairs_tail x xs first) second
    (All-tail (λ x. All (λ y. x ≢ y) ys) x xs apart))

-- some hosts of those that pass and of those that don't are different
pub different : (p : ℕ → Bool) (n m : ℕ) → n ≤ 32 → m ≤ 32
    → AreDifferent (hosts_passing p n ++ hosts_passing (λ h. not (p h)) m)
unfolding hosts_passing
different p n m few also = record {
  distinct = pairs_append (filter p (range_with_len 0 n))
      (filter (λ h. not (p h)) (range_with_len 0 m))
      (AllPairs-filter (λ x y. x ≢ y) p (range_with_len 0 n) (range-distinct n))
      (AllPairs-filter (λ x y. x ≢ y) (λ h. not (p h)) (range_with_len 0 m) (range-distinct m))
      (All-weaker (λ x. p x ≡ true) (λ x. All (λ y. x ≢ y)
      (filter (λ h. not (p h)) (range_with_len 0 m))) apart
      (filter p (range_with_len 0 n)) (filter_passes p (range_with_len 0 n)));
  hosts = All-append (λ x. x < 32) (filter p (range_with_len 0 n))
      (filter (λ h. not (p h)) (range_with_len 0 m))
      (All-filter p (λ x. x < 32) (range_with_len 0 n) (range-below n few))
      (All-filter (λ h. not (p h)) (λ x. x < 32) (range_with_len 0 m) (range-below m also));
}
  where
    two : (b : Bool) → b ≡ true → not b ≡ true → ⊥
    two true e f = absurd (cc)
    two false e f = absurd (cc)

    apart : (x : ℕ) → p x ≡ true → All (λ y. x ≢ y) (filter (λ h. not (p h)) (range_with_len 0 m))
    apart x passes = All-weaker (λ y. not (p y) ≡ true) (λ y. x ≢ y)
        (λ y fails same. two (p x) passes (subst (λ z. not (p z) ≡ true) (sym same) fails))
        (filter (λ h. not (p h)) (range_with_len 0 m))
        (filter_passes (λ h. not (p h)) (range_with_len 0 m))

-- the first of different hosts are different
different_take : (n : ℕ) (xs : List ℕ) → AreDifferent xs → AreDifferent (take n xs)
different_take n xs many = record {
  distinct = λ i j d lt within.
      let long = length-take n xs in
      rw (get_or-take n xs i d (omega arith), get_or-take n xs j d (omega arith))
      (many.distinct i j d lt (omega arith));
  hosts = All-take (λ x. x < 32) n xs many.hosts;
}

-- as many are chosen as are needed, or as there are
pub count_first : (need : ℕ) (list : List ℕ) (chosen : ℕ → Bool) → AreDifferent list
    → IsFirst need list chosen
    → hosts_with chosen ≡ min need (length list)
count_first need list chosen many first =
    hosts_with-same chosen (is_listed (take need list)) (λ h below. first.same h)
    ∙ counts_listed (take need list) (different_take need list many)
    ∙ length-take need list

-- none is chosen of an empty list
pub first_none : (need : ℕ) (chosen : ℕ → Bool) → ((h : ℕ) → chosen h ≡ false)
    → IsFirst need [] chosen
unfolding is_listed
first_none need chosen none = record {
  same = λ g. none g
      ∙ sym (ap (λ xs. list_any (λ m. m == g) xs) (take_all need [] (omega arith)));
}

-- one host more is chosen where more are needed
pub first_more : (need : ℕ) (list : List ℕ) (chosen new : ℕ → Bool) (g : ℕ) → AreDifferent list
    → IsFirst need list chosen
    → ((k : ℕ) → new k ≡ (chosen k || (nat_lt (hosts_with chosen) need && (g == k))))
    → IsFirst need (list ++ g ∷ []) new
unfolding is_listed
first_more need list chosen new g many first more = record { same = same }
  where
    or_false : (b : Bool) → (b || false) ≡ b
    or_false true = refl
    or_false false = refl

    same : (k : ℕ) → new k ≡ is_listed (take need (list ++ g ∷ [])) k
    same k = elim (cases_lt (length list) need) [
      | inl less ↦
          more k
          ∙ rw (
            lt-ltb (hosts_with chosen) need
                (omega (arith, count_first need list chosen many first)),
            first.same k,
            take_all need list (omega arith),
            take_all need (list ++ g ∷ []) (omega (arith, length-append list (g ∷ []))),
            list_any-append (λ m. m == k) list (g ∷ []),
          )
          (ap (λ b. list_any (λ m. m == k) list || b) (sym (or_false (g == k))))
      | inr enough ↦
          more k
          ∙ rw (
            le-ltb (hosts_with chosen) need
                (omega (arith, count_first need list chosen many first)),
            first.same k,
            take-append-le need list (g ∷ []) (omega arith),
          )
          (or_false (list_any (λ m. m == k) (take need list)))
    ]

-- the next host is chosen where it passes and more are needed
pub first_step : (p : ℕ → Bool) (need n : ℕ) (before : List ℕ) (chosen new : ℕ → Bool)
    → AreDifferent (before ++ hosts_passing p n)
    → IsFirst need (before ++ hosts_passing p n) chosen
    → ((p n ≡ true) × ((k : ℕ) → new k ≡ (chosen k ||
    (nat_lt (hosts_with chosen) need && (n == k)))))
    ⊎ ((p n ≡ false) × ((k : ℕ) → new k ≡ chosen k))
    → IsFirst need (before ++ hosts_passing p (n + 1)) new
first_step p need n before chosen new many first (inl took) =
    subst (λ xs. IsFirst need xs new)
    (append_assoc before (hosts_passing p n) (n ∷ [])
    ∙ ap (λ xs. before ++ xs) (ap (λ b. hosts_passing p n ++ cond b (n ∷ []) []) (sym took.0)
    ∙ sym (hosts_passing-more p n)))
    (first_more need (before ++ hosts_passing p n) chosen new n many first took.1)
first_step p need n before chosen new many first (inr left) =
    subst (λ xs. IsFirst need xs new)
    (ap (λ xs. before ++ xs) (sym (append-nil (hosts_passing p n))
    ∙ ap (λ b. hosts_passing p n ++ cond b (n ∷ []) []) (sym left.0)
    ∙ sym (hosts_passing-more p n)))
    (record { same = λ k. left.1 k ∙ first.same k })

-- a list with nothing after it
pub different_near : (p : ℕ → Bool) (n : ℕ) → n ≤ 32 → AreDifferent (hosts_passing p n)
different_near p n few =
    subst AreDifferent (ap (λ xs. hosts_passing p n ++ xs) (hosts_passing-zero (λ h. not (p h)))
    ∙ append-nil (hosts_passing p n))
    (different p n 0 few (omega arith))

-- Counts of hosts: one number more, and tests that agree, imply or exclude one another.
use Rattle.std.proofs.Common.{◌≡◌, ℕ, zero, suc, ◌+◌, ◌<◌, ◌≤◌, Bool, true, false, cond, ◌==◌, ◌||◌, ◌&&◌, [], ◌∷◌, ◌++◌, count_by, refl, sym, ap, subst, ◌∙◌, inl, inr, arith, add-zero, zero-add, eq-eqb}
use Rattle.std.specs.List.{range_with_len}
use Rattle.std.proofs.lemmas.Bool.{cases_eq, ne_eqb}
use Rattle.std.proofs.lemmas.List.Sums.{sum_by-append}
use Rattle.nys_hosts.specs.Counts.{AtLeast, count_below, hosts_with}

-- a range by its last number
range_with_len-more : (a n : ℕ) → range_with_len a (suc n) ≡ range_with_len a n ++ (a + n) ∷ []
range_with_len-more a zero = rw (add-zero a) refl
range_with_len-more a (suc n) =
    let e : a + suc n ≡ a + 1 + n = omega arith in rw e (ap (λ xs. a ∷ xs) (range_with_len-more (a + 1) n))

-- below zero there is no number
pub count_below-zero : (p : ℕ → Bool) → count_below p 0 ≡ 0
unfolding count_below
count_below-zero p = refl

-- the last number counts where it passes
pub count_below-suc : (p : ℕ → Bool) (n : ℕ) → count_below p (suc n) ≡ count_below p n + cond (p n) 1 0
unfolding count_below
count_below-suc p n =
    rw (range_with_len-more 0 n, zero-add n)
    (sum_by-append (λ x. cond (p x) 1 0) (range_with_len 0 n) (n ∷ [])
    ∙ ap (λ m. count_by p (range_with_len 0 n) + m) (zero-add (cond (p n) 1 0)))

-- tests that agree below n count the same
pub count_below-same : (p q : ℕ → Bool) (n : ℕ) → ((h : ℕ) → h < n → p h ≡ q h) → count_below p n ≡ count_below q n
count_below-same p q zero same = count_below-zero p ∙ sym (count_below-zero q)
count_below-same p q (suc n) same =
    count_below-suc p n
    ∙ ap (λ b. count_below p n + cond b 1 0) (same n (omega arith))
    ∙ ap (λ m. m + cond (q n) 1 0) (count_below-same p q n (λ h below. same h (omega arith)))
    ∙ sym (count_below-suc q n)

-- what passes counts one, and what does not counts none
abbrev number : Bool → ℕ
number b = cond b 1 0

counts : (b : Bool) → b ≡ true → number b ≡ 1
counts b e = rw e refl

counts_not : (b : Bool) → b ≡ false → number b ≡ 0
counts_not b e = rw e refl

-- a test that nothing passes counts nothing
pub count_below-none : (p : ℕ → Bool) (n : ℕ) → ((h : ℕ) → h < n → p h ≡ false) → count_below p n ≡ 0
count_below-none p zero none = count_below-zero p
count_below-none p (suc n) none =
    omega (
      arith,
      count_below-suc p n,
      counts_not (p n) (none n (omega arith)),
      count_below-none p n (λ h below. none h (omega arith)),
    )

-- where some are counted below n, one passes
pub count_below-some : (p : ℕ → Bool) (n : ℕ) → 0 < count_below p n → (h : ℕ) × (h < n) × (p h ≡ true)
count_below-some p zero more = absurd (omega (arith, count_below-zero p))
count_below-some p (suc n) more = last (p n) refl (λ fewer. count_below-some p n fewer)
  where
    last : (b : Bool) → p n ≡ b → (0 < count_below p n → (h : ℕ) × (h < n) × (p h ≡ true)) → (h : ℕ) × (h < suc n) × (p h ≡ true)
    last true e found = (n, omega arith, e)
    last false e found =
        let h = found (omega (arith, count_below-suc p n, counts_not (p n) e)) in
        (h.0, omega (arith, h.1), h.2)

-- of two tests that no number passes both, the counts add up
pub count_below-or : (p q : ℕ → Bool) (n : ℕ) → ((h : ℕ) → (p h && q h) ≡ false)
    → count_below (λ h. p h || q h) n ≡ count_below p n + count_below q n
count_below-or p q zero apart = omega (arith, count_below-zero p, count_below-zero q, count_below-zero (λ h. p h || q h))
count_below-or p q (suc n) apart =
    omega (
      arith,
      count_below-suc p n,
      count_below-suc q n,
      count_below-suc (λ h. p h || q h) n,
      count_below-or p q n apart,
      one_or (p n) (q n) (apart n),
    )
  where
    one_or : (a b : Bool) → (a && b) ≡ false → cond (a || b) 1 0 ≡ cond a 1 0 + cond b 1 0
    one_or true true e = absurd (cc)
    one_or true false e = refl
    one_or false true e = refl
    one_or false false e = refl

-- one number is one
pub count_below-one : (x n : ℕ) → x < n → count_below (λ h. x == h) n ≡ 1
count_below-one x zero below = absurd (omega arith)
count_below-one x (suc n) below =
    elim (cases_eq x n) [
      | inl e ↦ omega (
        arith,
        count_below-suc (λ h. x == h) n,
        counts (x == n) (eq-eqb x n e),
        count_below-none (λ h. x == h) n (λ h under. ne_eqb x h (λ same. absurd (omega arith))),
      )
      | inr ne ↦ omega (
        arith,
        count_below-suc (λ h. x == h) n,
        counts_not (x == n) (ne_eqb x n ne),
        count_below-one x n (omega arith),
      )
    ]

-- a test that implies another counts no more
pub count_below-within : (p q : ℕ → Bool) (n : ℕ) → ((h : ℕ) → h < n → p h ≡ true → q h ≡ true) → count_below p n ≤ count_below q n
count_below-within p q zero sub = omega (arith, count_below-zero p)
count_below-within p q (suc n) sub =
    omega (
      arith,
      count_below-suc p n,
      count_below-suc q n,
      count_below-within p q n (λ h below. sub h (omega arith)),
      one_within (p n) (q n) (sub n (omega arith)),
    )
  where
    one_within : (a b : Bool) → (a ≡ true → b ≡ true) → cond a 1 0 ≤ cond b 1 0
    one_within true b e = rw (e refl) (omega arith)
    one_within false b e = omega arith

-- at most n numbers are below n
pub count_below-le : (p : ℕ → Bool) (n : ℕ) → count_below p n ≤ n
count_below-le p zero = omega (arith, count_below-zero p)
count_below-le p (suc n) = omega (arith, count_below-suc p n, count_below-le p n, one_at_most (p n))
  where
    one_at_most : (b : Bool) → cond b 1 0 ≤ 1
    one_at_most true = omega arith
    one_at_most false = omega arith

-- nothing is both true and false
pub and_false : (b : Bool) → (b && false) ≡ false
and_false true = refl
and_false false = refl

-- a host that passes no more counts one more
pub hosts_with-more : (rest : ℕ → Bool) (x : ℕ) → x < 32 → rest x ≡ false → hosts_with (λ h. (x == h) || rest h) ≡ 1 + hosts_with rest
unfolding hosts_with
hosts_with-more rest x below new =
    count_below-or (λ h. x == h) rest 32 apart ∙ ap (λ n. n + count_below rest 32) (count_below-one x 32 below)
  where
    apart : (h : ℕ) → ((x == h) && rest h) ≡ false
    apart h = elim (cases_eq x h) [
      | inl e ↦ let P : ℕ → Type 0 = λ y. ((x == y) && rest y) ≡ false in subst P e (rw new (and_false (x == x)))
      | inr ne ↦ rw (ne_eqb x h ne) refl
    ]

-- a test that nothing passes counts no host
pub hosts_with-none : (p : ℕ → Bool) → ((h : ℕ) → h < 32 → p h ≡ false) → hosts_with p ≡ 0
unfolding hosts_with
hosts_with-none p none = count_below-none p 32 none

-- tests that agree on hosts count the same
pub hosts_with-same : (p q : ℕ → Bool) → ((h : ℕ) → h < 32 → p h ≡ q h) → hosts_with p ≡ hosts_with q
unfolding hosts_with
hosts_with-same p q same = count_below-same p q 32 same

-- more hosts pass a test that is implied
pub hosts_with-within : (p q : ℕ → Bool) → ((h : ℕ) → h < 32 → p h ≡ true → q h ≡ true) → hosts_with p ≤ hosts_with q
unfolding hosts_with
hosts_with-within p q sub = count_below-within p q 32 sub

-- there are at most 32 hosts
pub hosts_with-le : (p : ℕ → Bool) → hosts_with p ≤ 32
unfolding hosts_with
hosts_with-le p = count_below-le p 32

-- where some are counted, one passes
pub hosts_with-some : (p : ℕ → Bool) → 0 < hosts_with p → (h : ℕ) × (h < 32) × (p h ≡ true)
unfolding hosts_with
hosts_with-some p more = count_below-some p 32 more

-- hosts that pass a test are at least n makers exactly where the test counts them
pub AtLeast-hosts_with : (n : ℕ) (p : ℕ → Bool) → AtLeast n (λ m. p m ≡ true) → n ≤ hosts_with p
AtLeast-hosts_with n p some = omega (arith, some.enough, hosts_with-within some.makers p (λ h below made. some.each h made))

pub AtLeast-from_hosts_with : (n : ℕ) (p : ℕ → Bool) → n ≤ hosts_with p → AtLeast n (λ m. p m ≡ true)
AtLeast-from_hosts_with n p enough = record { makers = p; each = λ m e. e; enough = enough }

-- makers of one fact are makers of a fact that it implies
pub AtLeast-map : (n : ℕ) (P Q : ℕ → Type 0) → ((m : ℕ) → P m → Q m) → AtLeast n P → AtLeast n Q
AtLeast-map n P Q f some = record { makers = some.makers; each = λ m made. f m (some.each m made); enough = some.enough }

-- fewer makers are wanted
pub AtLeast-fewer : (n k : ℕ) (P : ℕ → Type 0) → k ≤ n → AtLeast n P → AtLeast k P
AtLeast-fewer n k P less some = record { makers = some.makers; each = some.each; enough = omega (arith, some.enough) }

-- Which hosts have a walk to the root, by its number of links.
use Rattle.std.proofs.Common.{◌≡◌, ℕ, zero, suc, ◌+◌, ◌-◌, ◌<◌, ◌≤◌, ◌⊎◌, ◌==◌, ◌&&◌, ◌||◌, Bool, true, false, cond, List, [], ◌∷◌, length, Option, Some, None, refl, sym, ap, ◌∙◌, subst, inl, inr, arith, eq-eqb}
use Rattle.std.specs.Prelude.{is_some}
use Rattle.std.proofs.lemmas.Bool.{and_from, and_parts, cases_Bool, cases_lt, eqb-true, or_cases, or_left, or_right}
use Rattle.nys_graph.specs.Links.{IsGraph}
use Rattle.nys_hosts.specs.Counts.{count_below}
use Rattle.nys_hosts.proofs.CountLemmas.{count_below-le, count_below-one, count_below-suc, count_below-within}
use Rattle.nys_route.specs.Parents.{nearest, reaches}
use Rattle.nys_route.specs.Walks.{IsLeast, IsWalk}
use Rattle.nys_route.proofs.LowestLemmas.{lowest_found, lowest_some}

-- the root reaches itself, and no other host does without a link
pub reaches_zero : (hosts : ℕ) (linked : ℕ → ℕ → Bool) (root h : ℕ) → reaches hosts linked root 0 h ≡ (h == root)
unfolding reaches
reaches_zero hosts linked root h = refl

-- with one link more, so do those with a neighbour that does
pub reaches_suc : (hosts : ℕ) (linked : ℕ → ℕ → Bool) (root n h : ℕ)
    → reaches hosts linked root (suc n) h ≡ (reaches hosts linked root n h || is_some (nearest hosts linked root n h))
unfolding reaches
reaches_suc hosts linked root n h = refl

-- who reaches the root reaches it with one link more
pub reaches_on : (hosts : ℕ) (linked : ℕ → ℕ → Bool) (root n h : ℕ) → reaches hosts linked root n h ≡ true
    → reaches hosts linked root (suc n) h ≡ true
reaches_on hosts linked root n h here =
    reaches_suc hosts linked root n h ∙ or_left (reaches hosts linked root n h) (is_some (nearest hosts linked root n h)) here

-- and with any number more
pub reaches_more : (hosts : ℕ) (linked : ℕ → ℕ → Bool) (root n m h : ℕ) → n ≤ m → reaches hosts linked root n h ≡ true
    → reaches hosts linked root m h ≡ true
reaches_more hosts linked root n zero h less here =
    let same : n ≡ 0 = omega (arith, less) in subst (λ k. reaches hosts linked root k h ≡ true) same here
reaches_more hosts linked root n (suc m) h less here = elim (cases_lt m n) [
  | inl over ↦ let same : n ≡ suc m = omega (arith, over, less) in subst (λ k. reaches hosts linked root k h ≡ true) same here
  | inr under ↦ reaches_on hosts linked root m h (reaches_more hosts linked root n m h under here)
]

-- a neighbour of one that reaches the root reaches it with one link more
pub reaches_by : (hosts : ℕ) (linked : ℕ → ℕ → Bool) → IsGraph hosts linked → (root n h p : ℕ) → linked h p ≡ true
    → reaches hosts linked root n p ≡ true → reaches hosts linked root (suc n) h ≡ true
reaches_by hosts linked shape root n h p near there =
    let test : ℕ → Bool = λ q. linked h q && reaches hosts linked root n q in
    let found = lowest_some test hosts p (shape.within h p near).1 (and_from (linked h p) (reaches hosts linked root n p) near there) in
    reaches_suc hosts linked root n h
    ∙ or_right (reaches hosts linked root n h) (is_some (nearest hosts linked root n h)) (ap is_some found.1)

-- who reaches the root with one link more does so without it, or has a neighbour that does
pub reached_by : (hosts : ℕ) (linked : ℕ → ℕ → Bool) (root n h : ℕ) → reaches hosts linked root (suc n) h ≡ true
    → (reaches hosts linked root n h ≡ true) ⊎ ((p : ℕ) × (nearest hosts linked root n h ≡ Some p))
reached_by hosts linked root n h here =
    elim (or_cases (reaches hosts linked root n h) (is_some (nearest hosts linked root n h)) (sym (reaches_suc hosts linked root n h) ∙ here)) [
      | inl before ↦ inl before
      | inr now ↦ inr (go (nearest hosts linked root n h) now)
    ]
  where
    go : (o : Option ℕ) → is_some o ≡ true → (p : ℕ) × (o ≡ Some p)
    go None none = absurd (cc)
    go (Some p) some = (p, refl)

-- the nearest neighbour is one, and reaches the root
pub record IsNearest (hosts : ℕ) (linked : ℕ → ℕ → Bool) (root n h p : ℕ) : Type 0 where
  pub is_linked : linked h p ≡ true
  pub there : reaches hosts linked root n p ≡ true
  pub first : (q : ℕ) → linked h q ≡ true → reaches hosts linked root n q ≡ true → p ≤ q

pub nearest_is : (hosts : ℕ) (linked : ℕ → ℕ → Bool) (root n h p : ℕ) → nearest hosts linked root n h ≡ Some p
    → IsNearest hosts linked root n h p
nearest_is hosts linked root n h p e =
    let found = lowest_found (λ q. linked h q && reaches hosts linked root n q) hosts p e in
    let parts = and_parts (linked h p) (reaches hosts linked root n p) found.passes in
    record {
      is_linked = parts.0;
      there = parts.1;
      first = λ q near there. elim (cases_lt q p) [
        | inl under ↦
            let no : true ≡ false = sym (and_from (linked h q) (reaches hosts linked root n q) near there) ∙ found.first q under in
            absurd (cc)
        | inr over ↦ over
      ];
    }

-- a walk reaches the root by as many links as it has
pub reaches_walk : (hosts : ℕ) (linked : ℕ → ℕ → Bool) → IsGraph hosts linked → (root h : ℕ) (walk : List ℕ)
    → IsWalk linked h root walk → reaches hosts linked root (length walk) h ≡ true
reaches_walk hosts linked shape root h [] here = reaches_zero hosts linked root h ∙ eq-eqb h root here
reaches_walk hosts linked shape root h (next ∷ rest) here =
    reaches_by hosts linked shape root (length rest) h next here.0 (reaches_walk hosts linked shape root next rest here.1)

-- a walk of at most so many links
pub record HasShort (linked : ℕ → ℕ → Bool) (a b most : ℕ) : Type 0 where
  pub walk : List ℕ
  pub is_walk : IsWalk linked a b walk
  pub short : length walk ≤ most

-- who reaches the root has such a walk
pub short_walk : (hosts : ℕ) (linked : ℕ → ℕ → Bool) (root n h : ℕ) → reaches hosts linked root n h ≡ true → HasShort linked h root n
short_walk hosts linked root zero h here =
    record { walk = []; is_walk = eqb-true h root (sym (reaches_zero hosts linked root h) ∙ here); short = omega arith }
short_walk hosts linked root (suc n) h here = elim (reached_by hosts linked root n h here) [
  | inl before ↦
      let found = short_walk hosts linked root n h before in
      record { walk = found.walk; is_walk = found.is_walk; short = let few = found.short in omega (arith, few) }
  | inr next ↦
      let near = nearest_is hosts linked root n h next.0 next.1 in
      let found = short_walk hosts linked root n next.0 near.there in
      record { walk = next.0 ∷ found.walk; is_walk = (near.is_linked, found.is_walk); short = let few = found.short in omega (arith, few) }
]

-- ---- a walk to the root need have fewer links than there are hosts

-- of two tests that count the same, the first implies the second where the second implies the first
count_agrees : (p q : ℕ → Bool) (n : ℕ) → ((h : ℕ) → h < n → p h ≡ true → q h ≡ true) → count_below q n ≤ count_below p n
    → (h : ℕ) → h < n → q h ≡ true → p h ≡ true
count_agrees p q zero sub few h less here = absurd (omega (arith, less))
count_agrees p q (suc n) sub few h less here =
    last (count_below-within p q n (λ k under. sub k (omega (arith, under))))
    (λ as_few under. count_agrees p q n (λ k lower. sub k (omega (arith, lower))) as_few h under here) (p n) refl (q n) refl
  where
    sums : (a b : Bool) → p n ≡ a → q n ≡ b → count_below q n + cond b 1 0 ≤ count_below p n + cond a 1 0
    sums a b first second =
        let one = count_below-suc p n ∙ ap (λ x. count_below p n + cond x 1 0) first in
        let two = count_below-suc q n ∙ ap (λ x. count_below q n + cond x 1 0) second in
        omega (arith, one, two, few)

    as_few_by : p n ≡ true → (b : Bool) → q n ≡ b → count_below q n ≤ count_below p n
    as_few_by first true second = let sum = sums true true first second in omega (arith, sum)
    as_few_by first false second = let no : true ≡ false = sym (sub n (omega arith) first) ∙ second in absurd (cc)

    last : count_below p n ≤ count_below q n → (count_below q n ≤ count_below p n → h < n → p h ≡ true)
        → (a : Bool) → p n ≡ a → (b : Bool) → q n ≡ b → p h ≡ true
    last fewer rest true first b second = elim (cases_lt h n) [
      | inl under ↦ rest (as_few_by first b second) under
      | inr over ↦ let same : n ≡ h = omega (arith, over, less) in subst (λ k. p k ≡ true) same first
    ]
    last fewer rest false first true second = let sum = sums false true first second in absurd (omega (arith, sum, fewer))
    last fewer rest false first false second = elim (cases_lt h n) [
      | inl under ↦ let sum = sums false false first second in rest (omega (arith, sum)) under
      | inr over ↦
          let same : h ≡ n = omega (arith, over, less) in
          let no : true ≡ false = sym here ∙ ap q same ∙ second in
          absurd (cc)
    ]

-- with one link more no other host reaches the root
abbrev Settles : ℕ → (ℕ → ℕ → Bool) → ℕ → ℕ → Type 0
Settles hosts linked root n =
    (h : ℕ) → h < hosts → reaches hosts linked root (suc n) h ≡ true → reaches hosts linked root n h ≡ true

-- then none does with one more still
settles_on : (hosts : ℕ) (linked : ℕ → ℕ → Bool) → IsGraph hosts linked → (root n : ℕ) → Settles hosts linked root n
    → Settles hosts linked root (suc n)
settles_on hosts linked shape root n settled h less here = elim (reached_by hosts linked root (suc n) h here) [
  | inl before ↦ before
  | inr next ↦
      let near = nearest_is hosts linked root (suc n) h next.0 next.1 in
      reaches_by hosts linked shape root n h next.0 near.is_linked (settled next.0 (shape.within h next.0 near.is_linked).1 near.there)
]

-- nor with any number more
settles_all : (hosts : ℕ) (linked : ℕ → ℕ → Bool) → IsGraph hosts linked → (root n : ℕ) → Settles hosts linked root n
    → (more h : ℕ) → h < hosts → reaches hosts linked root (more + n) h ≡ true → reaches hosts linked root n h ≡ true
settles_all hosts linked shape root n settled zero h less here =
    let same : 0 + n ≡ n = omega arith in subst (λ k. reaches hosts linked root k h ≡ true) same here
settles_all hosts linked shape root n settled (suc more) h less here =
    let same : suc more + n ≡ more + suc n = omega arith in
    settled h less (settles_all hosts linked shape root (suc n) (settles_on hosts linked shape root n settled) more h less
    (subst (λ k. reaches hosts linked root k h ≡ true) same here))

-- the root reaches itself
pub root_reaches : (hosts : ℕ) (linked : ℕ → ℕ → Bool) (root n : ℕ) → reaches hosts linked root n root ≡ true
root_reaches hosts linked root n =
    reaches_more hosts linked root 0 n root (omega arith) (reaches_zero hosts linked root root ∙ eq-eqb root root refl)

-- so one host does without a link
one_reaches : (hosts : ℕ) (linked : ℕ → ℕ → Bool) (root : ℕ) → root < hosts → 1 ≤ count_below (reaches hosts linked root 0) hosts
one_reaches hosts linked root host =
    let sub = count_below-within (λ h. root == h) (reaches hosts linked root 0) hosts (λ h less is.
    let same : root ≡ h = eqb-true root h is in
    subst (λ k. reaches hosts linked root 0 k ≡ true) same (root_reaches hosts linked root 0)) in
    let one = count_below-one root hosts host in
    omega (arith, sub, one)

-- after some number of links the hosts that reach the root are all, or there are more of them than links
settles_or_grows : (hosts : ℕ) (linked : ℕ → ℕ → Bool) (root n : ℕ) → root < hosts
    → ((m : ℕ) × (m < n) × Settles hosts linked root m) ⊎ (n < count_below (reaches hosts linked root n) hosts)
settles_or_grows hosts linked root zero host = inr (let one = one_reaches hosts linked root host in omega (arith, one))
settles_or_grows hosts linked root (suc n) host = elim (settles_or_grows hosts linked root n host) [
  | inl settled ↦ inl (settled.0, let less = settled.1 in omega (arith, less), settled.2)
  | inr many ↦ elim (cases_lt (count_below (reaches hosts linked root n) hosts) (count_below (reaches hosts linked root (suc n)) hosts)) [
    | inl grows ↦ inr (omega (arith, many, grows))
    | inr same ↦ inl (
      n,
      omega arith,
      λ h less here.
          count_agrees (reaches hosts linked root n) (reaches hosts linked root (suc n)) hosts (λ k under before. reaches_on hosts linked root n k before) same h less here,
    )
  ]
]

-- who reaches the root reaches it by fewer links than there are hosts
pub reaches_soon : (hosts : ℕ) (linked : ℕ → ℕ → Bool) → IsGraph hosts linked → (root n h : ℕ) → root < hosts → h < hosts
    → reaches hosts linked root n h ≡ true → (m : ℕ) × (m < hosts) × (reaches hosts linked root m h ≡ true)
reaches_soon hosts linked shape root n h host less here = elim (cases_lt n hosts) [
  | inl few ↦ (n, few, here)
  | inr many ↦ elim (settles_or_grows hosts linked root hosts host) [
    | inl settled ↦
        let under = settled.1 in
        let same : n ≡ (n - settled.0) + settled.0 = omega (arith, under, many) in
        (settled.0, under, settles_all hosts linked shape root settled.0 settled.2 (n - settled.0) h less (subst (λ k. reaches hosts linked root k h ≡ true) same here))
    | inr grows ↦ absurd (let most = count_below-le (reaches hosts linked root hosts) hosts in omega (arith, grows, most))
  ]
]

-- a walk from a host of a graph leads to one
pub walk_end : (hosts : ℕ) (linked : ℕ → ℕ → Bool) → IsGraph hosts linked → (a b : ℕ) (walk : List ℕ) → a < hosts → IsWalk linked a b walk → b < hosts
walk_end hosts linked shape a b [] host is = let same : a ≡ b = is in omega (arith, host, same)
walk_end hosts linked shape a b (next ∷ rest) host is = walk_end hosts linked shape next b rest (shape.within a next is.0).1 is.1

-- where there is a walk there is one with fewer links than hosts
pub shorter_walk : (hosts : ℕ) (linked : ℕ → ℕ → Bool) → IsGraph hosts linked → (a b : ℕ) (walk : List ℕ) → a < hosts
    → IsWalk linked a b walk → (m : ℕ) × (m < hosts) × HasShort linked a b m
shorter_walk hosts linked shape a b walk host is =
    let soon = reaches_soon hosts linked shape b (length walk) a (walk_end hosts linked shape a b walk host is) host
    (reaches_walk hosts linked shape b a walk is) in
    (soon.0, soon.1, short_walk hosts linked b soon.0 a soon.2)

-- ---- distances

-- the first number of links by which a host reaches the root
pub record IsFirst (hosts : ℕ) (linked : ℕ → ℕ → Bool) (root h n : ℕ) : Type 0 where
  pub before : reaches hosts linked root n h ≡ false
  pub then : reaches hosts linked root (suc n) h ≡ true

-- one that isn't there without a link, and is there by some, is there by a first number
pub first_reached : (hosts : ℕ) (linked : ℕ → ℕ → Bool) (root h k : ℕ) → reaches hosts linked root 0 h ≡ false
    → reaches hosts linked root k h ≡ true → (n : ℕ) × (n < k) × IsFirst hosts linked root h n
first_reached hosts linked root h zero none here = let no : true ≡ false = sym here ∙ none in absurd (cc)
first_reached hosts linked root h (suc k) none here = elim (cases_Bool (reaches hosts linked root k h)) [
  | inl before ↦
      let found = first_reached hosts linked root h k none before in
      (found.0, let less = found.1 in omega (arith, less), found.2)
  | inr out ↦ (k, omega arith, record { before = out; then = here })
]

-- that number is the distance
pub first_least : (hosts : ℕ) (linked : ℕ → ℕ → Bool) → IsGraph hosts linked → (root h n : ℕ) → IsFirst hosts linked root h n
    → IsLeast linked h root (n + 1)
first_least hosts linked shape root h n first =
    let found = short_walk hosts linked root (suc n) h first.then in
    let few = found.short in
    let least : (walk : List ℕ) → IsWalk linked h root walk → n + 1 ≤ length walk = λ walk is. elim (cases_lt (length walk) (n + 1)) [
      | inl short ↦
          let no : true ≡ false = sym (reaches_more hosts linked root (length walk) n h (omega (arith, short)) (reaches_walk hosts linked shape root h walk is)) ∙ first.before in
          absurd (cc)
      | inr long ↦ long
    ] in
    let many = least found.walk found.is_walk in
    record { some = record { walk = found.walk; is_walk = found.is_walk; links_are = omega (arith, few, many) }; least = least }

-- the root's distance to itself is zero
pub root_least : (linked : ℕ → ℕ → Bool) (root : ℕ) → IsLeast linked root root 0
root_least linked root = record { some = record { walk = []; is_walk = refl; links_are = refl }; least = λ walk is. omega arith }

-- a host has one distance
pub least_one : (linked : ℕ → ℕ → Bool) (a b m n : ℕ) → IsLeast linked a b m → IsLeast linked a b n → m ≡ n
least_one linked a b m n one two =
    let lower = one.least two.some.walk two.some.is_walk in
    let upper = two.least one.some.walk one.some.is_walk in
    let first = one.some.links_are in
    let second = two.some.links_are in
    omega (arith, lower, upper, first, second)

-- where there is a walk there is a distance
pub walk_least : (hosts : ℕ) (linked : ℕ → ℕ → Bool) → IsGraph hosts linked → (h root : ℕ) (walk : List ℕ) → IsWalk linked h root walk
    → (n : ℕ) × IsLeast linked h root n
walk_least hosts linked shape h root walk is = elim (cases_Bool (reaches hosts linked root 0 h)) [
  | inl here ↦
      let same : root ≡ h = sym (eqb-true h root (sym (reaches_zero hosts linked root h) ∙ here)) in
      (0, subst (λ k. IsLeast linked k root 0) same (root_least linked root))
  | inr none ↦
      let found = first_reached hosts linked root h (length walk) none (reaches_walk hosts linked shape root h walk is) in
      (found.0 + 1, first_least hosts linked shape root h found.0 found.2)
]

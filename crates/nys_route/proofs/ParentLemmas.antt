-- The parent that is found is the parent by distances.
use Rattle.std.proofs.Common.{◌≡◌, ℕ, zero, suc, ◌<◌, ◌≤◌, Bool, true, false, cond, List, [], ◌∷◌, length, Option, Some, None, refl, sym, ap, ◌∙◌, subst, inl, inr, arith}
use Rattle.std.proofs.lemmas.Bool.{cases_Bool, cases_eq, cases_lt, cond-true, cond-false, ne_eqb}
use Rattle.nys_graph.specs.Links.{IsGraph}
use Rattle.nys_route.specs.Parents.{IsParentOf, nearest, parent_of, parent_within, reaches}
use Rattle.nys_route.specs.Walks.{IsLeast, IsWalk}
use Rattle.nys_route.proofs.ReachLemmas.{first_least, first_reached, IsFirst, nearest_is, reached_by, reaches_by, reaches_more, reaches_soon, reaches_walk, reaches_zero, root_reaches, short_walk}

-- without a link nobody has a parent
pub parent_zero : (hosts : ℕ) (linked : ℕ → ℕ → Bool) (root h : ℕ) → parent_within hosts linked root 0 h ≡ None
unfolding parent_within
parent_zero hosts linked root h = refl

-- with one more who was there keeps its parent, and the others have their nearest neighbour
pub parent_suc : (hosts : ℕ) (linked : ℕ → ℕ → Bool) (root n h : ℕ)
    → parent_within hosts linked root (suc n) h ≡ cond (reaches hosts linked root n h) (parent_within hosts linked root n h) (nearest hosts linked root n h)
unfolding parent_within
parent_suc hosts linked root n h = refl

-- the root has none
parent_root : (hosts : ℕ) (linked : ℕ → ℕ → Bool) (root n : ℕ) → parent_within hosts linked root n root ≡ None
parent_root hosts linked root zero = parent_zero hosts linked root root
parent_root hosts linked root (suc n) =
    parent_suc hosts linked root n root
    ∙ cond-true (reaches hosts linked root n root) (parent_within hosts linked root n root) (nearest hosts linked root n root) (root_reaches hosts linked root n)
    ∙ parent_root hosts linked root n

-- who never reaches the root has none
parent_out : (hosts : ℕ) (linked : ℕ → ℕ → Bool) → IsGraph hosts linked → (root n h : ℕ) → ((k : ℕ) → reaches hosts linked root k h ≡ false)
    → parent_within hosts linked root n h ≡ None
parent_out hosts linked shape root zero h out = parent_zero hosts linked root h
parent_out hosts linked shape root (suc n) h out =
    parent_suc hosts linked root n h
    ∙ cond-false (reaches hosts linked root n h) (parent_within hosts linked root n h) (nearest hosts linked root n h) (out n)
    ∙ none (nearest hosts linked root n h) refl
  where
    none : (o : Option ℕ) → nearest hosts linked root n h ≡ o → o ≡ None
    none None found = refl
    none (Some p) found =
        let near = nearest_is hosts linked root n h p found in
        let no : true ≡ false = sym (reaches_by hosts linked shape root n h p near.is_linked near.there) ∙ out (suc n) in
        absurd (cc)

-- who is there at last has the nearest neighbour of the link before
parent_first : (hosts : ℕ) (linked : ℕ → ℕ → Bool) (root n k h : ℕ) → n < k → IsFirst hosts linked root h n
    → parent_within hosts linked root k h ≡ nearest hosts linked root n h
parent_first hosts linked root n zero h less first = absurd (omega (arith, less))
parent_first hosts linked root n (suc k) h less first = elim (cases_lt n k) [
  | inl before ↦
      parent_suc hosts linked root k h
      ∙ cond-true (reaches hosts linked root k h) (parent_within hosts linked root k h) (nearest hosts linked root k h)
      (reaches_more hosts linked root (suc n) k h before first.then)
      ∙ parent_first hosts linked root n k h before first
  | inr last ↦
      let same : k ≡ n = omega (arith, last, less) in
      ap (λ m. parent_within hosts linked root (suc m) h) same
      ∙ parent_suc hosts linked root n h
      ∙ cond-false (reaches hosts linked root n h) (parent_within hosts linked root n h) (nearest hosts linked root n h) first.before
]

-- a neighbour by which a host reaches the root first is one link nearer
near_least : (hosts : ℕ) (linked : ℕ → ℕ → Bool) → IsGraph hosts linked → (root h p n : ℕ) → IsFirst hosts linked root h n
    → linked h p ≡ true → reaches hosts linked root n p ≡ true → IsLeast linked p root n
near_least hosts linked shape root h p n first near there =
    let found = short_walk hosts linked root n p there in
    let few = found.short in
    let least : (walk : List ℕ) → IsWalk linked p root walk → n ≤ length walk = λ walk is.
    let own = first_least hosts linked shape root h n first in
    let long = own.least (p ∷ walk) (near, is) in
    omega (arith, long) in
    let many = least found.walk found.is_walk in
    record { some = record { walk = found.walk; is_walk = found.is_walk; links_are = omega (arith, few, many) }; least = least }

-- the neighbour that is found is the parent
first_parent : (hosts : ℕ) (linked : ℕ → ℕ → Bool) → IsGraph hosts linked → (root h n : ℕ) → IsFirst hosts linked root h n
    → (o : Option ℕ) → nearest hosts linked root n h ≡ o → IsParentOf linked root h o
first_parent hosts linked shape root h n first (Some p) found =
    let near = nearest_is hosts linked root n h p found in
    record {
      links = n;
      own = first_least hosts linked shape root h n first;
      near = near_least hosts linked shape root h p n first near.is_linked near.there;
      is_linked = near.is_linked;
      lowest = λ q other least. near.first q other
          (subst (λ m. reaches hosts linked root m q ≡ true) least.some.links_are (reaches_walk hosts linked shape root q least.some.walk least.some.is_walk));
    }
first_parent hosts linked shape root h n first None found = elim (reached_by hosts linked root n h first.then) [
  | inl before ↦ let no : true ≡ false = sym before ∙ first.before in absurd (cc)
  | inr next ↦ let no : None ≡ Some next.0 = sym found ∙ next.1 in absurd (cc)
]

-- what is found of each number is its parent by distances
pub parent_exact : (hosts : ℕ) (linked : ℕ → ℕ → Bool) → IsGraph hosts linked → (root h : ℕ) → root < hosts
    → IsParentOf linked root h (parent_of hosts linked root h)
unfolding parent_of
parent_exact hosts linked shape root h host = elim (cases_eq h root) [
  | inl same ↦
      let none : None ≡ parent_within hosts linked root hosts h = sym (ap (parent_within hosts linked root hosts) same ∙ parent_root hosts linked root hosts) in
      subst (IsParentOf linked root h) none (inl same)
  | inr other ↦ elim (cases_lt h hosts) [
    | inl inside ↦ elim (cases_Bool (reaches hosts linked root hosts h)) [
      | inl here ↦
          let none : reaches hosts linked root 0 h ≡ false = reaches_zero hosts linked root h ∙ ne_eqb h root other in
          let found = first_reached hosts linked root h hosts none here in
          subst (IsParentOf linked root h) (sym (parent_first hosts linked root found.0 hosts h found.1 found.2))
          (first_parent hosts linked shape root h found.0 found.2 (nearest hosts linked root found.0 h) refl)
      | inr out ↦
          let never : (k : ℕ) → reaches hosts linked root k h ≡ false = λ k. elim (cases_Bool (reaches hosts linked root k h)) [
            | inl soon ↦
                let found = reaches_soon hosts linked shape root k h host inside soon in
                let less = found.1 in
                let no : true ≡ false = sym (reaches_more hosts linked root found.0 hosts h (omega (arith, less)) found.2) ∙ out in
                absurd (cc)
            | inr never ↦ never
          ] in
          none_of never
    ]
    | inr past ↦
        let never : (k : ℕ) → reaches hosts linked root k h ≡ false = λ k. elim (cases_Bool (reaches hosts linked root k h)) [
          | inl soon ↦ absurd (no_walk_past (short_walk hosts linked root k h soon).walk (short_walk hosts linked root k h soon).is_walk past)
          | inr never ↦ never
        ] in
        none_of never
  ]
]
  where
    none_of : ((k : ℕ) → reaches hosts linked root k h ≡ false) → IsParentOf linked root h (parent_within hosts linked root hosts h)
    none_of never =
        subst (IsParentOf linked root h) (sym (parent_out hosts linked shape root hosts h never))
        (inr (λ walk is. let no : true ≡ false = sym (reaches_walk hosts linked shape root h walk is) ∙ never (length walk) in absurd (cc)))

    no_walk_past : (walk : List ℕ) → IsWalk linked h root walk → hosts ≤ h → ⊥
    no_walk_past [] is past = let same : h ≡ root = is in omega (arith, same, host, past)
    no_walk_past (next ∷ rest) is past = let less = (shape.within h next is.0).0 in omega (arith, less, past)

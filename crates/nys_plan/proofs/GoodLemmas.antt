-- Planned guards are good: neighbours are of one component, and so take the same first hosts.
use Rattle.std.proofs.Common.{◌≡◌, ℕ, ◌+◌, ◌*◌, ◌<◌, ◌≤◌, Bool, true, false, ◌==◌, ◌&&◌, ◌||◌, not, List, ◌++◌, length, max, replicate, take, slice_index_or, slice_set, refl, sym, ap, subst, ◌∙◌, inl, inr, arith, eq-eqb}
use Rattle.std.proofs.lemmas.Bool.{cases_eq, cases_lt}
use Rattle.std.proofs.lemmas.List.{get_or_past, get_or-replicate, get_or-set_same, get_or-set_other, length-replicate}
use Rattle.nys_hosts.specs.declared.set.HostSet.{HostSet}
use Rattle.nys_hosts.specs.Counts.{hosts_with}
use Rattle.nys_hosts.specs.Makers.{is_listed}
use Rattle.nys_hosts.specs.Sets.{has, no_hosts}
use Rattle.nys_hosts.proofs.CountLemmas.{hosts_with-within}
use Rattle.nys_hosts.proofs.MaskLemmas.{in_mask-zero}
use Rattle.nys_graph.specs.Links.{IsGraph}
use Rattle.nys_guards.specs.Good.{guards_in, IsGood, shared_guards}
use Rattle.nys_plan.specs.Planned.{AreOfHostsBelow, hosts_passing, IsPlanned, order_of}
use Rattle.nys_plan.specs.Refused.{AreEnough, AreFew}
use Rattle.nys_plan.specs.Walks.{IsReached}
use Rattle.nys_plan.proofs.ChoosingLemmas.{count_first, different, hosts_passing-same, length-order_of}
use Rattle.nys_plan.proofs.WalkLemmas.{reached_after, reached_before, reached_self}
use Rattle.nys_plan.proofs.GreatestLemmas.{greatest_same, reached_within}

-- a table with one host's guards more
pub planned_set : (hosts : ℕ) (linked : ℕ → ℕ → Bool) (t : ℕ → ℕ) (table : List HostSet) (h : ℕ)
    (set : HostSet) → h < length table
    → ((k : ℕ) → k < h → IsPlanned hosts linked t k (guards_in table k))
    → IsPlanned hosts linked t h (has set)
    → (k : ℕ) → k < h + 1 → IsPlanned hosts linked t k (guards_in (slice_set table h set) k)
unfolding guards_in
planned_set hosts linked t table h set within before planned k below =
    elim (cases_eq h k) [
      | inl e ↦ subst (λ x. IsPlanned hosts linked t x
          (has (slice_index_or (slice_set table h set) x no_hosts))) e
          (rw (get_or-set_same table h set no_hosts within) planned)
      | inr ne ↦ subst (λ s. IsPlanned hosts linked t k (has s))
          (sym (get_or-set_other table h k set no_hosts (λ e. ne (sym e))))
          (before k (omega arith))
    ]

-- the rows after one that is set stay
pub rows_set : (table : List HostSet) (h : ℕ) (set : HostSet) → AreOfHostsBelow h (guards_in table)
    → AreOfHostsBelow (h + 1) (guards_in (slice_set table h set))
unfolding guards_in
rows_set table h set empty k g past =
    ap (λ s. has s g) (get_or-set_other table h k set no_hosts (omega arith)) ∙ empty k g (omega arith)

-- rows of the empty set have no guards
pub rows_none : (n : ℕ) (set : HostSet) → ((h : ℕ) → has set h ≡ false)
    → AreOfHostsBelow 0 (guards_in (replicate n set))
unfolding guards_in
rows_none n set none k g past = elim (cases_lt k n) [
  | inl within ↦ ap (λ s. has s g) (get_or-replicate n k set no_hosts within) ∙ none g
  | inr past ↦ ap (λ s. has s g) (get_or_past (replicate n set) k no_hosts (omega (arith, length-replicate n set)))
      ∙ in_mask-zero g
]

-- tests that imply each other agree
agree : (a b : Bool) → (a ≡ true → b ≡ true) → (b ≡ true → a ≡ true) → a ≡ b
agree true b f g = sym (f refl)
agree false true f g = g refl
agree false false f g = refl

-- neighbours are of one component
one_component : (hosts : ℕ) (linked : ℕ → ℕ → Bool) (t : ℕ → ℕ) (p h : ℕ) (of_p of_h : ℕ → Bool)
    → IsGraph hosts linked → linked p h ≡ true
    → (first : IsPlanned hosts linked t p of_p) → (second : IsPlanned hosts linked t h of_h)
    → (g : ℕ) → first.component g ≡ second.component g
one_component hosts linked t p h of_p of_h graph link first second g =
    agree (first.component g) (second.component g)
    (λ e. (second.reached g).1 (reached_before linked h p g (graph.symmetric h p ∙ link)
    ((first.reached g).0 e)))
    (λ e. (first.reached g).1 (reached_before linked p h g link ((second.reached g).0 e)))

-- there are as many hosts as the greatest threshold of a component needs
enough_there : (hosts : ℕ) (linked : ℕ → ℕ → Bool) (t : ℕ → ℕ) (h : ℕ) (guards : ℕ → Bool)
    → IsGraph hosts linked → AreEnough hosts t → h < hosts
    → (rule : IsPlanned hosts linked t h guards) → 3 * rule.greatest + 1 ≤ hosts
enough_there hosts linked t h guards graph enough below rule =
    omega (
      arith,
      rule.most.same,
      enough rule.most.host (reached_within hosts linked h rule.most.host graph below rule.most.is),
    )

-- as many of the order are first as are needed
listed_count : (need hosts : ℕ) (component : ℕ → Bool) → need ≤ hosts → hosts ≤ 32
    → hosts_with (is_listed (take need (order_of hosts component))) ≡ need
listed_count need hosts component enough few =
    omega (
      arith,
      length-order_of hosts component,
      count_first need (order_of hosts component) (is_listed (take need (order_of hosts component)))
          (different component hosts hosts few few) (record { same = λ g. refl }),
    )

-- the first of the order are guards
listed_guard : (a b : Bool) → a ≡ true → (a || b) ≡ true
listed_guard a b e = rw e refl

-- the guards that the rule gives are good
pub good_planned : (hosts : ℕ) (linked : ℕ → ℕ → Bool) (t : ℕ → ℕ) (credit : ℕ)
    (guards : ℕ → ℕ → Bool)
    → IsGraph hosts linked
    → AreEnough hosts t → AreFew hosts linked credit
    → ((h : ℕ) → h < hosts → IsPlanned hosts linked t h (guards h))
    → IsGood hosts linked t credit guards
good_planned hosts linked t credit guards graph enough few planned = record {
  own = λ h below. (planned h below).chosen h
      ∙ rw (eq-eqb h h refl) (or_true (is_listed
      (take (3 * (planned h below).greatest + 1) (order_of hosts (planned h below).component)) h));
  many = λ h below.
      let rule = planned h below in
      let list = is_listed (take (3 * rule.greatest + 1) (order_of hosts rule.component)) in
      omega (
        arith,
        rule.most.bound h (reached_self linked h),
        listed_count (3 * rule.greatest + 1) hosts rule.component
            (enough_there hosts linked t h (guards h) graph enough below rule) graph.few,
        hosts_with-within list (guards h)
            (λ g under e. rule.chosen g ∙ listed_guard (list g) (h == g) e),
      );
  near = few;
  shared = λ p h link. share p h link (planned p (graph.within p h link).0)
      (planned h (graph.within p h link).1);
}
  where
    or_true : (b : Bool) → (b || true) ≡ true
    or_true true = refl
    or_true false = refl

    two : (a b : Bool) → a ≡ true → b ≡ true → (a && b) ≡ true
    two a b e f = rw (e, f) refl

    share : (p h : ℕ) → linked p h ≡ true → IsPlanned hosts linked t p (guards p)
        → IsPlanned hosts linked t h (guards h)
        → 2 * max (t p) (t h) + 1 ≤ shared_guards guards p h
    share p h link first second =
        let need = 3 * first.greatest + 1 in
        let same = one_component hosts linked t p h (guards p)
        (guards h) graph link first second in
        let list = is_listed (take need (order_of hosts first.component)) in
        let one_order : order_of hosts first.component ≡ order_of hosts second.component =
        ap (λ xs. xs ++ hosts_passing (λ g. not (first.component g)) hosts)
        (hosts_passing-same first.component second.component hosts same)
        ∙ ap (λ xs. hosts_passing second.component hosts ++ xs)
        (hosts_passing-same (λ g. not (first.component g)) (λ g. not (second.component g)) hosts
        (λ g. ap not (same g))) in
        let one_need : need ≡ 3 * second.greatest + 1 =
        ap (λ m. 3 * m + 1) (greatest_same t (IsReached linked p) (IsReached linked h)
        first.greatest second.greatest
        (λ g r. reached_before linked h p g (graph.symmetric h p ∙ link) r)
        (λ g r. reached_before linked p h g link r) first.most second.most) in
        omega (
          arith,
          first.most.bound p (reached_self linked p),
          first.most.bound h (reached_after linked p p h (reached_self linked p) link),
          listed_count need hosts first.component
              (enough_there hosts linked t p (guards p) graph enough (graph.within p h link).0 first)
              graph.few,
          hosts_with-within list (λ g. guards p g && guards h g) (λ g under e.
              two (guards p g) (guards h g) (first.chosen g ∙ listed_guard (list g) (p == g) e)
              (second.chosen g ∙ listed_guard
              (is_listed (take (3 * second.greatest + 1) (order_of hosts second.component)) g) (h == g)
              (ap (λ n. is_listed (take n (order_of hosts second.component)) g) (sym one_need)
              ∙ ap (λ order. is_listed (take need order) g) (sym one_order) ∙ e))),
        )

-- The greatest threshold, found host by host.
use Rattle.std.proofs.Common.{◌≡◌, ℕ, suc, zero, ◌+◌, ◌<◌, ◌≤◌, Bool, true, max, nat_lt, sym, ap, subst, ◌∙◌, inl, inr, arith, ◌⊎◌, ◌==◌}
use Rattle.std.proofs.lemmas.Bool.{cases_eq, cases_lt, ltb-true}
use Rattle.std.specs.Int.{bit_at}
use Rattle.std.proofs.Math.Nat.{le-max_left, le-max_right}
use Rattle.nys_hosts.specs.Masks.{in_mask}
use Rattle.nys_hosts.specs.Sets.{has}
use Rattle.nys_hosts.specs.declared.set.HostSet.{HostSet}
use Rattle.nys_graph.specs.Links.{IsGraph}
use Rattle.nys_plan.specs.Greatest.{IsGreatest}
use Rattle.nys_plan.specs.Walks.{IsReached, Walks}
use Rattle.nys_plan.proofs.WalkLemmas.{both}

-- of the hosts below n of which P holds none has a greater threshold than m, which is that of one of them all
pub record IsGreatestSoFar (t : ℕ → ℕ) (P : ℕ → Type 0) (n m : ℕ) : Type 0 where
  pub bound : (h : ℕ) → h < n → P h → t h ≤ m
  pub host : ℕ
  pub is : P host
  pub same : t host ≡ m

-- one of them to begin with
pub greatest_first : (t : ℕ → ℕ) (P : ℕ → Type 0) (h m : ℕ) → P h → t h ≡ m → IsGreatestSoFar t P 0 m
greatest_first t P h m is same = record {
  bound = λ k below holds. absurd (omega arith);
  host = h;
  is = is;
  same = same;
}

-- the greater of two
max_is : (a b : ℕ) → (b ≤ a × (max a b ≡ a)) ⊎ (a ≤ b × (max a b ≡ b))
max_is a b = elim (cases_lt a b) [
  | inl less ↦ inr (omega arith, omega arith)
  | inr more ↦ inl (omega arith, omega arith)
]

-- the next host is one of them
pub greatest_more : (t : ℕ → ℕ) (P : ℕ → Type 0) (n m next : ℕ) → IsGreatestSoFar t P n m → P n
    → next ≡ max m (t n) → IsGreatestSoFar t P (n + 1) next
greatest_more t P n m next before is e = elim (max_is m (t n)) [
  | inl old ↦ record {
    bound = λ h below holds. up h below holds;
    host = before.host;
    is = before.is;
    same = before.same ∙ sym (e ∙ old.1);
  }
  | inr new ↦ record {
    bound = λ h below holds. up h below holds;
    host = n;
    is = is;
    same = sym (e ∙ new.1);
  }
]
  where
    up : (h : ℕ) → h < n + 1 → P h → t h ≤ next
    up h below holds = elim (cases_eq h n) [
      | inl here ↦ omega (arith, e, le-max_right m (t n), ap t here)
      | inr other ↦ omega (arith, e, le-max_left m (t n), before.bound h (omega arith) holds)
    ]

-- the next host is none of them
pub greatest_past : (t : ℕ → ℕ) (P : ℕ → Type 0) (n m : ℕ) → IsGreatestSoFar t P n m → (P n → ⊥)
    → IsGreatestSoFar t P (n + 1) m
greatest_past t P n m before not = record {
  bound = λ h below holds. elim (cases_eq h n) [
    | inl here ↦ absurd (not (subst P here holds))
    | inr other ↦ before.bound h (omega arith) holds
  ];
  host = before.host;
  is = before.is;
  same = before.same;
}

-- all of them were looked at
pub greatest_all : (t : ℕ → ℕ) (P : ℕ → Type 0) (n m : ℕ) → ((h : ℕ) → P h → h < n)
    → IsGreatestSoFar t P n m → IsGreatest t P m
greatest_all t P n m below all = record {
  bound = λ h holds. all.bound h (below h holds) holds;
  host = all.host;
  is = all.is;
  same = all.same;
}

-- of the same hosts the greatest threshold is the same
pub greatest_same : (t : ℕ → ℕ) (P Q : ℕ → Type 0) (m n : ℕ) → ((h : ℕ) → P h → Q h) → ((h : ℕ) → Q h → P h)
    → IsGreatest t P m → IsGreatest t Q n → m ≡ n
greatest_same t P Q m n to from first second =
    omega (
      arith,
      first.same,
      second.same,
      first.bound second.host (from second.host second.is),
      second.bound first.host (to first.host first.is),
    )

-- the greatest threshold of hosts by another test that holds of the same ones
pub greatest_of : (t : ℕ → ℕ) (P Q : ℕ → Type 0) (m : ℕ) → ((h : ℕ) → P h → Q h) → ((h : ℕ) → Q h → P h)
    → IsGreatest t P m → IsGreatest t Q m
greatest_of t P Q m to from most = record {
  bound = λ h holds. most.bound h (from h holds);
  host = most.host;
  is = to most.host most.is;
  same = most.same;
}

-- what a host reaches are hosts
pub reached_within : (hosts : ℕ) (linked : ℕ → ℕ → Bool) (h g : ℕ) → IsGraph hosts linked → h < hosts
    → IsReached linked h g → g < hosts
reached_within hosts linked h g graph below r = go r.links r.walk
  where
    go : (n : ℕ) → Walks linked n h g → g < hosts
    go zero here = subst (λ x. x < hosts) here below
    go (suc n) walk = (graph.within walk.0 g walk.2).1

-- the hosts of a set are numbers below 32
pub member_below : (set : HostSet) (h : ℕ) → has set h ≡ true → h < 32
unfolding in_mask
member_below set h e = ltb-true h 32 (both (nat_lt h 32) (bit_at set.bits h == 1) e).0

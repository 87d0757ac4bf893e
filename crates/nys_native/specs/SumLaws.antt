-- Why the sum is a protocol: its state is shown whole, and its effects are allowed.
use Rattle.std.specs.Prelude.{◌≡◌, ℕ, ◌≤◌, Bool, ℤ, List, [], ◌∷◌, Option, Some, None}
use Rattle.std.proofs.Common.{ap, arith}
use Rattle.nys_source.specs.Rules.{IsEffectOf, AreEffectsOf}
use Rattle.nys_source.specs.declared.effect.Effect.TheVariants.{Out}
use Rattle.nys_native.specs.Neighbours.{neighbours_but}
use Rattle.nys_native.specs.NeighbourLaws.{all_none, all_more, sends_allowed, sends_few}
use Rattle.nys_native.specs.Sums.{sum_on, sum_rules, sum_next, sum_with}
use Rattle.nys_native.specs.declared.total.Total.{Total}
use Rattle.std.specs.List.{range_with_len}
use Rattle.nys_hosts.specs.declared.limits.TheConstants.{MAX_HOSTS}

-- a total is its one number
pub sum_same_view : (s t : Total) → s.value ∷ [] ≡ t.value ∷ [] → s ≡ t
sum_same_view s t same = let value : s.value ≡ t.value = cc in λ i. record { value = value i }

-- no effects, one output, or at most one send to each neighbour
allowed_with : (hosts : ℕ) (linked : ℕ → ℕ → Bool) (h : ℕ) (s : Total) (from : Option ℕ) (payload : List ℤ)
    (sum : Option Total) → hosts ≤ MAX_HOSTS
    → AreEffectsOf (sum_rules hosts linked) h (sum_with hosts linked h from payload s sum).1
allowed_with hosts linked h s from payload None few =
    record { few = omega arith; allowed = all_none (IsEffectOf (sum_rules hosts linked) h) }
allowed_with hosts linked h s None payload (Some total) few = record {
  few = omega (arith, sends_few hosts linked h None payload, few);
  allowed = sends_allowed (sum_rules hosts linked) h None payload (range_with_len 0 hosts);
}
allowed_with hosts linked h s (Some p) payload (Some total) few = record {
  few = omega arith;
  allowed = all_more (IsEffectOf (sum_rules hosts linked) h) (Out (total.value ∷ [])) [] tt
      (all_none (IsEffectOf (sum_rules hosts linked) h));
}

-- the effects of a step are allowed
pub sum_effects_allowed : (hosts : ℕ) (linked : ℕ → ℕ → Bool) (h : ℕ) (s : Total) (from : Option ℕ)
    (payload : List ℤ) → hosts ≤ MAX_HOSTS
    → AreEffectsOf (sum_rules hosts linked) h (sum_next hosts linked h s from payload).1
unfolding sum_next
sum_effects_allowed hosts linked h s from payload few =
    allowed_with hosts linked h s from payload (sum_on (Some s) payload) few

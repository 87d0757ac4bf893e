-- Why the flood is a protocol: its effects are allowed.
use Rattle.std.specs.Prelude.{◌≡◌, ℕ, ◌≤◌, Bool, ℤ, List, [], ◌∷◌, Option, Some, None}
use Rattle.std.specs.List.{range_with_len}
use Rattle.std.proofs.Common.{arith}
use Rattle.nys_hosts.specs.declared.limits.TheConstants.{MAX_HOSTS}
use Rattle.nys_source.specs.Rules.{IsEffectOf, AreEffectsOf}
use Rattle.nys_source.specs.declared.effect.Effect.TheVariants.{Out}
use Rattle.nys_native.specs.Neighbours.{neighbours_but, sends_to}
use Rattle.nys_native.specs.NeighbourLaws.{all_none, all_more, sends_allowed, sends_few}
use Rattle.nys_native.specs.Floods.{flood_next, flood_rules, flood_with, greater_of}
use Rattle.nys_native.specs.declared.total.Total.{Total}

-- no effects, or one output and at most one send to each neighbour
allowed_with : (hosts : ℕ) (linked : ℕ → ℕ → Bool) (h : ℕ) (s : Total) (from : Option ℕ) (payload : List ℤ)
    (greater : Option Total) → hosts ≤ MAX_HOSTS
    → AreEffectsOf (flood_rules hosts linked) h (flood_with hosts linked h from payload s greater).1
allowed_with hosts linked h s from payload None few =
    record { few = omega arith; allowed = all_none (IsEffectOf (flood_rules hosts linked) h) }
allowed_with hosts linked h s from payload (Some greater) few = record {
  few = omega (arith, sends_few hosts linked h from payload, few);
  allowed = all_more (IsEffectOf (flood_rules hosts linked) h) (Out payload)
      (sends_to payload (neighbours_but hosts linked h from)) tt
      (sends_allowed (flood_rules hosts linked) h from payload (range_with_len 0 hosts));
}

-- the effects of a step are allowed
pub flood_effects_allowed : (hosts : ℕ) (linked : ℕ → ℕ → Bool) (h : ℕ) (s : Total) (from : Option ℕ)
    (payload : List ℤ) → hosts ≤ MAX_HOSTS
    → AreEffectsOf (flood_rules hosts linked) h (flood_next hosts linked h s from payload).1
unfolding flood_next
flood_effects_allowed hosts linked h s from payload few =
    allowed_with hosts linked h s from payload (greater_of s payload) few

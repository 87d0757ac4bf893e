-- Why the tree is a protocol: its effects are allowed.
use Rattle.std.specs.Prelude.{ℕ, ◌≤◌, Bool, true, false, ℤ, List, [], ◌∷◌, Option, if◌then◌else◌}
use Rattle.std.proofs.Common.{arith}
use Rattle.std.proofs.lemmas.Bool.{and_parts}
use Rattle.std.proofs.lemmas.List.Elements.{All-nil, All-cons}
use Rattle.nys_hosts.specs.declared.limits.TheConstants.{MAX_HOSTS}
use Rattle.nys_source.specs.Rules.{IsEffectOf, AreEffectsOf}
use Rattle.nys_source.specs.declared.effect.Effect.TheVariants.{Out}
use Rattle.nys_route.specs.Parents.{parent_of}
use Rattle.nys_route.specs.Sends.{sends_where}
use Rattle.nys_route.specs.SendLaws.{sends_few, sends_allowed}
use Rattle.nys_route.specs.Trees.{is_child, is_host, passes_on, tree_next, tree_rules}

-- nothing, or one output and a send to some neighbours
by_effects : (hosts : ℕ) (linked : ℕ → ℕ → Bool) (root h : ℕ) (parent : ℕ → Option ℕ) (payload : List ℤ) (passes : Bool) → hosts ≤ MAX_HOSTS
    → AreEffectsOf (tree_rules hosts linked root) h (if passes then Out payload ∷ sends_where hosts (is_child linked parent h) payload else [])
by_effects hosts linked root h parent payload false few =
    record { few = omega arith; allowed = All-nil (IsEffectOf (tree_rules hosts linked root) h) }
by_effects hosts linked root h parent payload true few = record {
  few = omega (arith, sends_few hosts (is_child linked parent h) payload, few);
  allowed = All-cons (IsEffectOf (tree_rules hosts linked root) h) (Out payload) (sends_where hosts (is_child linked parent h) payload) tt
      (sends_allowed (tree_rules hosts linked root) h (is_child linked parent h) payload
      (λ q child. (and_parts (linked h q) (is_host (parent q) h) child).0));
}

-- the effects of a step are allowed
pub tree_effects : (hosts : ℕ) (linked : ℕ → ℕ → Bool) (root h : ℕ) (state : Unit {0}) (from : Option ℕ) (payload : List ℤ) → hosts ≤ MAX_HOSTS
    → AreEffectsOf (tree_rules hosts linked root) h (tree_next hosts linked root h state from payload).1
unfolding tree_next
tree_effects hosts linked root h state from payload few =
    by_effects hosts linked root h (parent_of hosts linked root) payload (passes_on root (parent_of hosts linked root) h from) few

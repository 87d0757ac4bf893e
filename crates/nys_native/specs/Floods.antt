-- The protocol that floods the greatest number: each host keeps the greatest that it has taken.
use Rattle.std.specs.Prelude.{ℕ, Bool, if◌then◌else◌, ℤ, pos, int_lt, List, [], ◌∷◌, Option, Some, None}
use Rattle.nys_source.specs.Rules.{Rules}
use Rattle.nys_source.specs.declared.effect.Effect.{Effect}
use Rattle.nys_source.specs.declared.effect.Effect.TheVariants.{Out}
use Rattle.nys_native.specs.Neighbours.{neighbours_but, sends_to}
use Rattle.nys_native.specs.declared.total.Total.{Total}

-- the payload's first number, where it is greater than the host's
abbrev pub greater_of : Total → List ℤ → Option Total
greater_of old [] = None
greater_of old (first ∷ rest) = if int_lt old.value first then Some (record { value = first }) else None

-- a greater number becomes the host's, and the payload goes out and to each neighbour but the sender,
-- rising; else nothing changes
abbrev pub flood_with : ℕ → (ℕ → ℕ → Bool) → ℕ → Option ℕ → List ℤ → Total → Option Total → Total × List Effect
flood_with hosts linked h from payload old None = (old, [])
flood_with hosts linked h from payload old (Some greater) =
    (greater, Out payload ∷ sends_to payload (neighbours_but hosts linked h from))

-- what a host does with a payload
unfoldable pub flood_next : ℕ → (ℕ → ℕ → Bool) → ℕ → Total → Option ℕ → List ℤ → Total × List Effect
flood_next hosts linked h old from payload =
    flood_with hosts linked h from payload old (greater_of old payload)

-- the rules of the flood on a graph
abbrev pub flood_rules : ℕ → (ℕ → ℕ → Bool) → Rules Total
flood_rules hosts linked = record {
  hosts = hosts;
  linked = linked;
  start = λ _. record { value = pos 0 };
  next = flood_next hosts linked;
  view = λ total. total.value ∷ [];
}

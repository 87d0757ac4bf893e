-- The protocol that adds up: each host keeps a total.
use Rattle.std.specs.Prelude.{◌≡◌, ℕ, Bool, nat_lt, if◌then◌else◌, ℤ, pos, negsuc, ◌+ℤ◌, List, [], ◌∷◌, ◌^◌, Option, Some, None}
use Rattle.nys_graph.specs.Links.{linked_in}
use Rattle.nys_graph.specs.declared.table.Graph.{Graph}
use Rattle.nys_source.specs.Rules.{Rules}
use Rattle.nys_source.specs.declared.effect.Effect.{Effect}
use Rattle.nys_source.specs.declared.effect.Effect.TheVariants.{Send, Out}
use Rattle.nys_native.specs.Neighbours.{neighbours_but, sends_to}
use Rattle.nys_native.specs.declared.total.Total.{Total}

-- the number is a signed one of 64 bits
abbrev pub fits : ℤ → Bool
fits (pos n) = nat_lt n (2 ^ 63)
fits (negsuc n) = nat_lt n (2 ^ 63)

-- the number, where it fits 64 bits
abbrev pub fitting : ℤ → Option ℤ
fitting z = if fits z then Some z else None

-- the state of a number
abbrev pub total_of : Option ℤ → Option Total
total_of None = None
total_of (Some z) = Some (record { value = z })

-- a total with numbers added to it from left to right, where each sum on the way fits
abbrev pub sum_on : Option Total → List ℤ → Option Total
sum_on None xs = None
sum_on (Some total) [] = Some total
sum_on (Some total) (x ∷ xs) = sum_on (total_of (fitting (total.value +ℤ x))) xs

-- an input is sent to each neighbour, rising; on a receive the new total goes out
abbrev pub sum_effects : ℕ → (ℕ → ℕ → Bool) → ℕ → Option ℕ → List ℤ → Total → List Effect
sum_effects hosts linked h None payload total = sends_to payload (neighbours_but hosts linked h None)
sum_effects hosts linked h (Some from) payload total = Out (total.value ∷ []) ∷ []

-- the new total with its effects; where a sum doesn't fit, nothing changes
abbrev pub sum_with : ℕ → (ℕ → ℕ → Bool) → ℕ → Option ℕ → List ℤ → Total → Option Total → Total × List Effect
sum_with hosts linked h from payload old None = (old, [])
sum_with hosts linked h from payload old (Some total) =
    (total, sum_effects hosts linked h from payload total)

-- what a host does with a payload: it adds all its numbers to the total
unfoldable pub sum_next : ℕ → (ℕ → ℕ → Bool) → ℕ → Total → Option ℕ → List ℤ → Total × List Effect
sum_next hosts linked h old from payload =
    sum_with hosts linked h from payload old (sum_on (Some old) payload)

-- the rules of the sum on a graph
abbrev pub sum_rules : ℕ → (ℕ → ℕ → Bool) → Rules Total
sum_rules hosts linked = record {
  hosts = hosts;
  linked = linked;
  start = λ _. record { value = pos 0 };
  next = sum_next hosts linked;
  view = λ total. total.value ∷ [];
}

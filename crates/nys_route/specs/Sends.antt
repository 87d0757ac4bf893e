-- Payloads sent to those hosts that pass a test, rising.
use Rattle.std.specs.Prelude.{ℕ, Bool, true, not, ◌&&◌, ◌==◌, ℤ, List, map, filter, Option, Some, None}
use Rattle.std.specs.List.{range_with_len}
use Rattle.nys_source.specs.declared.effect.Effect.{Effect}
use Rattle.nys_source.specs.declared.effect.Effect.TheVariants.{Send}

-- the payload is sent to each host below a number that passes the test, rising
abbrev pub sends_where : ℕ → (ℕ → Bool) → List ℤ → List Effect
sends_where hosts test payload = map (λ q. Send q payload) (filter test (range_with_len 0 hosts))

-- the host isn't the sender of what was taken, if that has one
abbrev pub is_not : Option ℕ → ℕ → Bool
is_not None q = true
is_not (Some from) q = not (q == from)

-- a neighbour of host h, but not the sender of what it took
abbrev pub is_other : (ℕ → ℕ → Bool) → ℕ → Option ℕ → ℕ → Bool
is_other linked h from q = linked h q && is_not from q

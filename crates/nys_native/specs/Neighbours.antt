-- The neighbours of a host in rising order, and payloads sent to them.
use Rattle.std.specs.Prelude.{ℕ, Bool, true, not, ◌&&◌, ◌==◌, ℤ, List, map, filter, Option, Some, None}
use Rattle.std.specs.List.{range_with_len}
use Rattle.nys_source.specs.declared.effect.Effect.{Effect}
use Rattle.nys_source.specs.declared.effect.Effect.TheVariants.{Send}

-- the host isn't the sender of what was taken, if that has one
abbrev pub is_not : Option ℕ → ℕ → Bool
is_not None p = true
is_not (Some from) p = not (p == from)

-- the neighbours of host h but the sender, rising
abbrev pub neighbours_but : ℕ → (ℕ → ℕ → Bool) → ℕ → Option ℕ → List ℕ
neighbours_but hosts linked h from = filter (λ p. linked h p && is_not from p) (range_with_len 0 hosts)

-- the payload is sent to each of the hosts, in order
abbrev pub sends_to : List ℤ → List ℕ → List Effect
sends_to payload hosts = map (λ p. Send p payload) hosts

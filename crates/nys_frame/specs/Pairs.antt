-- The streams of links over sockets: one for each pair of hosts, in one table.
use Rattle.std.specs.Prelude.{ℕ, ◌+◌, ◌-◌, ◌*◌, ◌/◌, ◌≤◌, ⊤, nat_lt, if◌then◌else◌, Option, None, Some}

-- how many pairs so many hosts have
abbrev pub pairs_of : ℕ → ℕ
pairs_of hosts = hosts * (hosts - 1) / 2

-- the place of a pair: behind the pairs of lesser hosts
abbrev pub place_of : ℕ → ℕ → ℕ
place_of a b = (if nat_lt a b then pairs_of b + a else pairs_of a + b)

-- the table has the places of all pairs of connected hosts
abbrev pub HasPairs : Option ℕ → ℕ → Type 0
HasPairs None places = ⊤
HasPairs (Some hosts) places = pairs_of hosts ≤ places

-- what contracts see of links over sockets
pub record Sockets : Type 0 where
  -- the number of hosts for which they are connected, if they are
  pub hosts : Option ℕ
  -- how often they have failed
  pub faults : ℕ

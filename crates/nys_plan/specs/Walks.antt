-- Which hosts a host reaches along links.
use Rattle.std.specs.Prelude.{◌≡◌, ℕ, zero, suc, Bool, true, ◌&&◌, nat_lt}
use Rattle.nys_hosts.specs.Counts.{hosts_with}

-- a walk of so many links leads from a to b
abbrev pub Walks : (ℕ → ℕ → Bool) → ℕ → ℕ → ℕ → Type 0
Walks linked zero a b = a ≡ b
Walks linked (suc n) a b = (c : ℕ) × Walks linked n a c × (linked c b ≡ true)

-- some walk leads from a to b: they are of one connected component
pub record IsReached (linked : ℕ → ℕ → Bool) (a b : ℕ) : Type 0 where
  -- how many links the walk has
  pub links : ℕ
  pub walk : Walks linked links a b

-- some host that passes is a neighbour of g
unfoldable pub touches : (ℕ → ℕ → Bool) → (ℕ → Bool) → ℕ → Bool
touches linked set g = nat_lt 0 (hosts_with (λ p. linked g p && set p))

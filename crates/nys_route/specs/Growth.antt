-- What is known of a tree after so many rounds of its growth.
use Rattle.std.specs.Prelude.{◌≡◌, ℕ, ◌<◌, ◌≤◌, ◌&&◌, ◌||◌, Bool, false, if◌then◌else◌, Option, None, is_some, slice_index_or}
use Rattle.nys_route.specs.Parents.{lowest, parent_within, reaches}
use Rattle.nys_route.specs.declared.growing.Grown.{Grown}

-- whether a host is reached, and the parent that it has
abbrev pub is_reached : Grown → ℕ → Bool
is_reached grown h = slice_index_or grown.reached h false

abbrev pub parent_in : Grown → ℕ → Option ℕ
parent_in grown h = slice_index_or grown.parents h None

-- the lowest neighbour of h that is reached
abbrev pub nearest_in : ℕ → (ℕ → ℕ → Bool) → Grown → ℕ → Option ℕ
nearest_in hosts linked grown h = lowest (λ p. linked h p && is_reached grown p) hosts

-- one round more: hosts with a neighbour that is reached are reached, with the lowest such for their parent
pub record IsFarther (hosts : ℕ) (linked : ℕ → ℕ → Bool) (before after : Grown) : Type 0 where
  pub reached : (h : ℕ) → h < hosts
      → is_reached after h ≡ (is_reached before h || is_some (nearest_in hosts linked before h))
  pub parents : (h : ℕ) → h < hosts
      → parent_in after h ≡ (if is_reached before h then parent_in before h else nearest_in hosts linked before h)
  pub past : (h : ℕ) → hosts ≤ h → parent_in after h ≡ parent_in before h

-- the hosts with a walk of at most so many links to the root, and their parents
pub record IsGrown (hosts : ℕ) (linked : ℕ → ℕ → Bool) (root links : ℕ) (grown : Grown) : Type 0 where
  pub reached : (h : ℕ) → h < hosts → is_reached grown h ≡ reaches hosts linked root links h
  pub parents : (h : ℕ) → h < hosts → parent_in grown h ≡ parent_within hosts linked root links h
  pub past : (h : ℕ) → hosts ≤ h → parent_in grown h ≡ None

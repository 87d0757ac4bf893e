-- Links between hosts, as a table of sets and as a list of pairs, and what makes them a graph.
use Rattle.std.specs.Prelude.{◌≡◌, ℕ, ◌<◌, ◌≤◌, Bool, true, false, ◌==◌, ◌&&◌, ◌||◌, List, slice_index_or}
use Rattle.std.specs.List.{list_any}
use Rattle.nys_hosts.specs.declared.limits.TheConstants.{MAX_HOSTS}
use Rattle.nys_hosts.specs.declared.set.HostSet.{HostSet}
use Rattle.nys_hosts.specs.Sets.{has, no_hosts}

-- hosts a and b are linked, by a table that has for each host the set of its neighbours
unfoldable pub linked_in : List HostSet → ℕ → ℕ → Bool
linked_in rows a b = has (slice_index_or rows a no_hosts) b

-- the pair joins a and b, in either direction
abbrev pub joins : ℕ × ℕ → ℕ → ℕ → Bool
joins link a b = ((link.0 == a) && (link.1 == b)) || ((link.0 == b) && (link.1 == a))

-- some pair of the list joins a and b
unfoldable pub joined : List (ℕ × ℕ) → ℕ → ℕ → Bool
joined links a b = list_any (λ link. joins link a b) links

-- what every graph is: links have no direction, join different hosts, and only hosts of the graph
pub record IsGraph (hosts : ℕ) (linked : ℕ → ℕ → Bool) : Type 0 where
  pub some : 1 ≤ hosts
  pub few : hosts ≤ MAX_HOSTS
  pub symmetric : (a b : ℕ) → linked a b ≡ linked b a
  pub irreflexive : (a : ℕ) → linked a a ≡ false
  pub within : (a b : ℕ) → linked a b ≡ true → (a < hosts) × (b < hosts)

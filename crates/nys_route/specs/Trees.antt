-- The protocol that multicasts: what the root is given goes down the tree of shortest walks.
use Rattle.std.specs.Prelude.{ℕ, ◌==◌, ◌&&◌, Bool, false, if◌then◌else◌, ℤ, List, [], ◌∷◌, Option, Some, None}
use Rattle.nys_source.specs.Rules.{Rules}
use Rattle.nys_source.specs.declared.effect.Effect.{Effect}
use Rattle.nys_source.specs.declared.effect.Effect.TheVariants.{Out}
use Rattle.nys_route.specs.Parents.{parent_of}
use Rattle.nys_route.specs.Sends.{sends_where}

-- the host is that one
abbrev pub is_host : Option ℕ → ℕ → Bool
is_host None h = false
is_host (Some p) h = p == h

-- a child of h is a neighbour whose parent is h
abbrev pub is_child : (ℕ → ℕ → Bool) → (ℕ → Option ℕ) → ℕ → ℕ → Bool
is_child linked parent h q = linked h q && is_host (parent q) h

-- what host h passes on: an input where it is the root, and what its parent sent
abbrev pub passes_on : ℕ → (ℕ → Option ℕ) → ℕ → Option ℕ → Bool
passes_on root parent h None = h == root
passes_on root parent h (Some p) = is_host (parent h) p

-- what is passed on goes out and to the children, rising; all else does nothing
abbrev pub tree_by : ℕ → (ℕ → ℕ → Bool) → ℕ → (ℕ → Option ℕ) → ℕ → Unit {0} → Option ℕ → List ℤ → Unit {0} × List Effect
tree_by hosts linked root parent h state from payload =
    (state, if passes_on root parent h from then Out payload ∷ sends_where hosts (is_child linked parent h) payload else [])

-- what a host does with a payload
unfoldable pub tree_next : ℕ → (ℕ → ℕ → Bool) → ℕ → ℕ → Unit {0} → Option ℕ → List ℤ → Unit {0} × List Effect
tree_next hosts linked root h state from payload =
    tree_by hosts linked root (parent_of hosts linked root) h state from payload

-- the rules of the tree of a root on a graph
abbrev pub tree_rules : ℕ → (ℕ → ℕ → Bool) → ℕ → Rules (Unit {0})
tree_rules hosts linked root = record {
  hosts = hosts;
  linked = linked;
  start = λ _. tt;
  next = tree_next hosts linked root;
  view = λ _. [];
}

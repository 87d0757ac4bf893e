-- How many entries are logged in a world.
use Rattle.std.specs.Prelude.{ℕ, List, filter}
use Rattle.std.specs.List.{sum_by}
use Rattle.nys_node.specs.Means.{Means}
use Rattle.nys_node.specs.declared.node.Node.{Node}
use Rattle.nys_rules.specs.Olympus.{hosts_of}
use Rattle.nys_rules.specs.Scope.{Scope}
use Rattle.nys_rules.specs.View.{length_of, View}
use Rattle.nys_rules.specs.World.{is_honest, Setting, World}

-- how many entries a node has in its logs of those of these hosts of which it has a replica
abbrev pub entries_in : View → List ℕ → ℕ
entries_in v hosts = sum_by (length_of v) (filter v.known hosts)

-- how many the honest ones of these hosts have, each in its logs of all hosts
abbrev pub logged_in : {S : Type 0} → Setting S → World → List ℕ → ℕ
logged_in setting w hosts =
    sum_by (λ g. entries_in (w.nodes g) (hosts_of setting.scope)) (filter (is_honest setting) hosts)

-- how many all honest hosts have: the sum of the lengths of all honest replicas
abbrev pub logged : {S : Type 0} → Setting S → World → ℕ
logged setting w = logged_in setting w (hosts_of setting.scope)

-- the node means some view in some scenario
pub record IsMeant {P S : Type 0} (node : Node P S) : Type 0 where
  pub scope : Scope S
  pub view : View
  pub means : Means scope node view

-- What settling makes of a node.
use Rattle.std.specs.Prelude.{◌≡◌, List}
use Rattle.nys_node.specs.Means.{IsViewOf}
use Rattle.nys_node.specs.declared.node.Node.{Node}
use Rattle.nys_rules.specs.Packets.{Acts, joined}
use Rattle.nys_rules.specs.Scope.{Scope}
use Rattle.nys_rules.specs.Settling.{Settles, SettlesInto}
use Rattle.nys_rules.specs.View.{View}
use Rattle.nys_rules.specs.declared.rule.Rule.{Rule}

-- the view settled into one that the node now means, and what was done is what was done before and then
-- what settling does
pub record HasSettled {P S : Type 0} (scope : Scope S) (node : Node P S) (v : View) (before now : Acts) : Type 0 where
  pub after : View
  pub is : IsViewOf scope node after
  pub rest : Acts
  pub settles : SettlesInto scope v after rest
  pub acts : now ≡ joined before rest

-- the view is settling: the node means the view that the rules taken so far lead to, and whatever settles
-- from there settles the whole
pub record IsSettling {P S : Type 0} (scope : Scope S) (node : Node P S) (v : View) (before now : Acts) : Type 0 where
  pub view : View
  pub is : IsViewOf scope node view
  pub did : Acts
  pub acts : now ≡ joined before did
  pub goes : (rules : List Rule) (after : View) (rest : Acts) → Settles scope view rules after rest
      → SettlesInto scope v after (joined did rest)

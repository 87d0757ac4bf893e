-- What hosts make from some world on: nothing of an epoch that their nodes have left.
use Rattle.std.specs.Prelude.{◌≢◌, ℕ, ◌≤◌, ◌⊎◌, List, Ok}
use Rattle.nys_stmt.specs.declared.statement.Statement.{Statement}
use Rattle.nys_rules.specs.Events.{Plain}
use Rattle.nys_rules.specs.Forged.{Entry, HasMade}
use Rattle.nys_rules.specs.Happening.{HappenAll}
use Rattle.nys_rules.specs.Scope.{olympus}
use Rattle.nys_rules.specs.View.{View}
use Rattle.nys_rules.specs.World.{Setting, World}

-- since a world in which the node of g was in the epoch `since`, it came to no earlier one, and g
-- made no statement of an earlier one
pub record MadeSince (since : ℕ) (older : List Entry) (g : ℕ) (ledger : List Entry)
    (v : View) : Type 0 where
  pub rises : since ≤ v.epoch
  pub made : (s : Statement) → HasMade ledger g s → HasMade older g s ⊎ (since ≤ s.epoch)

-- whatever events follow a world, no host makes a statement of an epoch that its node left before
abbrev pub LeaveEpochs : {S : Type 0} → Setting S → Type 0
LeaveEpochs setting = (events : List Plain) (w next : World) → HappenAll setting w events (Ok next)
    → (g : ℕ) → g ≢ olympus → MadeSince (w.nodes g).epoch w.ledger g next.ledger (next.nodes g)

-- That nobody says two things where one is allowed. The ledger has no statement of a liar.
use Rattle.std.specs.Prelude.{◌≡◌, ◌≢◌, ℕ, List}
use Rattle.nys_bytes.specs.declared.content.Content.{Content}
use Rattle.nys_stmt.specs.declared.statement.Body.TheVariants.{Filled}
use Rattle.nys_stmt.specs.declared.statement.FilledKind.{FilledKind}
use Rattle.nys_stmt.specs.declared.statement.FilledKind.TheVariants.{Offer, Order, Deliver}
use Rattle.nys_rules.specs.Forged.{Entry, HasMade}
use Rattle.nys_rules.specs.Scope.{olympus}
use Rattle.nys_rules.specs.Sending.{said_in}
use Rattle.nys_rules.specs.World.{World}

-- no two statements of a kind that party g made for one epoch, host and slot have different contents
abbrev pub MakesOne : List Entry → (g : ℕ) → FilledKind → Type 0
MakesOne ledger g kind = (e h s : ℕ) (c d : Content) → HasMade ledger g (said_in e (Filled kind h s c))
    → HasMade ledger g (said_in e (Filled kind h s d)) → c ≡ d

-- party g made at most one Offer, one Order and one Deliver for each host, slot and epoch
pub record SaysOnce (ledger : List Entry) (g : ℕ) : Type 0 where
  pub offers : MakesOne ledger g Offer
  pub orders : MakesOne ledger g Order
  pub delivers : MakesOne ledger g Deliver

-- the hosts did so, whatever is asked of their scenario
abbrev pub SayOnce : World → Type 0
SayOnce w = (g : ℕ) → g ≢ olympus → SaysOnce w.ledger g

-- What a world shows of what its parties keep: of each vote and attestation who was seen, and of each entry of a
-- log and of each Order what it rests on.
use Rattle.std.proofs.Common.{◌≡◌, ◌≢◌, ℕ, ◌⊎◌, List, Some}
use Rattle.std.specs.Prelude.{All, slice_get}
use Rattle.nys_bytes.specs.declared.content.Content.{Content}
use Rattle.nys_stmt.specs.declared.statement.Body.TheVariants as body
use Rattle.nys_stmt.specs.declared.statement.FilledKind.TheVariants as kind
use Rattle.nys_rules.specs.Evidence.{AttestsSeen, DeliversSeen, IsSeen, ReportsSeen}
use Rattle.nys_rules.specs.Forged.{Entry, HasMade}
use Rattle.nys_rules.specs.Olympus.{OlympusView}
use Rattle.nys_rules.specs.Scope.{olympus}
use Rattle.nys_rules.specs.Sending.{said_in}
use Rattle.nys_rules.specs.View.{View}
use Rattle.nys_rules.specs.World.{Setting, World}
use Rattle.nys_evidence.proofs.KeptLemmas.{KeepsPassed, Test}
use Rattle.nys_evidence.proofs.SeenLemmas.{Reaches}

-- a maker is the party itself, or the party was seen to take its tag in the world
abbrev pub IsOwnOrSeen : {S : Type 0} → Setting S → World → (g : ℕ) → Test
IsOwnOrSeen setting z g = λ m s. (m ≡ g) ⊎ IsSeen setting z g s m

-- an entry of a log: in some epoch enough votes or reports were seen, and a party voted or reported so
pub record IsBorne {S : Type 0} (setting : Setting S) (z : World) (h s : ℕ) (content : Content) : Type 0 where
  pub epoch : ℕ
  pub votes : DeliversSeen setting z epoch h s content ⊎ ReportsSeen setting z epoch h s content
  pub maker : ℕ
  pub said : HasMade z.ledger maker (said_in epoch (body.Filled kind.Deliver h s content))
      ⊎ HasMade z.ledger maker (said_in epoch (body.Filled kind.Report h s content))

-- so are the entries of the log of h
abbrev pub AreBorne : {S : Type 0} → Setting S → World → (h : ℕ) → List Content → Type 0
AreBorne setting z h log = (s : ℕ) (content : Content) → slice_get log s ≡ Some content → IsBorne setting z h s content

-- what the node of g keeps of makers was seen, and its logs are borne
pub record IsViewShown {S : Type 0} (setting : Setting S) (z : World) (g : ℕ) (v : View) : Type 0 where
  pub kept : KeepsPassed (IsOwnOrSeen setting z g) v
  pub logs : (h : ℕ) → AreBorne setting z h (v.logs h)

-- what the Olympus keeps of guards was seen, and its logs are borne
pub record IsOlympusShown {S : Type 0} (setting : Setting S) (z : World) (o : OlympusView) : Type 0 where
  pub reports : (h slot : ℕ)
      → All (λ r. IsSeen setting z olympus (said_in o.epoch (body.Filled kind.Report h slot r.content)) r.guard) (o.reports h slot)
  pub decided : (h : ℕ) → AreBorne setting z h (o.decided h)

-- where a host made an Order of a message, its attestations were seen
abbrev pub AreOrdersShown : {S : Type 0} → Setting S → World → List Entry → Type 0
AreOrdersShown setting z ledger = (g e h s : ℕ) (content : Content) → g ≢ olympus
    → HasMade ledger g (said_in e (body.Filled kind.Order h s content)) → AttestsSeen setting z e h content

-- all this of these nodes, this Olympus and this ledger
pub record AreShown {S : Type 0} (setting : Setting S) (z : World) (nodes : ℕ → View) (o : OlympusView)
    (ledger : List Entry) : Type 0 where
  pub views : (g : ℕ) → g ≢ olympus → IsViewShown setting z g (nodes g)
  pub top : IsOlympusShown setting z o
  pub orders : AreOrdersShown setting z ledger

-- each later world shows so of what the parties of this world keep
abbrev pub IsShownLater : {S : Type 0} → Setting S → World → Type 0
IsShownLater setting w = (z : World) → Reaches w z
    → AreShown setting z w.nodes w.olympus w.ledger

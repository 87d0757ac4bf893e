-- What is asked of the steps of a node and of the Olympus so that the machine allows them, where the
-- rules alone don't say it: that what counts as said was said. All is in terms of the ledger of a world.
use Rattle.std.specs.Prelude.{◌≡◌, ℕ, ◌+◌, ◌<◌, ◌≤◌, ◌⊎◌, false, List, length, slice_get, Some}
use Rattle.nys_bytes.specs.declared.content.Content.{Content}
use Rattle.nys_bytes.specs.declared.content.Content.TheVariants.{External, Message}
use Rattle.nys_hosts.specs.Counts.{AtLeast}
use Rattle.nys_stmt.specs.declared.statement.Body.TheVariants as body
use Rattle.nys_stmt.specs.declared.statement.FilledKind.TheVariants as kind
use Rattle.nys_rules.specs.declared.decision.Decision.TheVariants as decide
use Rattle.nys_rules.specs.Forged.{Entry, HasMade}
use Rattle.nys_rules.specs.Olympus.{decision, OlympusView, supports}
use Rattle.nys_rules.specs.Rules.{to_deliver, to_log, to_offer, to_order}
use Rattle.nys_rules.specs.Scope.{quorum_at}
use Rattle.nys_rules.specs.Sending.{said_in}
use Rattle.nys_rules.specs.View.{length_of, View}
use Rattle.nys_rules.specs.World.{Setting, World}
use Rattle.nys_laws.specs.Vouched.{IsFrozenAt, IsVouched, IsVouchedByBoth}

-- a message is one that more guards of its link attest than may lie
abbrev pub IsBacked : {S : Type 0} → Setting S → List Entry → (e h : ℕ) → Content → Type 0
IsBacked setting ledger e h (External payload) = Unit {0}
IsBacked setting ledger e h (Message p k payload) =
    (p < setting.scope.rules.hosts) × AtLeast (setting.scope.t e p + 1) (IsVouchedByBoth setting ledger e p h k payload)

-- a node offers once a slot
abbrev pub OfferMay : List Entry → (g : ℕ) → View → (h : ℕ) → Type 0
OfferMay ledger g v h =
    (d : Content) → HasMade ledger g (said_in v.epoch (body.Filled kind.Offer h (length_of v h) d)) → ⊥

-- a node orders once a slot, what an honest host offered, and a message that was attested
pub record OrderMay {S : Type 0} (setting : Setting S) (ledger : List Entry) (g : ℕ) (v : View) (h : ℕ) (c : Content) : Type 0 where
  pub never : (d : Content) → HasMade ledger g (said_in v.epoch (body.Filled kind.Order h (length_of v h) d)) → ⊥
  pub offered : setting.liars h ≡ false → HasMade ledger h (said_in v.epoch (body.Filled kind.Offer h (length_of v h) c))
  pub backed : IsBacked setting ledger v.epoch h c

-- a node votes to deliver once a slot, what a quorum ordered or more guards voted for than may lie
pub record DeliverMay {S : Type 0} (setting : Setting S) (ledger : List Entry) (g : ℕ) (v : View) (h : ℕ) (c : Content) : Type 0 where
  pub never : (d : Content) → HasMade ledger g (said_in v.epoch (body.Filled kind.Deliver h (length_of v h) d)) → ⊥
  pub backed : AtLeast (quorum_at setting.scope v.epoch h) (IsVouched setting ledger v.epoch h (body.Filled kind.Order h (length_of v h) c))
      ⊎ AtLeast (setting.scope.t v.epoch h + 1) (IsVouched setting ledger v.epoch h (body.Filled kind.Deliver h (length_of v h) c))

-- a node logs what a quorum voted for
abbrev pub LogMay : {S : Type 0} → Setting S → List Entry → View → (h : ℕ) → Content → Type 0
LogMay setting ledger v h c =
    AtLeast (quorum_at setting.scope v.epoch h) (IsVouched setting ledger v.epoch h (body.Filled kind.Deliver h (length_of v h) c))

-- what an honest node reports and where it freezes agrees with its Delivers of the epoch: the one that
-- it keeps it made, at or past the base, and it freezes past all
pub record ReportMay (ledger : List Entry) (g : ℕ) (v : View) : Type 0 where
  pub kept : (h : ℕ) (c : Content) → (v.desks h).delivered ≡ Some c
      → (v.base h ≤ length_of v h) × HasMade ledger g (said_in v.epoch (body.Filled kind.Deliver h (length_of v h) c))
  pub frozen : (h s : ℕ) (c : Content) → HasMade ledger g (said_in v.epoch (body.Filled kind.Deliver h s c)) → s < v.voted_to h

-- what is asked of the view of the node of an honest host g, whatever ledger stands beside it
pub record Grounds {S : Type 0} (setting : Setting S) (g : ℕ) (ledger : List Entry) (v : View) : Type 0 where
  pub offers : (h : ℕ) (c : Content) → to_offer setting.scope v h ≡ Some c → OfferMay ledger g v h
  pub orders : (h : ℕ) (c : Content) → to_order setting.scope v h ≡ Some c → OrderMay setting ledger g v h c
  pub delivers : (h : ℕ) (c : Content) → to_deliver setting.scope v h ≡ Some c → DeliverMay setting ledger g v h c
  pub logs : (h : ℕ) (c : Content) → to_log setting.scope v h ≡ Some c → LogMay setting ledger v h c
  pub reports : ReportMay ledger g v

-- what is asked of the Olympus where it decides a log: it is a host's, more guards reported each entry
-- that supports it than may lie, and a quorum is frozen where the entries end
pub record DecideMay {S : Type 0} (setting : Setting S) (ledger : List Entry) (o : OlympusView) (h : ℕ) : Type 0 where
  pub host : h < setting.scope.rules.hosts
  pub reported : (i : ℕ) (c : Content) → slice_get (supports setting.scope o h) i ≡ Some c
      → AtLeast (setting.scope.t o.epoch h + 1) (IsVouched setting ledger o.epoch h (body.Filled kind.Report h (o.base h + i) c))
  pub frozen : AtLeast (quorum_at setting.scope o.epoch h)
      (IsFrozenAt setting ledger o.epoch h (o.base h + length (supports setting.scope o h)))

-- it is so of each log that it decides
abbrev pub Decisive : {S : Type 0} → Setting S → World → Type 0
Decisive setting w = (h len : ℕ) → decision setting.scope w.olympus h ≡ decide.Decided len
    → DecideMay setting w.ledger w.olympus h

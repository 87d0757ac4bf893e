-- What guards stand for by the ledger: they said it, unless they are liars.
use Rattle.std.specs.Prelude.{◌≡◌, ℕ, ◌<◌, ◌≤◌, true, false, ℤ, List}
use Rattle.nys_hosts.specs.Counts.{AtLeast}
use Rattle.nys_stmt.specs.declared.statement.Body.{Body}
use Rattle.nys_stmt.specs.declared.statement.Body.TheVariants as body
use Rattle.nys_rules.specs.Forged.{Entry, HasMade}
use Rattle.nys_rules.specs.Scope.{quorum_at, Scope}
use Rattle.nys_rules.specs.Sending.{said_in}
use Rattle.nys_rules.specs.World.{Setting}

-- a guard of h in the epoch stands for what is said: it said so in that epoch, unless it is a liar
abbrev pub IsVouched : {S : Type 0} → Setting S → List Entry → (e h : ℕ) → Body → (m : ℕ) → Type 0
IsVouched setting ledger e h said m =
    (setting.scope.guards e h m ≡ true)
    × (setting.liars m ≡ false → HasMade ledger m (said_in e said))

-- a quorum of the guards of h does
abbrev pub QuorumVouches : {S : Type 0} → Setting S → List Entry → (e h : ℕ) → Body → Type 0
QuorumVouches setting ledger e h said =
    AtLeast (quorum_at setting.scope e h) (IsVouched setting ledger e h said)

-- a party guards both ends of a link from a host of the protocol
pub record GuardsLink {S : Type 0} (scope : Scope S) (e p h m : ℕ) : Type 0 where
  pub sender : p < scope.rules.hosts
  pub of_sender : scope.guards e p m ≡ true
  pub of_host : scope.guards e h m ≡ true

-- a guard of both ends attests number k of p to h, unless it is a liar
abbrev pub IsVouchedByBoth : {S : Type 0} → Setting S → List Entry → (e p h k : ℕ) → List ℤ → (m : ℕ)
    → Type 0
IsVouchedByBoth setting ledger e p h k payload m =
    GuardsLink setting.scope e p h m
    × (setting.liars m ≡ false → HasMade ledger m (said_in e (body.Attest p h k payload)))

-- a guard of h in the epoch is frozen at the slot or an earlier one, unless it is a liar
abbrev pub IsFrozenAt : {S : Type 0} → Setting S → List Entry → (e h slot : ℕ) → (m : ℕ) → Type 0
IsFrozenAt setting ledger e h slot m =
    (setting.scope.guards e h m ≡ true)
    × (setting.liars m ≡ false
    → (at : ℕ) × (at ≤ slot) × HasMade ledger m (said_in e (body.Frozen h at)))

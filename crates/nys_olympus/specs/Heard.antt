-- What the Olympus hears: testimony of guards.
use Rattle.std.specs.Prelude.{◌≡◌, ◌<◌, ℕ, List, ◌∷◌, filter, None, Result, Ok, Err}
use Rattle.nys_hosts.specs.declared.limits.TheConstants.{MAX_HOSTS}
use Rattle.nys_rules.specs.Dropping.{accepted, accepts}
use Rattle.nys_rules.specs.Olympus.{olympus_verdict, OlympusView}
use Rattle.nys_rules.specs.Scope.{olympus, Scope}
use Rattle.nys_sending.specs.declared.accepting.FirstAccepted.{FirstAccepted}
use Rattle.nys_stmt.specs.declared.records.Record.{Record}
use Rattle.nys_stmt.specs.declared.statement.Body.{Body}
use Rattle.nys_stmt.specs.declared.statement.Body.TheVariants.{Filled, Attest, Ask, Wedge, Frozen, Open}
use Rattle.nys_stmt.specs.declared.statement.FilledKind.TheVariants.{Report}
use Rattle.nys_stmt.specs.declared.tags.Tags.{Tags}
use Rattle.nys_wire.specs.Reading.{whole_record}
use Rattle.nys_wire.specs.declared.fault.WireFault.{WireFault}

-- the maker is a host
pub record IsHost (tags : Tags) : Type 0 where
  pub host : tags.maker < MAX_HOSTS

-- a Report or a Frozen of a host
abbrev pub IsTestimony : Body → Type 0
IsTestimony (Filled kind h slot content) = (kind ≡ Report) × (h < MAX_HOSTS)
IsTestimony (Attest p h k payload) = ⊥
IsTestimony (Ask h slot) = ⊥
IsTestimony Wedge = ⊥
IsTestimony (Frozen h slot) = h < MAX_HOSTS
IsTestimony (Open lengths) = ⊥

-- the first accepted maker and those behind it are all accepted makers of the record
abbrev pub AreAccepted : {S : Type 0} → Scope S → Record → FirstAccepted → Type 0
AreAccepted scope r first =
    accepted scope r.statement.epoch olympus r
    ≡ first.maker ∷ filter (accepts scope r.statement.epoch olympus r.statement) first.behind

-- no test of the table of drops fails for what was read
abbrev pub NamesNoDropOf : {S : Type 0} → Scope S → OlympusView → Result Record WireFault → Type 0
NamesNoDropOf scope o (Ok r) = olympus_verdict scope o r ≡ None
NamesNoDropOf scope o (Err fault) = ⊥

-- the bytes are a record, and the Olympus has no cause to drop it
abbrev pub NamesNoDrop : {S : Type 0} → Scope S → OlympusView → List ℕ → Type 0
NamesNoDrop scope o frame = NamesNoDropOf scope o (whole_record frame)

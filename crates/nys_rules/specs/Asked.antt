-- What the calls of a world ask of an event.
use Rattle.std.specs.Prelude.{◌≡◌, ℕ, ◌<◌, ◌≤◌, ◌⊎◌, Bool, true, List, All, length}
use Rattle.nys_hosts.specs.declared.limits.TheConstants.{MAX_FRAME, MAX_HOSTS}
use Rattle.nys_stmt.specs.Ranges.{IsInRange}
use Rattle.nys_rules.specs.Events.{Plain}
use Rattle.nys_rules.specs.Events.Plain.{Input, Ask, Bytes, Say, Bundle, Steal, Decide, Retire}
use Rattle.nys_rules.specs.Parties.{AreParties}

-- one of this many hosts, or the Olympus
abbrev pub IsParty : ℕ → ℕ → Type 0
IsParty hosts g = (g < hosts) ⊎ (g ≡ MAX_HOSTS)

-- one or more parties of these, rising
pub record AreTo (hosts : ℕ) (to : List ℕ) : Type 0 where
  pub list : AreParties to
  pub each : All (IsParty hosts) to

-- the hosts and parties that an event names
abbrev pub NamesHosts : ℕ → Plain → Type 0
NamesHosts hosts (Input h payload) = h < hosts
NamesHosts hosts (Ask h) = h < hosts
NamesHosts hosts (Bytes to frame) = IsParty hosts to
NamesHosts hosts (Say a to statement) = (a < hosts) × AreTo hosts to
NamesHosts hosts (Bundle a to packets) = (a < hosts) × AreTo hosts to
NamesHosts hosts (Steal a to statement) = IsParty hosts a × AreTo hosts to
NamesHosts hosts (Decide h) = h < hosts
NamesHosts hosts (Retire h) = h < hosts
NamesHosts hosts _ = Unit {0}

-- who says or bundles is a liar
abbrev pub LiarsSay : (ℕ → Bool) → Plain → Type 0
LiarsSay liars (Say a to statement) = liars a ≡ true
LiarsSay liars (Bundle a to packets) = liars a ≡ true
LiarsSay liars _ = Unit {0}

-- a frame has 1 to 65,536 bytes, a bundle one packet or more, and a statement is within its ranges
abbrev pub IsFit : Plain → Type 0
IsFit (Bytes to frame) = (1 ≤ length frame) × (length frame ≤ MAX_FRAME)
IsFit (Say a to statement) = IsInRange statement
IsFit (Bundle a to packets) = 1 ≤ length packets
IsFit (Steal a to statement) = IsInRange statement
IsFit _ = Unit {0}

-- an event that a world of this many hosts and of these liars takes
pub record IsEvent (hosts : ℕ) (liars : ℕ → Bool) (event : Plain) : Type 0 where
  pub hosts_are : NamesHosts hosts event
  pub liars_say : LiarsSay liars event
  pub fit : IsFit event

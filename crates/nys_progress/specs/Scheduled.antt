-- Events as schedules have them, and those among them that spoil no slot and end no epoch.
use Rattle.std.specs.Prelude.{ℕ, All, List, Ok}
use Rattle.nys_stmt.specs.Ranges.{IsBodySound, IsPayload}
use Rattle.nys_rules.specs.Asked.{IsEvent}
use Rattle.nys_rules.specs.Events.{Plain}
use Rattle.nys_rules.specs.Events.Plain.{Bytes, Input, Say, Steal, Wedge}
use Rattle.nys_rules.specs.Exchanges.{IsUnspoiled}
use Rattle.nys_rules.specs.Happening.{HappenAll}
use Rattle.nys_rules.specs.World.{fresh_world, Setting, World}

-- what the types of an event's parts keep: payloads and lengths
abbrev pub IsEventSound : Plain → Type 0
IsEventSound (Input h payload) = IsPayload payload
IsEventSound (Say a to statement) = IsBodySound statement.body
IsEventSound (Steal a to statement) = IsBodySound statement.body
IsEventSound _ = Unit {0}

-- the event is one that a world takes: it names hosts and parties, only liars say and bundle, and what is said is in
-- its ranges and has payloads
pub record IsScheduled {S : Type 0} (setting : Setting S) (event : Plain) : Type 0 where
  pub is : IsEvent setting.scope.rules.hosts setting.liars event
  pub sound : IsEventSound event

-- a fact holds of the world after every list of such events that goes on to its end
abbrev pub InEachScheduled : {S : Type 0} → Setting S → (World → Type 0) → Type 0
InEachScheduled setting Fact = (events : List Plain) (w : World) → All (IsScheduled setting) events
    → HappenAll setting (fresh_world setting) events (Ok w) → Fact w

-- the event gives no bytes and steals no party's tags
abbrev pub IsClean : Plain → Type 0
IsClean (Bytes to frame) = ⊥
IsClean (Steal a to statement) = ⊥
IsClean _ = Unit {0}

-- where all events are such no slot is spoiled
abbrev pub SpoilsNothing : {S : Type 0} → Setting S → Type 0
SpoilsNothing setting = (events : List Plain) (w : World) → All (IsScheduled setting) events → All IsClean events
    → HappenAll setting (fresh_world setting) events (Ok w) → (e h s : ℕ) → IsUnspoiled w e h s

-- the event is one of those, and doesn't end the epoch
abbrev pub IsCalm : Plain → Type 0
IsCalm Wedge = ⊥
IsCalm (Bytes to frame) = ⊥
IsCalm (Steal a to statement) = ⊥
IsCalm _ = Unit {0}

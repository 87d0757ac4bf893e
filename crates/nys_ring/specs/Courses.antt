-- What a ring keeps between two calls of its links, and what one event makes of it.
use Rattle.std.specs.Prelude.{ℕ, ◌≡◌, ◌≢◌, ◌<◌, ◌≤◌, ⊤, List, [], ◌∷◌, ◌++◌, All, length, map, Result, Ok, Err}
use Rattle.nys_bare.specs.declared.read.TheConstants.{MAX_EVENTS}
use Rattle.nys_outside.specs.Frames.{IsFrame}
use Rattle.nys_rules.specs.declared.event.Event.{Event}
use Rattle.nys_rules.specs.declared.notice.End.{End}
use Rattle.nys_rules.specs.declared.notice.End.TheVariants as ends
use Rattle.nys_rules.specs.Events.{Plain, plain}
use Rattle.nys_rules.specs.Events.Plain.{Input, Ask, Bytes}
use Rattle.nys_rules.specs.Happening.{HappenAll, Happens}
use Rattle.nys_rules.specs.World.{Setting, World}
use Rattle.nys_schedule_text.specs.EventLines.{event_lines}
use Rattle.nys_source.specs.Rules.{Rules}
use Rattle.nys_world.specs.Shows.{setting_of}
use Rattle.nys_world.specs.Worlds.{IsWorldOf}
use Rattle.nys_ring.specs.declared.course.TheConstants.{MAX_SCHEDULE}
use Rattle.nys_ring.specs.declared.course.Course.{Course}
use Rattle.nys_ring.specs.declared.fault.RingFault.{RingFault}
use Rattle.nys_ring.specs.declared.fault.RingFault.TheVariants as faults

-- an event that a ring of so many hosts has: an input, an ask, or the bytes of a frame
abbrev pub IsRingPlain : ℕ → Plain → Type 0
IsRingPlain hosts (Input h payload) = h < hosts
IsRingPlain hosts (Ask h) = h < hosts
IsRingPlain hosts (Bytes to frame) = (to < hosts) × IsFrame frame
IsRingPlain hosts _ = ⊥

-- the events of a list, as plain data
abbrev pub plains : List Event → List Plain
plains events = map plain events

-- the events made this world from the first, and are within the limits
pub record IsCourse {P S : Type 0} (rules : Rules S) (first w : World) (course : Course P S) : Type 0 where
  pub shown : IsWorldOf rules course.world w
  pub happen : HappenAll (setting_of rules course.world.stage) first (plains course.events.items) (Ok w)
  pub count : w.events ≡ length course.events.items
  pub lines : course.length ≡ length (event_lines (plains course.events.items))
  pub few : length course.events.items ≤ MAX_EVENTS
  pub short : course.length ≤ MAX_SCHEDULE
  pub ring : All (λ event. IsRingPlain rules.hosts (plain event)) course.events.items

-- some events made some world so
abbrev pub HasCourse : {P S : Type 0} → Rules S → Course P S → Type 0
HasCourse rules course = (first : World) × (w : World) × IsCourse rules first w course

-- the events before the last are within the limits, and the last is refused for this cause
abbrev pub IsRefused : {S : Type 0} → Setting S → (first : World) → (all : List Plain) → (lost : ℕ) → RingFault → Type 0
IsRefused setting first all lost faults.Connect = ⊥
IsRefused setting first all lost (faults.End events count end) =
    (plains events.items ≡ all) × (count ≡ lost) × (length all ≤ MAX_EVENTS)
    × (length (event_lines all) ≤ MAX_SCHEDULE) × HappenAll setting first all (Err end)
IsRefused setting first all lost (faults.TooMany events count) =
    (plains events.items ≡ all) × (count ≡ lost) × (MAX_EVENTS < length all)
IsRefused setting first all lost (faults.TooLong events count) =
    (plains events.items ≡ all) × (count ≡ lost) × (length all ≤ MAX_EVENTS) × (MAX_SCHEDULE < length (event_lines all))
IsRefused setting first all lost faults.NoMemory = ⊤

-- the fault tells of the end of a world: want of memory is the ring's own
abbrev pub Tells : List Plain → (lost : ℕ) → End → RingFault → Type 0
Tells all lost end faults.Connect = ⊥
Tells all lost end (faults.End events count why) =
    (plains events.items ≡ all) × (count ≡ lost) × (why ≡ end) × (end ≢ ends.NoMemory)
Tells all lost end (faults.TooMany events count) = ⊥
Tells all lost end (faults.TooLong events count) = ⊥
Tells all lost end faults.NoMemory = end ≡ ends.NoMemory

-- the event happened behind the others, or it is refused
abbrev pub Happened : {P S : Type 0} → Rules S → (first w : World) → Course P S → Plain → Result (Course P S) RingFault → Type 0
Happened rules first w before event (Ok next) =
    (after : World) × Happens (setting_of rules before.world.stage) w event (Ok after) × IsCourse rules first after next
    × (plains next.events.items ≡ plains before.events.items ++ event ∷ [])
Happened rules first w before event (Err fault) =
    IsRefused (setting_of rules before.world.stage) first (plains before.events.items ++ event ∷ []) before.lost fault

-- what an event leaves alone
pub record KeepsRest {P S : Type 0} (before next : Course P S) : Type 0 where
  pub stage : next.world.stage ≡ before.world.stage
  pub sent : next.sent ≡ before.sent
  pub lost : next.lost ≡ before.lost
  pub shut : next.shut ≡ before.shut

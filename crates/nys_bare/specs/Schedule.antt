-- Bare schedules: what each line says, and what a whole text is read as.
use Rattle.std.specs.Prelude.{ℕ, ℤ, List, [], ◌∷◌, Option, None, Some, Result, Ok, Err, codes, nat_lt, if◌then◌else◌}
use Rattle.std.specs.Str.{bytes_eq}
use Rattle.nys_text.specs.Numbers.{num_of, only_num, payload_of}
use Rattle.nys_text.specs.Reading.{reading, told}
use Rattle.nys_text.specs.declared.reader.TextFault.{TextFault}
use Rattle.nys_text.specs.declared.reader.TextFault.TheVariants as text
use Rattle.nys_bare.specs.declared.event.BareEvent.{BareEvent}
use Rattle.nys_bare.specs.declared.event.BareEvent.TheVariants.{Input, Deliver, Stop}
use Rattle.nys_bare.specs.declared.fault.LineKind.{LineKind}
use Rattle.nys_bare.specs.declared.fault.LineKind.TheVariants.{Grammar, Host}
use Rattle.nys_bare.specs.declared.fault.ScheduleFault.{ScheduleFault}
use Rattle.nys_bare.specs.declared.fault.ScheduleFault.TheVariants as schedule
use Rattle.nys_bare.specs.declared.read.TheConstants.{MAX_EVENTS}

-- `input H PAYLOAD`, where there is a NUM and a PAYLOAD
abbrev pub input_of : ℕ → Option ℕ → Option (List ℤ) → Result BareEvent LineKind
input_of hosts (Some h) (Some payload) = if nat_lt h hosts then Ok (Input h payload) else Err Host
input_of hosts (Some h) None = Err Grammar
input_of hosts None payload = Err Grammar

-- `deliver K`, where there is a NUM alone
abbrev pub deliver_of : Option ℕ → Result BareEvent LineKind
deliver_of (Some k) = Ok (Deliver k)
deliver_of None = Err Grammar

-- `stop H`, where there is a NUM alone
abbrev pub stop_of : ℕ → Option ℕ → Result BareEvent LineKind
stop_of hosts (Some h) = if nat_lt h hosts then Ok (Stop h) else Err Host
stop_of hosts None = Err Grammar

-- what the words behind `input` say
abbrev pub input_said : ℕ → List (List ℕ) → Result BareEvent LineKind
input_said hosts [] = Err Grammar
input_said hosts (host ∷ numbers) = input_of hosts (num_of host) (payload_of numbers)

-- what the words of a line say, where there are this many hosts
abbrev pub event_of : ℕ → List (List ℕ) → Result BareEvent LineKind
event_of hosts [] = Err Grammar
event_of hosts (keyword ∷ words) =
    if bytes_eq keyword (codes "input") then input_said hosts words
    else if bytes_eq keyword (codes "deliver") then deliver_of (only_num words)
    else if bytes_eq keyword (codes "stop") then stop_of hosts (only_num words)
    else Err Grammar

-- the fault of a text, as that of a schedule
abbrev pub schedule_fault : TextFault LineKind → ScheduleFault
schedule_fault (text.Line line kind) = schedule.Line line kind
schedule_fault text.TooMany = schedule.TooMany
schedule_fault text.NoMemory = schedule.NoMemory

-- the events, or the fault of a schedule
abbrev pub as_schedule : {A : Type 0} → Result (List A) (TextFault LineKind) → Result (List A) ScheduleFault
as_schedule (Ok events) = Ok events
as_schedule (Err fault) = Err (schedule_fault fault)

-- what a text is as a bare schedule for this many hosts
unfoldable pub bare_schedule : ℕ → List ℕ → Result (List BareEvent) ScheduleFault
bare_schedule hosts bytes = as_schedule (reading (event_of hosts) MAX_EVENTS (told bytes))

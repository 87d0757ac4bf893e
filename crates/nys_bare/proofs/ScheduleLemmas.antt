-- From the reading of lines to the schedule.
use Rattle.std.proofs.Common.{◌≡◌, ◌⊎◌, inl, inr, ℕ, List, Ok, Err, ap}
use Rattle.nys_text.specs.Reading.{reading, told}
use Rattle.nys_text.specs.declared.reader.TextFault.{TextFault}
use Rattle.nys_text.specs.declared.reader.TextFault.TheVariants as text
use Rattle.nys_bare.specs.Schedule.{as_schedule, bare_schedule, event_of, schedule_fault}
use Rattle.nys_bare.specs.declared.event.BareEvent.{BareEvent}
use Rattle.nys_bare.specs.declared.fault.LineKind.{LineKind}
use Rattle.nys_bare.specs.declared.fault.ScheduleFault.TheVariants as schedule
use Rattle.nys_bare.specs.declared.read.TheConstants.{MAX_EVENTS}

-- events that were read are the schedule
pub schedule_read : (hosts : ℕ) (bytes : List ℕ) (events : List BareEvent) → reading (event_of hosts) MAX_EVENTS (told bytes) ≡ Ok events → bare_schedule hosts bytes ≡ Ok events
unfolding bare_schedule
schedule_read hosts bytes events e = ap as_schedule e

-- a fault that was read is the schedule's
pub schedule_refused : (hosts : ℕ) (bytes : List ℕ) (fault : TextFault LineKind) → (fault ≡ text.NoMemory) ⊎ (reading (event_of hosts) MAX_EVENTS (told bytes) ≡ Err fault) → (schedule_fault fault ≡ schedule.NoMemory) ⊎ (bare_schedule hosts bytes ≡ Err (schedule_fault fault))
unfolding bare_schedule
schedule_refused hosts bytes fault (inl memory) = inl (ap schedule_fault memory)
schedule_refused hosts bytes fault (inr e) = inr (ap as_schedule e)

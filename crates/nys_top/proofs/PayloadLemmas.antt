-- The events of a schedule hand payloads.
use Rattle.std.proofs.Common.{◌≡◌, ℕ, Bool, List, Ok}
use Rattle.std.specs.Prelude.{All}
use Rattle.nys_outcomes.specs.Runs.{HandsPayload}
use Rattle.nys_rules.specs.Events.{Plain}
use Rattle.nys_rules.specs.Events.Plain.{Input, Deliver, Flush, Exchange, Ask, Bytes, Say, Bundle, Steal, Wedge, Decide, Retire, Open}
use Rattle.nys_schedule.specs.Schedules.{schedule}
use Rattle.nys_schedule.specs.declared.form.Form.{Form}
use Rattle.nys_schedule.proofs.SoundLemmas.{IsSoundEvent, schedule_events}

-- what a sound event hands is a payload
hands : (event : Plain) → IsSoundEvent event → HandsPayload event
hands (Input h payload) sound = sound
hands (Deliver k) sound = tt
hands Flush sound = tt
hands Exchange sound = tt
hands (Ask h) sound = tt
hands (Bytes to frame) sound = tt
hands (Say a to statement) sound = tt
hands (Bundle a to packets) sound = tt
hands (Steal a to statement) sound = tt
hands Wedge sound = tt
hands (Decide h) sound = tt
hands (Retire h) sound = tt
hands Open sound = tt

-- all events of a schedule
pub schedule_hands : (form : Form) (hosts : ℕ) (liars : ℕ → Bool) (bytes : List ℕ) (events : List Plain) → schedule form hosts liars bytes ≡ Ok events
    → All HandsPayload events
schedule_hands form hosts liars bytes events e i d low =
    hands _ (schedule_events form hosts liars bytes events e i d low).sound

-- A schedule that is read has few events.
use Rattle.std.proofs.Common.{◌≡◌, ℕ, ◌≤◌, Bool, List, length, map, Ok, subst}
use Rattle.std.proofs.lemmas.List.{length-map}
use Rattle.nys_rules.specs.Events.{Plain, plain}
use Rattle.nys_rules.specs.declared.event.Event.{Event}
use Rattle.nys_schedule.specs.Schedules.{line_of, schedule}
use Rattle.nys_schedule.specs.declared.form.Form.{Form}
use Rattle.nys_source_commands.proofs.FewLemmas.{reading_few, schedule_few}
use Rattle.nys_text.specs.Reading.{reading, told}

-- it has at most 100,000
events_few : (form : Form) (hosts : ℕ) (liars : ℕ → Bool) (text : List ℕ) (events : List Plain)
    → schedule form hosts liars text ≡ Ok events → length events ≤ 100000
unfolding schedule
events_few form hosts liars text events same =
    schedule_few 100000 (reading (line_of form hosts liars) 100000 (told text)) events
    (reading_few (line_of form hosts liars) 100000 (told text)) same

-- so has the list of events from which it is seen
pub schedule_few_events : (form : Form) (hosts : ℕ) (liars : ℕ → Bool) (text : List ℕ) (events : List Event)
    → schedule form hosts liars text ≡ Ok (map plain events) → length events ≤ 100000
schedule_few_events form hosts liars text events same =
    subst (λ n. n ≤ 100000) (length-map events plain) (events_few form hosts liars text (map plain events) same)

-- What a whole text is as a schedule.
use Rattle.std.specs.Prelude.{ℕ, Bool, List, Result}
use Rattle.nys_text.specs.Reading.{reading, told}
use Rattle.nys_bare.specs.Schedule.{as_schedule}
use Rattle.nys_bare.specs.declared.fault.LineKind.{LineKind}
use Rattle.nys_bare.specs.declared.fault.ScheduleFault.{ScheduleFault}
use Rattle.nys_bare.specs.declared.read.TheConstants.{MAX_EVENTS}
use Rattle.nys_rules.specs.Events.{Plain}
use Rattle.nys_schedule.specs.declared.form.Form.{Form}
use Rattle.nys_schedule.specs.Judging.{judged}
use Rattle.nys_schedule.specs.Lines.{shaped}

-- what the words of a line say
abbrev pub line_of : Form → ℕ → (ℕ → Bool) → List (List ℕ) → Result Plain LineKind
line_of form hosts liars words = judged hosts liars (shaped form words)

-- the events of a text, or the fault of its first line at fault, for this many hosts and these liars
unfoldable pub schedule : Form → ℕ → (ℕ → Bool) → List ℕ → Result (List Plain) ScheduleFault
schedule form hosts liars bytes = as_schedule (reading (line_of form hosts liars) MAX_EVENTS (told bytes))

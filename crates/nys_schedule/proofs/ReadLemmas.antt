-- From the reading of lines to the schedule, and to what each of its events is.
use Rattle.std.proofs.Common.{◌≡◌, ◌⊎◌, inl, inr, ℕ, Bool, List, [], ◌∷◌, Result, Ok, Err, map, ap, subst, sym}
use Rattle.std.specs.Prelude.{All}
use Rattle.std.proofs.lemmas.List.Elements.{All-cons, All-head, All-tail}
use Rattle.nys_text.specs.FirstFault.{AllSaid, Say}
use Rattle.nys_text.specs.Lines.{words_of}
use Rattle.nys_text.specs.Reading.{reading, told}
use Rattle.nys_text.specs.declared.reader.TextFault.{TextFault}
use Rattle.nys_text.specs.declared.reader.TextFault.TheVariants as text
use Rattle.nys_bare.specs.Schedule.{as_schedule, schedule_fault}
use Rattle.nys_bare.specs.declared.fault.LineKind.{LineKind}
use Rattle.nys_bare.specs.declared.fault.ScheduleFault.TheVariants as fault
use Rattle.nys_bare.specs.declared.read.TheConstants.{MAX_EVENTS}
use Rattle.nys_rules.specs.Events.{Plain, plain}
use Rattle.nys_rules.specs.declared.event.Event.{Event}
use Rattle.nys_schedule.specs.declared.form.Form.{Form}
use Rattle.nys_rules.specs.Asked.{IsEvent}
use Rattle.nys_schedule.specs.Schedules.{line_of, schedule}
use Rattle.nys_schedule.proofs.EventLemmas.{line_is}
use Rattle.nys_schedule.proofs.ListLemmas.{all_none}

-- events that were read are the schedule
pub schedule_read : (form : Form) (hosts : ℕ) (liars : ℕ → Bool) (bytes : List ℕ) (events : List Plain)
    → reading (line_of form hosts liars) MAX_EVENTS (told bytes) ≡ Ok events → schedule form hosts liars bytes ≡ Ok events
unfolding schedule
schedule_read form hosts liars bytes events e = ap as_schedule e

-- a fault that was read is the schedule's
pub schedule_refused : (form : Form) (hosts : ℕ) (liars : ℕ → Bool) (bytes : List ℕ) (why : TextFault LineKind)
    → (why ≡ text.NoMemory) ⊎ (reading (line_of form hosts liars) MAX_EVENTS (told bytes) ≡ Err why)
    → (schedule_fault why ≡ fault.NoMemory) ⊎ (schedule form hosts liars bytes ≡ Err (schedule_fault why))
unfolding schedule
schedule_refused form hosts liars bytes why (inl memory) = inl (ap schedule_fault memory)
schedule_refused form hosts liars bytes why (inr e) = inr (ap as_schedule e)

-- what lines say is true of each item, where it is of what any words say
all_said : {A K : Type 0} (says : List (List ℕ) → Result A K) (P : A → Type 0)
    → ((words : List (List ℕ)) (x : A) → says words ≡ Ok x → P x)
    → (lines : List (ℕ × List ℕ)) (items : List A) → Say says lines items → All P items
all_said says P each [] [] said = all_none P
all_said says P each [] (x ∷ items) said = absurd (cc)
all_said says P each (line ∷ lines) [] said = absurd (cc)
all_said says P each (line ∷ lines) (x ∷ items) said =
    let first : says (words_of line.1) ≡ Ok x = cc in
    let rest : Say says lines items = cc in
    All-cons P x items (each (words_of line.1) x first) (all_said says P each lines items rest)

-- what is true of what is seen of each is true of each so seen
all_unmapped : {A B : Type 0} (P : B → Type 0) (f : A → B) (xs : List A) → All P (map f xs)
    → All (λ x. P (f x)) xs
all_unmapped P f [] all = all_none (λ x. P (f x))
all_unmapped P f (x ∷ xs) all =
    All-cons (λ y. P (f y)) x xs (All-head P (f x) (map f xs) all) (all_unmapped P f xs (All-tail P (f x) (map f xs) all))

-- a world takes each event that was read
pub events_are : (form : Form) (hosts : ℕ) (liars : ℕ → Bool) (lines : List (ℕ × List ℕ)) (said : List Plain) (events : List Event)
    → AllSaid (line_of form hosts liars) MAX_EVENTS lines said → map plain events ≡ said
    → All (λ event. IsEvent hosts liars (plain event)) events
events_are form hosts liars lines said events read same =
    all_unmapped (IsEvent hosts liars) plain events
    (subst (All (IsEvent hosts liars)) (sym same)
    (all_said (line_of form hosts liars) (IsEvent hosts liars) (line_is form hosts liars) lines said read.said))

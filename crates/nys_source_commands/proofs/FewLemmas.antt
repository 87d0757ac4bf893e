-- A text that is read has no more items than the most.
use Rattle.std.proofs.Common.{◌≡◌, ℕ, ◌-◌, ◌≤◌, ◌==◌, Bool, true, false, if◌then◌else◌, List, [], ◌∷◌, length, Result, Ok, Err, arith, refl, subst}
use Rattle.nys_text.specs.Lines.{words_of}
use Rattle.nys_text.specs.Reading.{before, reading, then_more, told}
use Rattle.nys_text.specs.declared.reader.TextFault.{TextFault}
use Rattle.nys_text.specs.declared.reader.TextFault.TheVariants.{TooMany}
use Rattle.nys_source.specs.declared.step.Step.{Step}
use Rattle.nys_bare.specs.declared.event.BareEvent.{BareEvent}
use Rattle.nys_bare.specs.declared.fault.LineKind.{LineKind}
use Rattle.nys_bare.specs.Schedule.{as_schedule, bare_schedule, event_of}
use Rattle.nys_runs.specs.declared.fault.NotALine.{NotALine}
use Rattle.nys_runs.specs.StepLines.{as_run, run_of, step_of}
use Rattle.std.proofs.lemmas.Bool.{eqb-false}

-- one item before others of which there are few enough
before_few : {A K : Type 0} (most : ℕ) (none : Bool) (item : A) (rest : Result (List A) (TextFault K)) (items : List A) → (none ≡ false → most ≡ 0 → ⊥) → ((is : List A) → rest ≡ Ok is → length is ≤ most - 1) → (if none then Err TooMany else before item rest) ≡ Ok items → length items ≤ most
before_few most true item rest items some few read = let no : ⊥ = cc in absurd no
before_few most false item (Err fault) items some few read = let no : ⊥ = cc in absurd no
before_few most false item (Ok is) items some few read =
    let same : item ∷ is ≡ items = cc in
    let left : most ≡ 0 → ⊥ = some refl in
    subst (λ xs. length xs ≤ most) same (omega (arith, few is refl, left))

-- one line before others of which there are few enough
more_few : {A K : Type 0} (most number : ℕ) (said : Result A K) (rest : Result (List A) (TextFault K)) (items : List A) → ((is : List A) → rest ≡ Ok is → length is ≤ most - 1) → then_more most number said rest ≡ Ok items → length items ≤ most
more_few most number (Err kind) rest items few read = let no : ⊥ = cc in absurd no
more_few most number (Ok item) rest items few read = before_few most (most == 0) item rest items (eqb-false most 0) few read

-- lines that are read are few enough
pub reading_few : {A K : Type 0} (says : List (List ℕ) → Result A K) (most : ℕ) (lines : List (ℕ × List ℕ)) (items : List A) → reading says most lines ≡ Ok items → length items ≤ most
reading_few says most [] items read = let same : [] ≡ items = cc in subst (λ xs. length xs ≤ most) same (omega arith)
reading_few says most (line ∷ more) items read =
    more_few most line.0 (says (words_of line.1)) (reading says (most - 1) more) items (reading_few says (most - 1) more) read

-- the same of a schedule
pub schedule_few : {A : Type 0} (most : ℕ) (read : Result (List A) (TextFault LineKind)) (events : List A) → ((is : List A) → read ≡ Ok is → length is ≤ most) → as_schedule read ≡ Ok events → length events ≤ most
schedule_few most (Ok is) events few same = let e : is ≡ events = cc in subst (λ xs. length xs ≤ most) e (few is refl)
schedule_few most (Err fault) events few same = let no : ⊥ = cc in absurd no

-- a schedule has at most 100,000 events
pub bare_few : (hosts : ℕ) (text : List ℕ) (events : List BareEvent) → bare_schedule hosts text ≡ Ok events → length events ≤ 100000
unfolding bare_schedule
bare_few hosts text events same =
    schedule_few 100000 (reading (event_of hosts) 100000 (told text)) events (reading_few (event_of hosts) 100000 (told text)) same

-- the same of a run text
steps_few : (most : ℕ) (read : Result (List Step) (TextFault NotALine)) (steps : List Step) → ((is : List Step) → read ≡ Ok is → length is ≤ most) → as_run read ≡ Ok steps → length steps ≤ most
steps_few most (Ok is) steps few same = let e : is ≡ steps = cc in subst (λ xs. length xs ≤ most) e (few is refl)
steps_few most (Err fault) steps few same = let no : ⊥ = cc in absurd no

-- a run text has at most 100,000 steps
pub run_few : (text : List ℕ) (steps : List Step) → run_of text ≡ Ok steps → length steps ≤ 100000
unfolding run_of
run_few text steps same = steps_few 100000 (reading step_of 100000 (told text)) steps (reading_few step_of 100000 (told text)) same

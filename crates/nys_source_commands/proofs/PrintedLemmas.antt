-- The printed text of a run: its numbers fit, and it is read back.
use Rattle.std.proofs.Common.{◌≡◌, ℕ, ◌+◌, ◌*◌, ◌^◌, ◌<◌, ◌≤◌, ℤ, pos, negsuc, List, [], ◌∷◌, ◌++◌, length, codes, Option, Some, None, Bool, true, false, not, inl, inr, refl, arith, lit<, All, FitsSigned, w64, length-append}
use Rattle.std.specs.Prelude.{slice_get, if◌then◌else◌, nat_lt}
use Rattle.std.specs.Fmt.{decimal, signed_decimal}
use Rattle.std.proofs.lemmas.Bool.{cases_eq, lt-ltb, ltb-true, ne_eqb}
use Rattle.std.proofs.lemmas.Fmt.{length-decimal-le, length_signed_le}
use Rattle.std.proofs.lemmas.Int.{ints}
use Rattle.std.proofs.lemmas.List.Elements.{All-cons, All-head, All-nil, All-tail}
use Rattle.nys_text.specs.Printed.{spaced}
use Rattle.nys_source.specs.Rules.{Rules}
use Rattle.nys_source.specs.Source.{Source, fresh}
use Rattle.nys_source.specs.Steps.{after_step, number_refusal, refusal}
use Rattle.nys_source.specs.Runs.{IsRunFrom}
use Rattle.nys_source.specs.RunText.{step_line, steps_text}
use Rattle.nys_source.specs.declared.step.Step.{Step}
use Rattle.nys_source.specs.declared.step.Step.TheVariants.{Input, Receive, Stop}
use Rattle.nys_source.specs.declared.step.NotAStep.{NotAStep}
use Rattle.nys_source.specs.declared.step.NotAStep.TheVariants.{NoHost, NothingSent, NotNeighbour, Stopped}
use Rattle.nys_source.proofs.RoomLemmas.{step_received}
use Rattle.nys_runs.specs.StepLines.{FitsTypes}
use Rattle.nys_runs.proofs.RunLemmas.{run_of-steps_text}
use Rattle.nys_source_commands.specs.Judging.{HasPayload, IsPrintable, ReadsBack, VerifiesPrinted}
use Rattle.nys_source_commands.proofs.JudgeLemmas.{none_where_run}

-- ---- the numbers of a run's steps fit their types

-- a host that is not refused is there
host_there : (there runs : Bool) (x y : NotAStep)
    → (if not there then Some x else if not runs then Some y else None) ≡ None → there ≡ true
host_there true runs x y e = refl
host_there false runs x y e = let no : ⊥ = cc in absurd no

-- the hosts of a receive that is not refused are there, and its number is the next
record Received (there sender : Bool) (k next : ℕ) : Type 0 where
  host : there ≡ true
  from : sender ≡ true
  number : k ≡ next

-- so it is where each test was passed
receive_there : {S : Type 0} (before : Source S) (h p k : ℕ) (there sender runs linked : Bool) (w x y z : NotAStep) (found : Option (List ℤ))
    → (if not there then Some w else if not sender then Some x else if not runs then Some y
    else if not linked then Some z else number_refusal before h p k found) ≡ None
    → Received there sender k (before.received p h)
receive_there before h p k false sender runs linked w x y z found e = let no : ⊥ = cc in absurd no
receive_there before h p k true false runs linked w x y z found e = let no : ⊥ = cc in absurd no
receive_there before h p k true true false linked w x y z found e = let no : ⊥ = cc in absurd no
receive_there before h p k true true true false w x y z found e = let no : ⊥ = cc in absurd no
receive_there before h p k true true true true w x y z None e = let no : ⊥ = cc in absurd no
receive_there before h p k true true true true w x y z (Some payload) e = elim (cases_eq k (before.received p h)) [
  | inl same ↦ record { host = refl; from = refl; number = same }
  | inr other ↦
      let refused : number_refusal before h p k (Some payload) ≡ Some (NothingSent p h k) = rw (ne_eqb k (before.received p h) other) refl in
      let no : ⊥ = cc in
      absurd no
]

-- a host that is there fits
host_fits : (h hosts : ℕ) → hosts ≤ 32 → nat_lt h hosts ≡ true → h < 2 ^ 32
host_fits h hosts few there = let inside = ltb-true h hosts there in omega (arith, inside, few)

-- the numbers of a step that is not refused fit
step_fits : {S : Type 0} (rules : Rules S) (before : Source S) (most : ℕ) (step : Step) → rules.hosts ≤ 32
    → ((p h : ℕ) → before.received p h ≤ most) → most < 2 ^ 32 → refusal rules before step ≡ None
    → HasPayload step → FitsTypes step
step_fits rules before most (Input h payload) few received low lawful has =
    (host_fits h rules.hosts few (host_there (nat_lt h rules.hosts) (before.running h) (NoHost h) (Stopped h) lawful), has.0, has.1, has.2)
step_fits rules before most (Receive h p k) few received low lawful has =
    let taken = receive_there before h p k (nat_lt h rules.hosts) (nat_lt p rules.hosts) (before.running h)
    (rules.linked p h) (NoHost h) (NoHost p) (Stopped h) (NotNeighbour p h) (slice_get (before.sent p h) k) lawful in
    let number = taken.number in
    let within = received p h in
    (host_fits h rules.hosts few taken.host, host_fits p rules.hosts few taken.from, omega (arith, number, within, low))
step_fits rules before most (Stop h) few received low lawful has =
    host_fits h rules.hosts few (host_there (nat_lt h rules.hosts) (before.running h) (NoHost h) (Stopped h) lawful)

-- the numbers of all steps of a run do
steps_fit : {S : Type 0} (rules : Rules S) (before : Source S) (most : ℕ) (steps : List Step)
    → rules.hosts ≤ 32 → ((p h : ℕ) → before.received p h ≤ most) → most + length steps ≤ 100000
    → IsRunFrom rules before steps → All HasPayload steps → All FitsTypes steps
steps_fit rules before most [] few received low run has = All-nil FitsTypes
steps_fit rules before most (step ∷ steps) few received low run has =
    All-cons FitsTypes step steps
    (step_fits rules before most step few received (omega (arith, low)) run.0 (All-head HasPayload step steps has))
    (steps_fit rules (after_step rules before step) (most + 1) steps few
    (λ p h. omega (arith, step_received rules before step p h, received p h))
    (omega (arith, low)) run.1 (All-tail HasPayload step steps has))

-- so do those of a run that can be printed
printable_fits : {S : Type 0} (rules : Rules S) (run : List Step) → IsPrintable rules run → All FitsTypes run
printable_fits rules run printable =
    let few = printable.few in
    steps_fit rules (fresh rules) 0 run printable.hosts (λ p h. omega arith) (omega (arith, few)) printable.is_run printable.payloads

-- ---- the printed text of a run

-- it is read as that run
pub reads_back : {S : Type 0} (rules : Rules S) → ReadsBack rules
reads_back rules run printable = run_of-steps_text run (printable_fits rules run printable) printable.few

-- it is verified as a run
pub verifies_printed : {S : Type 0} (rules : Rules S) → VerifiesPrinted rules
verifies_printed rules run printable =
    rw (reads_back rules run printable, none_where_run rules 0 (fresh rules) run printable.is_run) refl

-- The bare run: the source system takes the events of a bare schedule in order.
use Rattle.std.specs.Prelude.{◌≡◌, ℕ, ◌+◌, ◌≤◌, nat_lt, is_none, if◌then◌else◌, List, [], ◌∷◌, ◌++◌, length, slice_get, Option, Some, None, Result, Ok, Err}
use Rattle.nys_source.specs.Rules.{Rules}
use Rattle.nys_source.specs.Steps.{refusal}
use Rattle.nys_source.specs.Runs.{after_run}
use Rattle.nys_source.specs.Held.{Held, shown}
use Rattle.nys_source.specs.declared.step.Step.{Step}
use Rattle.nys_source.specs.declared.step.Step.TheVariants as step
use Rattle.nys_bare.specs.declared.event.BareEvent.{BareEvent}
use Rattle.nys_bare.specs.declared.event.BareEvent.TheVariants as bare
use Rattle.nys_source_commands.specs.Numbers.{AreNumbers, number_on_link}
use Rattle.nys_source_commands.specs.declared.bare_run.TheConstants.{MAX_MESSAGES}
use Rattle.nys_source_commands.specs.declared.bare_run.BareEnd.{BareEnd}
use Rattle.nys_source_commands.specs.declared.bare_run.BareEnd.TheVariants as end

-- the run with a step behind it, where that is a step there; else the run
abbrev pub run_with : {S : Type 0} → Rules S → List Step → Step → List Step
run_with rules run step = if is_none (refusal rules (after_run rules run) step) then run ++ step ∷ [] else run

-- the run, where it has no more messages than the limit
unfoldable pub within_limit : {S : Type 0} → Rules S → List Step → Result (List Step) BareEnd
within_limit rules run =
    if nat_lt MAX_MESSAGES (length (after_run rules run).messages) then Err end.TooMany else Ok run

-- the receive of message k, where it was sent
abbrev pub receive_of : List (ℕ × ℕ) → ℕ → Option (ℕ × ℕ) → Option Step
receive_of messages k None = None
receive_of messages k (Some link) = Some (step.Receive link.1 link.0 (number_on_link messages k link))

-- the run after message k is delivered, by its receive; an end where it wasn't sent
abbrev pub run_delivered : {S : Type 0} → Rules S → ℕ → List Step → ℕ → Option Step → Result (List Step) BareEnd
run_delivered rules event run k None = Err (end.NoMessage event k (length (after_run rules run).messages))
run_delivered rules event run k (Some receive) = within_limit rules (run_with rules run receive)

-- the run after the event of this number
abbrev pub run_after : {S : Type 0} → Rules S → ℕ → List Step → BareEvent → Result (List Step) BareEnd
run_after rules event run (bare.Input h payload) = within_limit rules (run_with rules run (step.Input h payload))
run_after rules event run (bare.Deliver k) = run_delivered rules event run k (receive_of (after_run rules run).messages k (slice_get (after_run rules run).messages k))
run_after rules event run (bare.Stop h) = within_limit rules (run_with rules run (step.Stop h))

-- the run after the events from a number on, where none before has ended it
abbrev pub run_from : {S : Type 0} → Rules S → ℕ → Result (List Step) BareEnd → List BareEvent → Result (List Step) BareEnd
run_from rules event (Err why) events = Err why
run_from rules event (Ok run) [] = Ok run
run_from rules event (Ok run) (next ∷ events) = run_from rules (event + 1) (run_after rules event run next) events

-- the bare run of a list of events
abbrev pub bare_run : {S : Type 0} → Rules S → List BareEvent → Result (List Step) BareEnd
bare_run rules events = run_from rules 0 (Ok []) events

-- the lists of a system stand for what a run leaves, which has no more messages than the limit, and the
-- numbers are those of all its messages
pub record Follows {S : Type 0} (rules : Rules S) (held : Held S) (run : List Step) (numbers : List ℕ) : Type 0 where
  pub system : shown rules held ≡ after_run rules run
  pub few : length held.messages ≤ MAX_MESSAGES
  pub numbered : AreNumbers numbers held.messages (length held.messages)

-- the number of a message leaves room for one more
abbrev pub IsNumbered : Step → Type 0
IsNumbered (step.Input h payload) = Unit {0}
IsNumbered (step.Receive h p k) = k ≤ MAX_MESSAGES
IsNumbered (step.Stop h) = Unit {0}

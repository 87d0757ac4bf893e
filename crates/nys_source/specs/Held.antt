-- The source system as it is stored, in lists by host and by link, and what a step answers of it.
use Rattle.std.specs.Prelude.{◌≡◌, ℕ, ◌<◌, ◌⊎◌, Bool, true, ℤ, List, Option, Some, None, Result, Ok, Err}
use Rattle.nys_source.specs.Tables.{at_each, lists_at, lists_at_both, numbers_at_both}
use Rattle.nys_source.specs.Rules.{Rules}
use Rattle.nys_source.specs.Source.{Source}
use Rattle.nys_source.specs.Steps.{after_step, refusal}
use Rattle.nys_source.specs.declared.step.Step.{Step}
use Rattle.nys_source.specs.declared.step.Step.TheVariants.{Input, Receive, Stop}
use Rattle.nys_source.specs.declared.step.NotAStep.{NotAStep}
use Rattle.nys_source.specs.declared.step.NotAStep.TheVariants.{NoMemory}

-- the lists of a system
pub record Held (S : Type 0) : Type 0 where
  pub states : List S
  pub running : List Bool
  pub outs : List (List (List ℤ))
  pub sent : List (List (List (List ℤ)))
  pub received : List (List ℕ)
  pub messages : List (ℕ × ℕ)

-- the system that the lists stand for
abbrev pub shown : {S : Type 0} → Rules S → Held S → Source S
shown rules held = record {
  state = at_each rules.start held.states;
  running = at_each (λ _. true) held.running;
  outs = lists_at held.outs;
  sent = lists_at_both held.sent;
  received = numbers_at_both held.received;
  messages = held.messages;
}

-- both ends of a message are hosts
pub record AreHosts (hosts : ℕ) (message : ℕ × ℕ) : Type 0 where
  pub sender : message.0 < hosts
  pub receiver : message.1 < hosts

-- the number received on the step's link may grow by one
abbrev pub HasRoom : {S : Type 0} → Source S → Step → Type 0
HasRoom before (Input h payload) = Unit {0}
HasRoom before (Receive h p k) = before.received p h < 4294967295
HasRoom before (Stop h) = Unit {0}

-- the answer is the system after the step, or why there is no such step, or want of memory
abbrev pub IsAnswer : {P S : Type 0} → Rules S → P × Held S → Step → Result (P × Held S) NotAStep → Type 0
IsAnswer rules before step (Ok after) =
    (refusal rules (shown rules before.1) step ≡ None) × (after.0 ≡ before.0)
    × (shown rules after.1 ≡ after_step rules (shown rules before.1) step)
IsAnswer rules before step (Err why) =
    (why ≡ NoMemory) ⊎ (refusal rules (shown rules before.1) step ≡ Some why)

-- What is received in a step is among what its host takes.
use Rattle.std.proofs.Common.{◌≡◌, ℕ, ◌+◌, ◌<◌, ◌≤◌, ◌==◌, Bool, true, false, nat_lt, if◌then◌else◌, ◌∷◌, [], ℤ, List, length, Option, Some, None, fold, refl, ap, inl, inr, eq-eqb, arith, sym}
use Rattle.std.proofs.lemmas.Bool.{cases_eq, ltb-true, ne_eqb}
use Rattle.std.specs.Prelude.{slice_get}
use Rattle.nys_source.specs.Contents.{message_of, taken_in}
use Rattle.nys_source.specs.Rules.{Rules}
use Rattle.nys_source.specs.Source.{Source}
use Rattle.nys_source.specs.Steps.{after_effect, after_message, after_step, after_payload, counted, refusal, with_state}
use Rattle.nys_source.specs.declared.effect.Effect.{Effect}
use Rattle.nys_source.specs.declared.effect.Effect.TheVariants.{Send, Out}
use Rattle.nys_source.specs.declared.step.NotAStep.TheVariants.{NoHost}
use Rattle.nys_source.specs.declared.step.Step.{Step}
use Rattle.nys_source.specs.declared.step.Step.TheVariants.{Input, Receive, Stop}

-- effects receive nothing
effects_received : {S : Type 0} (h : ℕ) (effects : List Effect) (before : Source S) → (fold (after_effect h) before effects).received ≡ before.received
effects_received h [] before = refl
effects_received h (Send to payload ∷ effects) before = effects_received h effects (after_effect h before (Send to payload))
effects_received h (Out payload ∷ effects) before = effects_received h effects (after_effect h before (Out payload))

-- a payload that is taken is not received again
taking_received : {S : Type 0} (rules : Rules S) (before : Source S) (h : ℕ) (from : Option ℕ) (payload : List ℤ) → (after_payload rules before h from payload).received ≡ before.received
unfolding after_payload
taking_received rules before h from payload =
    let made = rules.next h (before.state h) from payload in
    effects_received h made.1 (with_state before h made.0)

-- a message that is taken is one of what its host takes
message_taken : {S : Type 0} (rules : Rules S) (before : Source S) (g q k : ℕ) (payload : Option (List ℤ)) (p h : ℕ)
    → (after_message rules before g q payload).received p h
    ≤ before.received p h + length (if g == h then message_of q k payload else [])
message_taken rules before g q k None p h = omega arith
message_taken rules before g q k (Some payload) p h =
    let same = ap (λ r. r p h) (taking_received rules (counted before q g) g (Some q) payload) in
    rw same (elim (cases_eq p q) [
      | inl here ↦ rw (eq-eqb p q here) (elim (cases_eq h g) [
        | inl there ↦ rw (eq-eqb h g there, eq-eqb g h (sym there), here, there) (omega arith)
        | inr other ↦ rw (ne_eqb h g other, here) (omega arith)
      ])
      | inr other ↦ rw (ne_eqb p q other) (omega arith)
    ])

-- what a step counts as received on a link is taken by the host of the link
pub received_taken : {S : Type 0} (rules : Rules S) (before : Source S) (step : Step) (p h : ℕ)
    → (after_step rules before step).received p h ≤ before.received p h + length (taken_in before h step)
received_taken rules before (Input g payload) p h =
    let same = ap (λ r. r p h) (taking_received rules before g None payload) in rw same (omega arith)
received_taken rules before (Receive g q k) p h = message_taken rules before g q k (slice_get (before.sent q g) k) p h
received_taken rules before (Stop g) p h = omega arith

-- who may receive is a host
pub receive_host : {S : Type 0} (rules : Rules S) (before : Source S) (h p k : ℕ) → refusal rules before (Receive h p k) ≡ None → h < rules.hosts
receive_host rules before h p k none = go (nat_lt h rules.hosts) refl
  where
    refused : Some (NoHost h) ≡ None → h < rules.hosts
    refused wrong = absurd (cc)

    go : (b : Bool) → nat_lt h rules.hosts ≡ b → h < rules.hosts
    go true e = ltb-true h rules.hosts e
    go false e = refused (rw e at none)

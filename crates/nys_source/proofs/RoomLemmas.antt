-- How fast the numbers received grow.
use Rattle.std.proofs.Common.{◌≡◌, ℕ, ◌+◌, ◌≤◌, ◌∷◌, [], ℤ, List, Option, Some, None, fold, refl, ap, inl, inr, eq-eqb, arith, ◌∙◌, sym}
use Rattle.std.specs.Prelude.{slice_get}
use Rattle.std.proofs.lemmas.Bool.{cases_eq, ne_eqb}
use Rattle.nys_source.specs.Tables.{put, put_at}
use Rattle.nys_source.specs.Rules.{Rules}
use Rattle.nys_source.specs.Source.{Source}
use Rattle.nys_source.specs.Steps.{after_effect, after_payload, after_message, after_step, counted, with_state}
use Rattle.nys_source.specs.declared.effect.Effect.{Effect}
use Rattle.nys_source.specs.declared.effect.Effect.TheVariants.{Send, Out}
use Rattle.nys_source.specs.declared.step.Step.{Step}
use Rattle.nys_source.specs.declared.step.Step.TheVariants.{Input, Receive, Stop}

-- effects receive nothing
effects_received : {S : Type 0} (h : ℕ) (effects : List Effect) (before : Source S) → (fold (after_effect h) before effects).received ≡ before.received
effects_received h [] before = refl
effects_received h (Send to payload ∷ effects) before = effects_received h effects (after_effect h before (Send to payload))
effects_received h (Out payload ∷ effects) before = effects_received h effects (after_effect h before (Out payload))

-- a payload that is taken is not received again
taking_received : {S : Type 0} (rules : Rules S) (before : Source S) (h : ℕ) (from : Option ℕ) (payload : List ℤ) → (after_payload rules before h from payload).received ≡ before.received
unfolding after_payload
taking_received rules before h from payload =
    let made = rules.next h (before.state h) from payload in
    effects_received h made.1 (with_state before h made.0)

-- one number grows by one, the others stay
counted_received : (received : ℕ → ℕ → ℕ) (p h q g : ℕ) → put_at received p h (received p h + 1) q g ≤ received q g + 1
counted_received received p h q g = elim (cases_eq q p) [
  | inl same ↦ rw (eq-eqb q p same) (elim (cases_eq g h) [
    | inl here ↦ rw (eq-eqb g h here, same, here) (omega arith)
    | inr other ↦ rw (ne_eqb g h other, same) (omega arith)
  ])
  | inr other ↦ rw (ne_eqb q p other) (omega arith)
]

-- a message that is taken is counted once
message_received : {S : Type 0} (rules : Rules S) (before : Source S) (h p : ℕ) (payload : Option (List ℤ)) (q g : ℕ) → (after_message rules before h p payload).received q g ≤ before.received q g + 1
message_received rules before h p None q g = omega arith
message_received rules before h p (Some payload) q g =
    let same = ap (λ r. r q g) (taking_received rules (counted before p h) h (Some p) payload) in
    rw same (counted_received before.received p h q g)

-- a step counts at most one payload more on each link
pub step_received : {S : Type 0} (rules : Rules S) (before : Source S) (step : Step) (q g : ℕ) → (after_step rules before step).received q g ≤ before.received q g + 1
step_received rules before (Input h payload) q g =
    let same = ap (λ r. r q g) (taking_received rules before h None payload) in rw same (omega arith)
step_received rules before (Receive h p k) q g = message_received rules before h p (slice_get (before.sent p h) k) q g
step_received rules before (Stop h) q g = omega arith

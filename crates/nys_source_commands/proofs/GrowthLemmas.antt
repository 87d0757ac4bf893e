-- A step only adds messages behind those that were sent before.
use Rattle.std.proofs.Common.{◌≡◌, ℕ, ◌++◌, ◌∷◌, [], ℤ, List, Option, Some, None, fold, sym, ◌∙◌, append_assoc, append-nil}
use Rattle.std.specs.Prelude.{slice_get}
use Rattle.nys_source.specs.Rules.{Rules}
use Rattle.nys_source.specs.Source.{Source}
use Rattle.nys_source.specs.Steps.{after_effect, after_payload, after_message, after_step, counted, with_state}
use Rattle.nys_source.specs.declared.effect.Effect.{Effect}
use Rattle.nys_source.specs.declared.effect.Effect.TheVariants.{Send, Out}
use Rattle.nys_source.specs.declared.step.Step.{Step}
use Rattle.nys_source.specs.declared.step.Step.TheVariants.{Input, Receive, Stop}

-- some messages stand behind the earlier ones
pub record Grew (before after : List (ℕ × ℕ)) : Type 0 where
  pub more : List (ℕ × ℕ)
  pub grown : after ≡ before ++ more

-- none at all
none_more : (messages : List (ℕ × ℕ)) → Grew messages messages
none_more messages = record { more = []; grown = sym (append-nil messages) }

-- effects add the messages of their sends
effects_grow : {S : Type 0} (h : ℕ) (effects : List Effect) (before : Source S) → Grew before.messages (fold (after_effect h) before effects).messages
effects_grow h [] before = none_more before.messages
effects_grow h (Send to payload ∷ effects) before =
    let rest = effects_grow h effects (after_effect h before (Send to payload)) in
    record { more = (h, to) ∷ rest.more; grown = rest.grown ∙ append_assoc before.messages ((h, to) ∷ []) rest.more }
effects_grow h (Out payload ∷ effects) before = effects_grow h effects (after_effect h before (Out payload))

-- a payload that is taken adds the messages of its effects
taking_grows : {S : Type 0} (rules : Rules S) (before : Source S) (h : ℕ) (from : Option ℕ) (payload : List ℤ) → Grew before.messages (after_payload rules before h from payload).messages
unfolding after_payload
taking_grows rules before h from payload =
    let made = rules.next h (before.state h) from payload in
    effects_grow h made.1 (with_state before h made.0)

-- so does a message, if it is there
message_grows : {S : Type 0} (rules : Rules S) (before : Source S) (h p : ℕ) (payload : Option (List ℤ)) → Grew before.messages (after_message rules before h p payload).messages
message_grows rules before h p None = none_more before.messages
message_grows rules before h p (Some payload) = taking_grows rules (counted before p h) h (Some p) payload

-- a step adds messages behind the earlier ones
pub step_grows : {S : Type 0} (rules : Rules S) (before : Source S) (step : Step) → Grew before.messages (after_step rules before step).messages
step_grows rules before (Input h payload) = taking_grows rules before h None payload
step_grows rules before (Receive h p k) = message_grows rules before h p (slice_get (before.sent p h) k)
step_grows rules before (Stop h) = none_more before.messages

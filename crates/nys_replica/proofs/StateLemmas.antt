-- The state that a log gives is one of the protocol.
use Rattle.std.proofs.Common.{◌≡◌, ℕ, Bool, true, List, [], ◌∷◌, ℤ, Option, Some, None, fold, refl, subst, sym, eq-eqb}
use Rattle.nys_bytes.specs.declared.content.Content.{Content}
use Rattle.nys_bytes.specs.declared.content.Content.TheVariants.{External, Message}
use Rattle.nys_source.specs.Rules.{Rules}
use Rattle.nys_source.specs.Source.{fresh, Source}
use Rattle.nys_source.specs.Steps.{after_effect, after_payload, counted, with_state}
use Rattle.nys_source.specs.declared.effect.Effect.{Effect}
use Rattle.nys_source.specs.declared.effect.Effect.TheVariants.{Out, Send}
use Rattle.nys_agreement.specs.Alone.{after_content, alone}
use Rattle.nys_replica.specs.Stands.{StandsFor}
use Rattle.nys_replica.specs.Taking.{HasState}
use Rattle.nys_replica.specs.declared.replica.Replica.{Replica}

-- effects change no state
effects_state : {S : Type 0} (h : ℕ) (effects : List Effect) (before : Source S) → (fold (after_effect h) before effects).state ≡ before.state
effects_state h [] before = refl
effects_state h (Send to payload ∷ effects) before = effects_state h effects (after_effect h before (Send to payload))
effects_state h (Out payload ∷ effects) before = effects_state h effects (after_effect h before (Out payload))

-- a step from a state leaves one
abbrev pub Steps : {S : Type 0} → Rules S → (S → Bool) → ℕ → Type 0
Steps {S} rules is_state h = (s : S) (from : Option ℕ) (payload : List ℤ) → is_state s ≡ true → is_state (rules.next h s from payload).0 ≡ true

-- so does a payload that the host takes
payload_state : {S : Type 0} (rules : Rules S) (is_state : S → Bool) (h : ℕ) → Steps rules is_state h
    → (before : Source S) (from : Option ℕ) (payload : List ℤ) → is_state (before.state h) ≡ true
    → is_state ((after_payload rules before h from payload).state h) ≡ true
unfolding after_payload
payload_state {S} rules is_state h steps before from payload is =
    let made = rules.next h (before.state h) from payload in
    subst (λ (f : ℕ → S). is_state (f h) ≡ true) (sym (effects_state h made.1 (with_state before h made.0)))
    (rw (eq-eqb h h refl) (steps (before.state h) from payload is))

-- and a content
content_state : {S : Type 0} (rules : Rules S) (is_state : S → Bool) (h : ℕ) → Steps rules is_state h
    → (before : Source S) (content : Content) → is_state (before.state h) ≡ true → is_state ((after_content rules h before content).state h) ≡ true
content_state rules is_state h steps before (External payload) is = payload_state rules is_state h steps before None payload is
content_state rules is_state h steps before (Message p k payload) is =
    payload_state rules is_state h steps (counted before p h) (Some p) payload is

-- and a log
log_state : {S : Type 0} (rules : Rules S) (is_state : S → Bool) (h : ℕ) → Steps rules is_state h
    → (before : Source S) (log : List Content) → is_state (before.state h) ≡ true → is_state ((fold (after_content rules h) before log).state h) ≡ true
log_state rules is_state h steps before [] is = is
log_state rules is_state h steps before (content ∷ log) is =
    log_state rules is_state h steps (after_content rules h before content) log (content_state rules is_state h steps before content is)

-- a replica that stands for a log has the numbers of a state
pub has_state : {P S : Type 0} (rules : Rules S) (is_state : S → Bool) (h : ℕ) (replica : Replica P S) (log : List Content)
    → is_state (rules.start h) ≡ true → Steps rules is_state h → StandsFor rules h replica log → HasState rules is_state replica
has_state rules is_state h replica log start steps stands = record {
  shown = (alone rules h log).state h;
  is = log_state rules is_state h steps (fresh rules) log start;
  packed = stands.holds.state;
}

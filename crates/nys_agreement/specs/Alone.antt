-- What a log means: the system in which its host alone has taken the log's contents.
use Rattle.std.specs.Prelude.{◌≡◌, ℕ, ◌<◌, true, ℤ, List, [], ◌∷◌, fold, Some, None}
use Rattle.nys_bytes.specs.declared.content.Content.{Content}
use Rattle.nys_bytes.specs.declared.content.Content.TheVariants.{External, Message}
use Rattle.nys_source.specs.Rules.{Rules}
use Rattle.nys_source.specs.Source.{Source, fresh}
use Rattle.nys_source.specs.Steps.{after_payload, counted}
use Rattle.nys_source.specs.declared.step.Step.{Step}
use Rattle.nys_source.specs.declared.step.Step.TheVariants.{Input, Receive}

-- the system after host h has taken a content, by whomever it was sent
abbrev pub after_content : {S : Type 0} → Rules S → ℕ → Source S → Content → Source S
after_content rules h before (External payload) = after_payload rules before h None payload
after_content rules h before (Message p k payload) = after_payload rules (counted before p h) h (Some p) payload

-- the system in which host h has taken the contents of a log, and no other host anything: it tells
-- the state of h, its outputs, what it sent and how much it received on each link
abbrev pub alone : {S : Type 0} → Rules S → ℕ → List Content → Source S
alone rules h log = fold (after_content rules h) (fresh rules) log

-- the content comes next in the log: an input, or a neighbour's message with the next number
abbrev pub Fits : {S : Type 0} → Rules S → ℕ → List Content → Content → Type 0
Fits rules h log (External payload) = Unit {0}
Fits rules h log (Message p k payload) =
    (p < rules.hosts) × (rules.linked p h ≡ true) × (k ≡ (alone rules h log).received p h)

-- the step in which host h takes the content
abbrev pub step_of : ℕ → Content → Step
step_of h (External payload) = Input h payload
step_of h (Message p k payload) = Receive h p k

-- the payloads of a log's inputs, in order
abbrev pub inputs_in : List Content → List (List ℤ)
inputs_in [] = []
inputs_in (External payload ∷ log) = payload ∷ inputs_in log
inputs_in (Message p k payload ∷ log) = inputs_in log

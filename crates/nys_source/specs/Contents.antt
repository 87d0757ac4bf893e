-- The contents that a host takes in a run.
use Rattle.std.specs.Prelude.{ℕ, ◌==◌, if◌then◌else◌, ℤ, List, [], ◌∷◌, ◌++◌, slice_get, Option, Some, None}
use Rattle.nys_bytes.specs.declared.content.Content.{Content}
use Rattle.nys_bytes.specs.declared.content.Content.TheVariants.{External, Message}
use Rattle.nys_source.specs.Rules.{Rules}
use Rattle.nys_source.specs.Source.{Source, fresh}
use Rattle.nys_source.specs.Steps.{after_step}
use Rattle.nys_source.specs.declared.step.Step.{Step}
use Rattle.nys_source.specs.declared.step.Step.TheVariants.{Input, Receive, Stop}

-- message k of p with the payload that was sent, if one was
abbrev pub message_of : ℕ → ℕ → Option (List ℤ) → List Content
message_of p k None = []
message_of p k (Some payload) = Message p k payload ∷ []

-- what host h takes in one step, if it takes anything
abbrev pub taken_in : {S : Type 0} → Source S → ℕ → Step → List Content
taken_in before h (Input g payload) = if g == h then External payload ∷ [] else []
taken_in before h (Receive g p k) = if g == h then message_of p k (slice_get (before.sent p g) k) else []
taken_in before h (Stop g) = []

-- what host h takes, in order, in steps from a system on
abbrev pub contents_from : {S : Type 0} → Rules S → Source S → ℕ → List Step → List Content
contents_from rules before h [] = []
contents_from rules before h (step ∷ steps) =
    taken_in before h step ++ contents_from rules (after_step rules before step) h steps

-- what host h takes, in order, in a run
abbrev pub contents_taken : {S : Type 0} → Rules S → List Step → ℕ → List Content
contents_taken rules run h = contents_from rules (fresh rules) h run

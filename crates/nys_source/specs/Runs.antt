-- Runs of the source system: lists of steps in which each is a step where it stands.
use Rattle.std.specs.Prelude.{◌≡◌, ℕ, suc, zero, ◌==◌, Bool, false, if◌then◌else◌, ℤ, List, [], ◌∷◌, fold, None}
use Rattle.nys_source.specs.Rules.{Rules}
use Rattle.nys_source.specs.Source.{Source, fresh}
use Rattle.nys_source.specs.Steps.{after_step, refusal}
use Rattle.nys_source.specs.declared.step.Step.{Step}
use Rattle.nys_source.specs.declared.step.Step.TheVariants.{Input, Receive, Stop}

-- each step of the list may be taken where it stands, from a system on
abbrev pub IsRunFrom : {S : Type 0} → Rules S → Source S → List Step → Type 0
IsRunFrom rules before [] = Unit {0}
IsRunFrom rules before (step ∷ steps) =
    (refusal rules before step ≡ None) × IsRunFrom rules (after_step rules before step) steps

-- the list is a run
abbrev pub IsRun : {S : Type 0} → Rules S → List Step → Type 0
IsRun rules run = IsRunFrom rules (fresh rules) run

-- the system that a run leaves
abbrev pub after_run : {S : Type 0} → Rules S → List Step → Source S
after_run rules run = fold (after_step rules) (fresh rules) run

-- host h takes a payload in the step
abbrev pub takes_payload : ℕ → Step → Bool
takes_payload h (Input g payload) = g == h
takes_payload h (Receive g p k) = g == h
takes_payload h (Stop g) = false

-- the run up to the step in which host h takes its m-th payload
abbrev pub up_to : ℕ → ℕ → List Step → List Step
up_to h zero steps = []
up_to h (suc m) [] = []
up_to h (suc m) (step ∷ steps) = step ∷ up_to h (if takes_payload h step then m else suc m) steps

-- the state and the outputs of host h after the first m payloads that it takes in a run
abbrev pub host_at : {S : Type 0} → Rules S → List Step → ℕ → ℕ → S × List (List ℤ)
host_at rules run h m = let left = after_run rules (up_to h m run) in (left.state h, left.outs h)

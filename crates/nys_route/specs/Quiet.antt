-- Runs in which nothing is left to do, and what hosts were given from outside.
use Rattle.std.specs.Prelude.{◌≡◌, ℕ, ◌<◌, ◌==◌, true, if◌then◌else◌, ℤ, List, [], ◌∷◌, length}
use Rattle.std.specs.List.{flat_map}
use Rattle.nys_source.specs.Rules.{Rules}
use Rattle.nys_source.specs.Runs.{after_run}
use Rattle.nys_source.specs.Source.{Source}
use Rattle.nys_source.specs.declared.step.Step.{Step}
use Rattle.nys_source.specs.declared.step.Step.TheVariants.{Input, Receive, Stop}

-- no host has stopped, and each has received all that its neighbours have sent to it
pub record IsQuietSystem {S : Type 0} (rules : Rules S) (now : Source S) : Type 0 where
  pub running : (h : ℕ) → h < rules.hosts → now.running h ≡ true
  pub received : (p h : ℕ) → rules.linked p h ≡ true → now.received p h ≡ length (now.sent p h)

-- the run leaves a system in which no host has stopped and nothing waits to be received
abbrev pub IsQuiet : {S : Type 0} → Rules S → List Step → Type 0
IsQuiet rules run = IsQuietSystem rules (after_run rules run)

-- the input that host h has in the step, if it has one
abbrev pub input_in : ℕ → Step → List (List ℤ)
input_in h (Input g payload) = if g == h then payload ∷ [] else []
input_in h (Receive g p k) = []
input_in h (Stop g) = []

-- the inputs that host h has in a run, in order
abbrev pub inputs_of : ℕ → List Step → List (List ℤ)
inputs_of h run = flat_map (input_in h) run

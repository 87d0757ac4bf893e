-- A run that is followed step by step.
use Rattle.std.proofs.Common.{◌≡◌, ℕ, ◌+◌, ◌<◌, List, ◌∷◌, drop, get_or, length, suc, refl, arith}
use Rattle.std.proofs.Math.Seq.{drop-cons}
use Rattle.std.proofs.lemmas.List.{length-append}
use Rattle.nys_report.specs.Countable.{CanFollow, IsCountable}
use Rattle.nys_report.proofs.ReceivedLemmas.{received_taken, receive_host}
use Rattle.nys_source.specs.Contents.{contents_from, taken_in}
use Rattle.nys_source.specs.Held.{HasRoom}
use Rattle.nys_source.specs.Rules.{Rules}
use Rattle.nys_source.specs.Runs.{IsRun}
use Rattle.nys_source.specs.Source.{fresh, Source}
use Rattle.nys_source.specs.Steps.{after_step}
use Rattle.nys_source.specs.declared.step.Step.{Step}
use Rattle.nys_source.specs.declared.step.Step.TheVariants.{Input, Receive, Stop}

-- a run can be followed from the beginning
pub follow_first : {S : Type 0} (rules : Rules S) (run : List Step) → IsRun rules run → IsCountable rules run → CanFollow rules (fresh rules) run
follow_first rules run is countable = record {
  run = is;
  few = λ p h inside. omega (arith, countable.few h inside);
}

-- after the first step the others can be followed
pub follow_next : {S : Type 0} (rules : Rules S) (now : Source S) (step : Step) (steps : List Step) → CanFollow rules now (step ∷ steps)
    → CanFollow rules (after_step rules now step) steps
follow_next rules now step steps can = record {
  run = can.run.1;
  few = λ p h inside.
      let counted = length-append (taken_in now h step) (contents_from rules (after_step rules now step) h steps) in
      omega (arith, can.few p h inside, received_taken rules now step p h, counted);
}

-- the first step finds room to count what it receives
pub follow_room : {S : Type 0} (rules : Rules S) (now : Source S) (step : Step) (steps : List Step) → CanFollow rules now (step ∷ steps) → HasRoom now step
follow_room rules now (Input h payload) steps can = record {}
follow_room rules now (Receive h p k) steps can = omega (arith, can.few p h (receive_host rules now h p k can.run.0))
follow_room rules now (Stop h) steps can = record {}

-- the steps from a place on are the one there and those behind it
pub steps_from : (steps : List Step) (at : ℕ) (step : Step) → at < length steps → step ≡ get_or steps at step → drop at steps ≡ step ∷ drop (at + 1) steps
steps_from steps at step inside here =
    let next : at + 1 ≡ suc at = omega arith in
    rw (next, drop-cons steps at step, ← here) refl

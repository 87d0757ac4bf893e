-- One lawful step of a list of steps that is judged.
use Rattle.std.proofs.Common.{◌≡◌, ℕ, suc, ◌+◌, ◌<◌, ◌∷◌, List, None, drop, length, get_or, ap, refl, arith, ◌∙◌}
use Rattle.std.proofs.Math.Seq.{drop-cons}
use Rattle.nys_source.specs.Rules.{Rules}
use Rattle.nys_source.specs.Source.{Source}
use Rattle.nys_source.specs.Steps.{after_step, refusal}
use Rattle.nys_source.specs.declared.step.Step.{Step}
use Rattle.nys_source_commands.specs.Answers.{first_refused, or_later}

-- the steps from a place on are the one there and those behind it
pub steps_from : (steps : List Step) (at : ℕ) (step : Step) → at < length steps → step ≡ get_or steps at step → drop at steps ≡ step ∷ drop (at + 1) steps
steps_from steps at step inside here =
    let next : at + 1 ≡ suc at = omega arith in
    rw (next, drop-cons steps at step, ← here) refl

-- behind a lawful step the others are judged from the system after it
pub first_refused-next : {S : Type 0} (rules : Rules S) (at : ℕ) (before : Source S) (steps rest : List Step) (step : Step) → steps ≡ step ∷ rest → refusal rules before step ≡ None → first_refused rules at before steps ≡ first_refused rules (at + 1) (after_step rules before step) rest
first_refused-next rules at before steps rest step first lawful =
    ap (first_refused rules at before) first
    ∙ ap (λ why. or_later why at (first_refused rules (at + 1) (after_step rules before step) rest)) lawful

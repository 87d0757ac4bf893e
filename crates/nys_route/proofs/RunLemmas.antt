-- What each step keeps holds of what a run leaves; inputs of one step more.
use Rattle.std.proofs.Common.{◌≡◌, ℕ, ◌≤◌, List, [], ◌∷◌, ◌++◌, length, fold, None, sym, ap, ◌∙◌, subst, arith, append_assoc, length-append}
use Rattle.std.proofs.lemmas.List.{append-nil, flat_map_more}
use Rattle.nys_source.specs.Rules.{Rules}
use Rattle.nys_source.specs.Runs.{after_run, IsRun, IsRunFrom}
use Rattle.nys_source.specs.Source.{fresh, Source}
use Rattle.nys_source.specs.Steps.{after_step, refusal}
use Rattle.nys_source.specs.declared.step.Step.{Step}
use Rattle.nys_route.specs.Quiet.{input_in, inputs_of}

-- a step keeps what holds before it
abbrev pub IsKept : {S : Type 0} → Rules S → (List Step → Source S → Type 0) → Type 0
IsKept {S} rules Holds = (before : List Step) (now : Source S) (step : Step) → Holds before now → refusal rules now step ≡ None
    → Holds (before ++ step ∷ []) (after_step rules now step)

-- what holds after some steps holds after those of a run from there
kept_from : {S : Type 0} (rules : Rules S) (Holds : List Step → Source S → Type 0) → IsKept rules Holds → (before steps : List Step)
    (now : Source S) → Holds before now → IsRunFrom rules now steps → Holds (before ++ steps) (fold (after_step rules) now steps)
kept_from rules Holds kept before [] now here run = subst (λ all. Holds all now) (sym (append-nil before)) here
kept_from rules Holds kept before (step ∷ steps) now here run =
    subst (λ all. Holds all (fold (after_step rules) (after_step rules now step) steps)) (append_assoc before (step ∷ []) steps)
    (kept_from rules Holds kept (before ++ step ∷ []) steps (after_step rules now step) (kept before now step here run.0) run.1)

-- what holds at the beginning holds of what a run leaves
pub kept_by_run : {S : Type 0} (rules : Rules S) (Holds : List Step → Source S → Type 0) → IsKept rules Holds → Holds [] (fresh rules)
    → (run : List Step) → IsRun rules run → Holds run (after_run rules run)
kept_by_run rules Holds kept first run is = kept_from rules Holds kept [] run (fresh rules) first is

-- the inputs of a run and those of one step more
pub inputs_more : (h : ℕ) (run : List Step) (step : Step) → inputs_of h (run ++ step ∷ []) ≡ inputs_of h run ++ input_in h step
inputs_more h run step = sym (flat_map_more (input_in h) [] run step)

-- there are no fewer of them
pub inputs_grow : (h : ℕ) (run : List Step) (step : Step) → length (inputs_of h run) ≤ length (inputs_of h (run ++ step ∷ []))
inputs_grow h run step =
    let all = ap length (inputs_more h run step) ∙ length-append (inputs_of h run) (input_in h step) in
    omega (arith, all)

-- The text of a run: a line for each step.
use Rattle.std.specs.Prelude.{ℕ, ◌++◌, List, codes, decimal}
use Rattle.std.specs.List.{flat_map}
use Rattle.nys_text.specs.Printed.{spaced}
use Rattle.nys_source.specs.declared.step.Step.{Step}
use Rattle.nys_source.specs.declared.step.Step.TheVariants.{Input, Receive, Stop}

-- the line of a step, with its line feed
abbrev pub step_line : Step → List ℕ
step_line (Input h payload) = decimal h ++ (codes " input" ++ (spaced payload ++ codes "\n"))
step_line (Receive h p k) = decimal h ++ (codes " receive " ++ (decimal p ++ (codes " " ++ (decimal k ++ codes "\n"))))
step_line (Stop h) = decimal h ++ codes " stop\n"

-- the lines of steps, in order
abbrev pub steps_text : List Step → List ℕ
steps_text steps = flat_map step_line steps

-- the text so far and the lines that are left make the whole text
use Rattle.std.proofs.Common.{◌≡◌, ◌++◌, drop}
use Rattle.nys_source.specs.RunText.{steps_text}
use Rattle.nys_source.proofs.printing.run_text.Given as goal

abbrev pub invariant-loop-step : goal.invariant-loop-step
invariant-loop-step l = l.out ++ steps_text (drop l.step-index l.steps) ≡ l.fn.out ++ steps_text l.steps

use Rattle.std.proofs.Common.{ap, ◌∙◌}
use Rattle.nys_runs.specs.StepLines.{run_of}
use Rattle.nys_runs.proofs.RunLemmas.{ok_same, refused_memory, run_of-steps_text, run_read, run_refused}
use Rattle.nys_runs.proofs.read.read_run.Goals as goal

pub returns-in-Ok-clause-ok : goal.returns-in-Ok-clause-ok
returns-in-Ok-clause-ok c = run_read c.args.text.now c.in-Ok.steps.items c.in-Ok.ensures.ok

pub returns-in-Ok-clause-printed : goal.returns-in-Ok-clause-printed
returns-in-Ok-clause-printed c = λ steps fit few is.
    let printed = ap run_of is ∙ run_of-steps_text steps fit few in
    ok_same (run_of c.args.text.now) c.in-Ok.steps.items steps (run_read c.args.text.now c.in-Ok.steps.items c.in-Ok.ensures.ok) printed

pub returns-in-Err-clause-err : goal.returns-in-Err-clause-err
returns-in-Err-clause-err c = rw c.run_fault.ensures (run_refused c.args.text.now c.in-Err.fault c.in-Err.ensures.err)

pub returns-in-Err-clause-printed : goal.returns-in-Err-clause-printed
returns-in-Err-clause-printed c = λ steps fit few is.
    let printed = ap run_of is ∙ run_of-steps_text steps fit few in
    rw c.run_fault.ensures (refused_memory _ _ _ (run_refused c.args.text.now c.in-Err.fault c.in-Err.ensures.err) printed)

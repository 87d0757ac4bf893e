-- The computed examples.
use Rattle.nys_agreement.proofs.ExampleLemmas.{abandon, decide_past_logs, log_both}
use Rattle.nys_agreement.proofs.examples.examples_law.Goals as goal

pub returns-clause-log : goal.returns-clause-log
returns-clause-log c = log_both

pub returns-clause-decide : goal.returns-clause-decide
returns-clause-decide c = decide_past_logs

pub returns-clause-abandon : goal.returns-clause-abandon
returns-clause-abandon c = abandon

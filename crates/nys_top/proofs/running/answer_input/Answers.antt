-- the status is one of a command's own
use Rattle.nys_top.proofs.Statuses.{command_plain}
use Rattle.nys_top.proofs.running.answer_input.Goals as goal

pub returns-in_ok-answer-in-Ok-clause-status : goal.returns-in_ok-answer-in-Ok-clause-status
returns-in_ok-answer-in-Ok-clause-status g c =
    (command_plain c.args.command _ c.in_ok-answer-in-Ok.field-0 c.in_ok-answer-in-Ok.ensures).status

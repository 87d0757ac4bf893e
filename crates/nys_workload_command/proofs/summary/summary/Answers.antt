-- the lines are the summary
use Rattle.std.proofs.Common.{◌++◌, codes, ap, ◌∙◌}
use Rattle.nys_answer.specs.declared.status.Status.TheVariants.{Done}
use Rattle.nys_workload_command.proofs.AnsweredLemmas.{put_in_turn}
use Rattle.nys_workload_command.proofs.summary.summary.Goals as goal
use Rattle.nys_workload_command.specs.Summary.{counted, first_line, number_line, summary}
use Rattle.nys_world.specs.Shows.{setting_of}

pub returns : goal.returns
unfolding summary
returns g c = λ w is.
    let stage = c.args.course.now.world.stage in
    let setting = setting_of (g.P.Protocol.rules stage.cx.protocol) stage in
    ap (λ t. record { status = Done; text = t })
    (put_in_turn _ _ _ _ _ _ _ c.new-text.ensures c.in_ok-put_first.ensures c.in_ok-put_line.ensures (c.in_ok-put_counts.ensures w is)
    ∙ ap (λ n. first_line c.args.seed c.args.hosts c.args.events ++ (number_line (codes "inputs ") n ++ counted setting w)) c.from.ensures)

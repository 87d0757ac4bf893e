-- what the drawn events lead to is answered
use Rattle.std.proofs.Common.{◌≡◌, subst}
use Rattle.std.proofs.lemmas.Result.{IfOk-weaker}
use Rattle.nys_answer.specs.declared.status.Status.TheVariants.{Done}
use Rattle.nys_native.specs.declared.flood.Flood.{Flood}
use Rattle.nys_native.specs.declared.total.Total.{Total}
use Rattle.nys_rules.specs.World.{World}
use Rattle.nys_workload_command.proofs.AnsweredLemmas.{end_answered, world_answered}
use Rattle.nys_workload_command.proofs.ScenarioLemmas.{rules_in}
use Rattle.nys_workload_command.proofs.workload_command.workload.Goals as goal
use Rattle.nys_workload_command.specs.Summary.{summary}
use Rattle.nys_workload_command.specs.declared.course.Course.{Course}
use Rattle.nys_world.specs.Shows.{setting_of}
use Rattle.nys_world.specs.Worlds.{IsWorldOf}
use Rattle.nys_world.specs.declared.stage.Stage.{Stage}

pub returns-in-Ok : goal.returns-in-Ok
returns-in-Ok c =
    let d = c.in-Ok.ensures.drawn in
    let stage = c.in_ok-world.world.stage in
    let asked = c.args.drawing in
    IfOk-weaker c.summary.result _ _ (λ answer told.
    world_answered asked (setting_of (rules_in stage) stage) d.0 c.in-Ok.course.dice answer c.in_ok-world.ensures.setting d.1 c.in-Ok.ensures.dice
    (subst
    (λ (st : Stage Flood Total).
    (w : World) → IsWorldOf (rules_in st) c.in-Ok.course.world w → answer
    ≡ record { status = Done; text = summary asked.seed asked.hosts asked.events c.in-Ok.course.dice.inputs (setting_of (rules_in st) st) w })
    c.in-Ok.ensures.stage told d.0 d.2)) c.summary.ensures

pub returns-in-Err : goal.returns-in-Err
returns-in-Err c =
    let stage = c.in_ok-world.world.stage in
    let Has = λ (course : Course Flood Total) (w : World). IsWorldOf (rules_in stage) course.world w in
    IfOk-weaker c.end_answer.result _ _ (λ answer told.
    end_answered Has c.args.drawing (setting_of (rules_in stage) stage) c.in-Err.end answer c.in_ok-world.ensures.setting c.in-Err.ensures.drawn
    told) c.end_answer.ensures

-- each event that happens leaves the others, and an end is that of all
use Rattle.std.proofs.Common.{◌≡◌, ◌+◌, Ok, Err, ap, subst, sym, ◌∙◌, refl, arith}
use Rattle.std.proofs.lemmas.Result.{err_from_is_err_and}
use Rattle.nys_workload.specs.Drawn.{next_dice, first_dice}
use Rattle.nys_rules.specs.World.{World}
use Rattle.nys_workload_command.specs.declared.course.Course.{Course}
use Rattle.nys_workload_command.proofs.CourseLemmas.{dice_next, DoesNext, goes_first, goes_last, goes_more, GoesOn, wrong_drawn}
use Rattle.nys_workload_command.proofs.course.run_drawn.Goals as goal
use Rattle.nys_world.proofs.EventCounts.{happens_count}
use Rattle.nys_world.specs.Shows.{setting_of}
use Rattle.nys_world.specs.Worlds.{IsWorldOf}

pub loop-place-init : goal.loop-place-init
loop-place-init g c =
    let stage = c.args.world.stage in
    let rules = g.P.Protocol.rules stage.cx.protocol in
    let setting = setting_of rules stage in
    record {
      stage = refl;
      dice = c.new.ensures;
      on = subst (λ d. GoesOn setting c.args.seed c.args.hosts c.args.events 0 d (IsWorldOf rules c.args.world)) (sym c.new.ensures)
          (goes_first setting c.args.seed c.args.hosts c.args.events (IsWorldOf rules c.args.world) c.requires.first);
    }

pub loop-place-preserved : goal.loop-place-preserved
loop-place-preserved g c =
    let stage = c.args.world.stage in
    let rules = g.P.Protocol.rules stage.cx.protocol in
    let setting = setting_of rules stage in
    let next = c.in_ok-course.course in
    let now = c.loop-place.course in
    let on = c.loop-place.invariant.on in
    let does = subst (λ st. DoesNext g.P.Protocol.rules st now.world c.args.hosts c.loop-place.place now.dice (Ok next)) c.loop-place.invariant.stage
    c.in_ok-course.ensures.happens in
    let h = does on.world on.shows in
    let more = goes_more setting c.args.seed c.args.hosts c.args.events c.loop-place.place now.dice _ (IsWorldOf rules next.world) on h.0 h.1
    (happens_count setting on.world h.0 _ h.1) h.2 in
    record {
      stage = c.in_ok-course.ensures.stage ∙ c.loop-place.invariant.stage;
      dice = c.in_ok-course.ensures.dice ∙ ap next_dice c.loop-place.invariant.dice ∙ dice_next (first_dice c.args.seed) c.loop-place.place;
      on = subst (λ d. GoesOn setting c.args.seed c.args.hosts c.args.events (c.loop-place.place + 1) d (IsWorldOf rules next.world))
          (sym c.in_ok-course.ensures.dice) more;
    }

pub returns-clause-drawn : goal.returns-clause-drawn
returns-clause-drawn g c =
    let stage = c.args.world.stage in
    let rules = g.P.Protocol.rules stage.cx.protocol in
    let on = c.loop-place.invariant.on in
    let end = c.loop-place-test.false in
    let last = c.loop-place.auto.place-end in
    (on.world, goes_last (setting_of rules stage) c.args.seed c.args.hosts c.args.events c.loop-place.place _ _ on (omega (arith, end, last)), on.shows)

pub returns-in_err-course-clause-drawn : goal.returns-in_err-course-clause-drawn
returns-in_err-course-clause-drawn g c =
    let stage = c.args.world.stage in
    let rules = g.P.Protocol.rules stage.cx.protocol in
    let setting = setting_of rules stage in
    let now = c.loop-place.course in
    let on = c.loop-place.invariant.on in
    let p = err_from_is_err_and c.from_residual.result c.from_residual.ensures.1 in
    let does = subst (λ st. DoesNext g.P.Protocol.rules st now.world c.args.hosts c.loop-place.place now.dice (Err c.in_err-course.field-0.0)) c.loop-place.invariant.stage
    c.in_err-course.ensures.happens in
    let Has = λ (after : Course g.row.P.Denot g.row.P-State.Denot) (w : World). IsWorldOf rules after.world w in
    rw (p.1, p.2)
    (wrong_drawn Has Has setting c.args.seed c.args.hosts c.args.events c.loop-place.place now.dice _ on c.in_err-course.field-0.0 c.loop-place-test.true
    (does on.world on.shows))

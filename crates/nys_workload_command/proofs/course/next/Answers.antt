-- the event is the one that is drawn for as many packets as the world has
use Rattle.std.proofs.Common.{◌≡◌, Ok, length, ap, subst, ◌∙◌}
use Rattle.nys_hosts.specs.Sets.{has}
use Rattle.nys_rules.specs.Asked.{IsEvent}
use Rattle.nys_rules.specs.Events.{plain}
use Rattle.nys_rules.specs.Happening.{Happens}
use Rattle.nys_workload.specs.Drawn.{event_of}
use Rattle.nys_workload_command.proofs.course.next.Goals as goal
use Rattle.nys_world.specs.Shows.{setting_of}

pub step-requires-clause-event : goal.step-requires-clause-event
step-requires-clause-event g c =
    let liars = has c.args.course.world.stage.liars in
    subst (λ n. IsEvent n liars (plain c.in_ok-event.event)) c.requires.all (c.in_ok-event.ensures.fits liars)

pub returns-clause-happens : goal.returns-clause-happens
returns-clause-happens g c = λ w is.
    let stage = c.args.course.world.stage in
    let setting = setting_of (g.P.Protocol.rules stage.cx.protocol) stage in
    let dice = c.args.course.dice in
    let same = c.in_ok-event.ensures.event ∙ ap (λ pool. event_of c.args.hosts dice c.args.place (length pool)) (c.pool.ensures w is) in
    let happened = c.in_ok-world.ensures.happens w is in
    (happened.0, subst (λ e. Happens setting w e (Ok happened.0)) same happened.1, happened.2)

use Rattle.std.proofs.Common.{◌+◌, Ok, Err, arith, refl}
use Rattle.nys_rules.specs.Events.{plain}
use Rattle.nys_rules.specs.Happening.{Does, Happens}
use Rattle.nys_rules.specs.World.{World}
use Rattle.nys_world.specs.Shows.{setting_of, ShowsOn}
use Rattle.nys_world.proofs.EventCounts.{does_same_count}
use Rattle.nys_world.proofs.PlaceLemmas.{shows_books}
use Rattle.nys_world.proofs.ShownMoments.{ends_by}
use Rattle.nys_world.proofs.moment.Moment.step.Goals as goal

-- what the event did left the count as it was
pub count-requires : goal.count-requires
count-requires g c =
    let setting = setting_of (g.P.Protocol.rules c.args.stage.now.cx.protocol) c.args.stage.now in
    let w = c.requires.shown.0 in
    let x = c.in_ok-act.ensures w c.requires.shown.1 in
    let same = does_same_count setting w x.0 (plain c.args.event) x.1 in
    omega (arith, same, x.2.books.events, c.requires.shown.1.books.events, c.requires.room)

-- the world ends
pub returns-in_err-act : goal.returns-in_err-act
returns-in_err-act g c = λ w shows.
    let rules = g.P.Protocol.rules c.args.stage.now.cx.protocol in
    let stage = c.args.stage.now in
    let setting = setting_of rules stage in
    let Has = λ (_ : Unit {0}) (next : World). ShowsOn rules stage c.act.new.self next in
    ends_by Has Has (Does setting w (plain c.args.event)) (Happens setting w (plain c.args.event))
    (λ why does. record { mid = Err why; does = does; result_is = refl })
    c.from_residual.result c.in_err-act.field-0.0 c.from_residual.ensures.1
    (c.in_err-act.ensures w shows)

-- the event is counted
pub returns : goal.returns
returns g c = λ w shows.
    let rules = g.P.Protocol.rules c.args.stage.now.cx.protocol in
    let stage = c.args.stage.now in
    let setting = setting_of rules stage in
    let x = c.in_ok-act.ensures w shows in
    let next = record x.0 { events = x.0.events + 1 } in (
      next,
      record { mid = Ok x.0; does = x.1; result_is = refl },
      shows_books setting stage.traced c.act.new.self c.count.new.self x.0 next refl refl refl (c.count.ensures x.0 x.2.books) x.2,
    )

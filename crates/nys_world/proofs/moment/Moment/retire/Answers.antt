use Rattle.std.proofs.Common.{refl}
use Rattle.nys_rules.specs.declared.notice.NoteKind.TheVariants as tell
use Rattle.nys_rules.specs.World.{with_note}
use Rattle.nys_world.specs.Shows.{setting_of}
use Rattle.nys_world.proofs.BooksKeep.{keeps_beside}
use Rattle.nys_world.proofs.PlaceLemmas.{shows_olympus}
use Rattle.nys_world.proofs.moment.Moment.retire.Goals as goal

-- the answer is told of the Olympus that gave it
pub returns : goal.returns
returns g c = λ w shows.
    let setting = setting_of (g.P.Protocol.rules c.args.stage.now.cx.protocol) c.args.stage.now in
    let before = c.args.self.now in
    let answer = c.retire-answer.result in
    let x = c.retire-answer.ensures.retires setting.scope w.olympus shows.olympus in
    let next = with_note (tell.Retire c.args.h answer) (record w { olympus = x.0 }) in
    let keeps = c.in_ok-note.ensures (record w { olympus = x.0 }) (keeps_beside before.books w w.nodes x.0 shows.books) in (
      next,
      record { after = x.0; answer = answer; retires = x.2; result_is = refl },
      shows_olympus setting c.args.stage.now.traced before _ x.0 w next x.1 refl refl refl keeps shows.takes shows,
    )

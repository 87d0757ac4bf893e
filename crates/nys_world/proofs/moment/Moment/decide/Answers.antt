use Rattle.std.proofs.Common.{ap, refl, subst, length, arith, List}
use Rattle.nys_bytes.specs.declared.content.Content.{Content}
use Rattle.nys_rules.specs.declared.notice.NoteKind.TheVariants as tell
use Rattle.nys_rules.specs.World.{with_decided, with_note}
use Rattle.nys_world.specs.Shows.{Keeps, setting_of}
use Rattle.nys_world.proofs.BooksKeep.{keeps_beside}
use Rattle.nys_world.proofs.ShownMoments.{shows_decided}
use Rattle.nys_world.proofs.moment.Moment.decide.Goals as goal

-- no decided log is longer than a log may be
pub decided-requires-2-clause-slots : goal.decided-requires-2-clause-slots
decided-requires-2-clause-slots g c =
    let setting = setting_of (g.P.Protocol.rules c.args.stage.now.cx.protocol) c.args.stage.now in
    let w = c.requires.shown.0 in
    let x = c.in_ok-answer.ensures.decides w.olympus c.requires.shown.1.olympus in
    let same = ap length (c.decided.ensures setting.scope x.0 x.1) in
    omega (arith, same, x.1.sound.short c.args.h)

-- the entries join the run, and the answer is told
pub returns : goal.returns
returns g c = λ w shows.
    let setting = setting_of (g.P.Protocol.rules c.args.stage.now.cx.protocol) c.args.stage.now in
    let before = c.args.self.now in
    let x = c.in_ok-answer.ensures.decides w.olympus shows.olympus in
    let kind = tell.Decide c.args.h c.in_ok-answer.answer in
    let was = record w { olympus = x.0 } in
    let logged = c.in_ok-note.ensures (with_decided c.args.h 0 c.decided.result.now was)
    (c.in_ok-decided.ensures was (keeps_beside before.books w w.nodes x.0 shows.books)) in
    let keeps = subst (λ (contents : List Content). Keeps c.note.new.self (with_note kind (with_decided c.args.h 0 contents was)))
    (c.decided.ensures setting.scope x.0 x.1) logged in (
      with_note kind (with_decided c.args.h 0 (x.0.decided c.args.h) was),
      record { after = x.0; answer = c.in_ok-answer.answer; decides = x.2; result_is = refl },
      shows_decided setting c.args.stage.now.traced before c.decide.new.self c.note.new.self kind x.0 c.args.h (x.0.decided c.args.h) w shows x.1 keeps,
    )

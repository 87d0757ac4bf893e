-- Nothing changes but what is told of it.
use Rattle.std.proofs.Common.{Some}
use Rattle.std.proofs.lemmas.Result.{err_from_is_err_and}
use Rattle.nys_rules.specs.Happening.{with_take}
use Rattle.nys_rules.specs.Scope.{olympus}
use Rattle.nys_world.specs.Given.{bytes_given}
use Rattle.nys_world.specs.Shows.{setting_of}
use Rattle.nys_world.proofs.DropLemmas.{shows_unheard, takes_unheard, unheard}
use Rattle.nys_world.proofs.TakingLemmas.{takes_told}
use Rattle.nys_world.proofs.moment.Moment.give_unheard.Goals as goal

-- there was no memory to tell of it
pub returns-in_err-keep_take : goal.returns-in_err-keep_take
returns-in_err-keep_take g c = λ w s.
    let p = err_from_is_err_and c.from_residual.result c.from_residual.ensures.1 in rw (p.1, p.2) tt

-- it is told
pub returns : goal.returns
returns g c = λ w s.
    let stage = c.args.stage.now in
    let setting = setting_of (g.P.Protocol.rules stage.cx.protocol) stage in
    let packet = c.args.packet in
    let told = with_take olympus packet (Some c.args.cause) w in (
      unheard told,
      takes_unheard setting w packet (bytes_given w packet) c.args.cause (c.requires.unheard w s),
      shows_unheard setting stage.traced c.args.self.now c.keep_take.new.takes w told.takes
          (takes_told stage.traced _ w c.args.self.now.books.events olympus packet (Some c.args.cause) s.books.events (c.in_ok-keep_take.ensures w.takes s.takes)) s,
    )

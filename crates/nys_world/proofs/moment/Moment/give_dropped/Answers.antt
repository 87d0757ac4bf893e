-- Nothing changes but what is told of it.
use Rattle.std.proofs.Common.{Some}
use Rattle.std.proofs.lemmas.Result.{err_from_is_err_and}
use Rattle.nys_rules.specs.Happening.{with_take}
use Rattle.nys_world.specs.Given.{bytes_given}
use Rattle.nys_world.specs.Shows.{setting_of}
use Rattle.nys_world.proofs.DropLemmas.{shows_unmoved, takes_dropped, unmoved}
use Rattle.nys_world.proofs.TakingLemmas.{takes_told}
use Rattle.nys_world.proofs.moment.Moment.give_dropped.Goals as goal

-- there was no memory to tell of it
pub returns-in_err-keep_take : goal.returns-in_err-keep_take
returns-in_err-keep_take g c = λ w s.
    let p = err_from_is_err_and c.from_residual.result c.from_residual.ensures.1 in rw (p.1, p.2) tt

-- it is told
pub returns : goal.returns
returns g c = λ w s.
    let stage = c.args.stage.now in
    let setting = setting_of (g.P.Protocol.rules stage.cx.protocol) stage in
    let h = c.args.g in
    let packet = c.args.packet in
    let told = with_take h packet (Some c.args.cause) w in (
      unmoved h told,
      takes_dropped setting w h packet (bytes_given w packet) c.args.cause (c.requires.dropped w s),
      shows_unmoved setting stage.traced c.args.self.now c.keep_take.new.takes h w told.takes
          (takes_told stage.traced _ w c.args.self.now.books.events h packet (Some c.args.cause) s.books.events (c.in_ok-keep_take.ensures w.takes s.takes)) s,
    )

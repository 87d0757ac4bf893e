use Rattle.std.proofs.Common.{None, refl, subst}
use Rattle.std.proofs.lemmas.Result.{err_from_is_err_and}
use Rattle.nys_rules.specs.Happening.{IsGiven, with_injected}
use Rattle.nys_world.specs.Outcomes.{Happened}
use Rattle.nys_rules.specs.World.{World}
use Rattle.nys_world.specs.Shows.{setting_of, ShowsOn}
use Rattle.nys_world.proofs.GivenLemmas.{injected_last}
use Rattle.nys_world.proofs.PlaceLemmas.{shows_books}
use Rattle.nys_world.proofs.moment.Moment.give_bytes.Goals as goal

-- there was no memory to keep them
pub returns-in_err-inject : goal.returns-in_err-inject
returns-in_err-inject g c = λ w s.
    let p = err_from_is_err_and c.from_residual.result c.from_residual.ensures.1 in rw (p.1, p.2) tt

-- the world is shown that has them
pub give-requires-clause-shown : goal.give-requires-clause-shown
give-requires-clause-shown g c =
    let setting = setting_of (g.P.Protocol.rules c.args.stage.now.cx.protocol) c.args.stage.now in
    let w = c.requires.shown.0 in
    let s = c.requires.shown.1 in
    let next = with_injected c.args.to c.args.frame.items w in
    (next, shows_books setting c.args.stage.now.traced c.args.self.now c.inject.new.self w next refl refl refl (c.in_ok-inject.ensures w s.books) s)

-- they are given there
pub returns : goal.returns
returns g c = λ w s.
    let rules = g.P.Protocol.rules c.args.stage.now.cx.protocol in
    let setting = setting_of rules c.args.stage.now in
    let frame = c.args.frame.items in
    let next = with_injected c.args.to frame w in
    subst (λ bytes. Happened (λ (_ : Unit {0}) (next : World). ShowsOn rules c.args.stage.now c.give.new.self next) (IsGiven setting next c.args.to None bytes) c.give.result)
    (injected_last c.args.to frame w)
    (c.give.ensures next (shows_books setting c.args.stage.now.traced c.args.self.now c.inject.new.self w next refl refl refl (c.in_ok-inject.ensures w s.books) s))

use Rattle.std.proofs.Common.{◌∙◌, subst}
use Rattle.std.proofs.lemmas.Result.{err_from_is_err_and}
use Rattle.nys_rules.specs.Happening.{DeliversAll}
use Rattle.nys_world.specs.Outcomes.{Happened}
use Rattle.nys_rules.specs.World.{World}
use Rattle.nys_world.specs.Shows.{setting_of, ShowsOn}
use Rattle.nys_world.proofs.moment.Moment.flush.Goals as goal

-- the books are those of a world
pub undelivered-requires : goal.undelivered-requires
undelivered-requires g c = let shown = c.requires.shown in (shown.0, shown.1.books)

-- there was no memory to list the packets
pub returns-in_err-ks : goal.returns-in_err-ks
returns-in_err-ks g c = λ w s.
    let p = err_from_is_err_and c.from_residual.result c.from_residual.ensures.1 in rw (p.1, p.2) tt

-- those that are listed are given
pub returns : goal.returns
returns g c = λ w s.
    let rules = g.P.Protocol.rules c.args.stage.now.cx.protocol in
    let setting = setting_of rules c.args.stage.now in
    subst (λ ks. Happened (λ (_ : Unit {0}) (next : World). ShowsOn rules c.args.stage.now c.deliver_all.new.self next) (DeliversAll setting w ks) c.deliver_all.result)
    (c.as_slice.ensures.value ∙ c.in_ok-ks.ensures w s.books) (c.deliver_all.ensures w s)

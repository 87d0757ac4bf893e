use Rattle.std.proofs.Common.{◌+◌, drop, get_or, subst}
use Rattle.std.proofs.lemmas.List.{drop_all}
use Rattle.std.proofs.lemmas.Option.{slice_get-get_or}
use Rattle.std.proofs.lemmas.Result.{err_from_is_err_and}
use Rattle.nys_sending.proofs.Walks.{drop_next}
use Rattle.nys_world.specs.Given.{IsDelivering}
use Rattle.nys_world.proofs.GoingLemmas.{delivering_ends, delivering_first, delivering_next, delivering_stops}
use Rattle.nys_world.proofs.moment.Moment.deliver_all.Goals as goal

-- none was given yet
pub loop-k-init : goal.loop-k-init
loop-k-init g c = delivering_first (g.P.Protocol.rules c.args.stage.now.cx.protocol) c.args.stage.now c.args.self.now c.args.ks.now c.requires.shown

-- the world ended at one of them
pub returns-in_err-deliver : goal.returns-in_err-deliver
returns-in_err-deliver g c = λ w s.
    let rules = g.P.Protocol.rules c.args.stage.now.cx.protocol in
    let stage = c.args.stage.now in
    let all = c.args.ks.now in
    let i = c.loop-k.k-index in
    let k = get_or all i 0 in
    let p = err_from_is_err_and c.from_residual.result c.from_residual.ensures.1 in
    rw (p.1, p.2)
    (delivering_stops rules stage c.args.self.now c.loop-k.self c.deliver.new.self all (drop (i + 1) all) k c.in_err-deliver.field-0.0
    (subst (λ left. IsDelivering rules stage c.args.self.now c.loop-k.self all left) (drop_next all i k (slice_get-get_or all i 0 c.loop-k-test.true)) c.loop-k.invariant)
    c.in_err-deliver.ensures w s)

-- one more was given
pub loop-k-preserved : goal.loop-k-preserved
loop-k-preserved g c =
    let rules = g.P.Protocol.rules c.args.stage.now.cx.protocol in
    let stage = c.args.stage.now in
    let all = c.args.ks.now in
    let i = c.loop-k.k-index in
    let k = get_or all i 0 in
    delivering_next rules stage c.args.self.now c.loop-k.self c.deliver.new.self all (drop (i + 1) all) k
    (subst (λ left. IsDelivering rules stage c.args.self.now c.loop-k.self all left) (drop_next all i k (slice_get-get_or all i 0 c.loop-k-test.true)) c.loop-k.invariant)
    c.in_ok-deliver.ensures

-- all were
pub returns : goal.returns
returns g c =
    let rules = g.P.Protocol.rules c.args.stage.now.cx.protocol in
    let stage = c.args.stage.now in
    let all = c.args.ks.now in
    delivering_ends rules stage c.args.self.now c.loop-k.self all
    (subst (λ left. IsDelivering rules stage c.args.self.now c.loop-k.self all left) (drop_all c.loop-k.k-index all c.loop-k-test.false) c.loop-k.invariant)

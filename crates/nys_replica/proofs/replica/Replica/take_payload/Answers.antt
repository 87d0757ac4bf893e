-- the effects are those of the state that the system has
use Rattle.std.proofs.Common.{refl}
use Rattle.std.proofs.lemmas.Result.{IfOk-weaker}
use Rattle.nys_replica.proofs.StandsLemmas.{holds_taking}
use Rattle.nys_replica.proofs.replica.Replica.take_payload.Goals as goal

pub returns-clause-holds : goal.returns-clause-holds
returns-clause-holds g c =
    IfOk-weaker c.add_all.result _ _ (λ r step h system held.
    holds_taking (g.P.Protocol.rules c.args.protocol.now) h c.args.self _ r system c.args.from c.args.payload.now
    c.in_ok-made.made.state c.in_ok-made.made.effects.items held c.in_ok-made.ensures.value
    (record { host = refl; packed = c.in_ok-self.ensures; outs = refl; sent = refl; received = refl })
    (step (g.P.Protocol.rules c.args.protocol.now))) c.add_all.ensures.holds

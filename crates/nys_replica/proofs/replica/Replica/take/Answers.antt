-- a message is counted, then taken
use Rattle.std.proofs.lemmas.Result.{IfOk-weaker}
use Rattle.nys_source.specs.Steps.{counted}
use Rattle.nys_replica.proofs.StandsLemmas.{holds_counted}
use Rattle.nys_replica.proofs.replica.Replica.take.Goals as goal

pub returns-in-Message-clause-holds : goal.returns-in-Message-clause-holds
returns-in-Message-clause-holds g c =
    rw c.in-Message.is (IfOk-weaker c.take_payload-in-Message.result _ _ (λ r step h system held.
    step h (counted system c.in-Message.p h)
    (holds_counted (g.P.Protocol.rules c.args.protocol.now) h c.in-Message.p c.args.self c.count.new.self system c.count.ensures held)) c.take_payload-in-Message.ensures.holds)

use Rattle.std.proofs.Common.{ap, ◌∙◌, sym}
use Rattle.nys_rules.specs.Heads.{own_attest, payload_in}
use Rattle.nys_rules.specs.View.{sent_to}
use Rattle.nys_agreement.specs.Alone.{alone}
use Rattle.nys_node.proofs.HeadLemmas.{none_sent}
use Rattle.nys_node.proofs.Knows.{no_log, replica_stands}
use Rattle.nys_node.proofs.node.Node.own_attest.Goals as goal

-- the replica has sent what the log gives
pub returns-in-Some : goal.returns-in-Some
unfolding own_attest sent_to
returns-in-Some g c = λ scope v m.
    c.payload_in.ensures
    ∙ ap (λ sent. payload_in c.args.k sent c.get.result)
    (c.sent.ensures.payloads scope.rules c.args.p (v.logs c.args.p) (replica_stands scope _ v m c.args.p _ c.in-Some.ensures.some))
    ∙ ap (λ range. payload_in c.args.k (sent_to scope v c.args.p c.args.h) range)
    (c.get.ensures ∙ m.links c.args.p c.args.h c.requires.sender c.requires.host)

-- no replica, no log, nothing sent
pub returns-in-None : goal.returns-in-None
unfolding own_attest sent_to
returns-in-None g c = λ scope v m.
    none_sent c.args.k (v.attested c.args.p c.args.h)
    ∙ ap (λ log. payload_in c.args.k ((alone scope.rules c.args.p log).sent c.args.p c.args.h) (v.attested c.args.p c.args.h))
    (sym (no_log scope _ v m c.args.p c.requires.sender c.in-None.ensures.none))

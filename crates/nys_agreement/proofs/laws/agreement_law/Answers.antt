-- What honest parties agree on, at the protocol's rules.
use Rattle.nys_agreement.proofs.Agreement.{agrees, decides_near, delivers_one, hands_over, says_once}
use Rattle.nys_agreement.proofs.laws.agreement_law.Goals as goal

pub returns-clause-agree : goal.returns-clause-agree
returns-clause-agree g c = agrees (g.P.Protocol.rules c.args.protocol.now)

pub returns-clause-once : goal.returns-clause-once
returns-clause-once g c = says_once (g.P.Protocol.rules c.args.protocol.now)

pub returns-clause-one_content : goal.returns-clause-one_content
returns-clause-one_content g c = delivers_one (g.P.Protocol.rules c.args.protocol.now)

pub returns-clause-hand_over : goal.returns-clause-hand_over
returns-clause-hand_over g c = hands_over (g.P.Protocol.rules c.args.protocol.now)

pub returns-clause-near : goal.returns-clause-near
returns-clause-near g c = decides_near (g.P.Protocol.rules c.args.protocol.now)

-- The law, at any scope; what a protocol may do is a law of its trait.
use Rattle.nys_outcomes.proofs.SettleLemmas.{settle_always}
use Rattle.nys_outcomes.proofs.laws.settling_law.Goals as goal

pub returns-clause-few : goal.returns-clause-few
returns-clause-few g c = λ h s from payload low. (g.met.P.Protocol.effects c.args.protocol.now h s from payload low).few

pub returns-clause-always : goal.returns-clause-always
returns-clause-always g c = λ scope few. settle_always scope few

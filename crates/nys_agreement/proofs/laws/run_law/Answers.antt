-- What the logs have to do with a run, at the protocol's rules.
use Rattle.nys_agreement.proofs.Homes.{have_homes}
use Rattle.nys_agreement.proofs.Spelling.{receives, spells, takes_inputs}
use Rattle.nys_agreement.proofs.laws.run_law.Goals as goal

pub returns-clause-sent : goal.returns-clause-sent
returns-clause-sent g c = receives (g.P.Protocol.rules c.args.protocol.now)

pub returns-clause-spell : goal.returns-clause-spell
returns-clause-spell g c = spells (g.P.Protocol.rules c.args.protocol.now)

pub returns-clause-inputs : goal.returns-clause-inputs
returns-clause-inputs g c = takes_inputs (g.P.Protocol.rules c.args.protocol.now)

pub returns-clause-homes : goal.returns-clause-homes
returns-clause-homes g c = have_homes (g.P.Protocol.rules c.args.protocol.now)

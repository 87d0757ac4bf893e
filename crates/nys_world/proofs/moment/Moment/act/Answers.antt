use Rattle.nys_world.proofs.moment.Moment.act.Goals as goal

-- an input
pub returns-in-Input : goal.returns-in-Input
returns-in-Input g c = rw c.in-Input.is c.input.ensures

-- one packet
pub returns-in-Deliver : goal.returns-in-Deliver
returns-in-Deliver g c = rw c.in-Deliver.is c.deliver.ensures

-- packets that were never given
pub returns-in-Flush : goal.returns-in-Flush
returns-in-Flush g c = rw c.in-Flush.is c.flush.ensures

-- packets between honest parties
pub returns-in-Exchange : goal.returns-in-Exchange
returns-in-Exchange g c = rw c.in-Exchange.is c.exchange.ensures

-- questions
pub returns-in-Ask : goal.returns-in-Ask
returns-in-Ask g c = rw c.in-Ask.is c.ask.ensures

-- bytes that nobody sent
pub returns-in-Bytes : goal.returns-in-Bytes
returns-in-Bytes g c = rw c.in-Bytes.is c.give_bytes.ensures

-- what a liar says
pub returns-in-Say : goal.returns-in-Say
returns-in-Say g c = rw c.in-Say.is c.say.ensures

-- what a liar bundles
pub returns-in-Bundle : goal.returns-in-Bundle
returns-in-Bundle g c = rw c.in-Bundle.is c.bundle.ensures

-- what a stranger says
pub returns-in-Steal : goal.returns-in-Steal
returns-in-Steal g c = rw c.in-Steal.is c.say-in-Steal.ensures

-- the end of an epoch
pub returns-in-Wedge : goal.returns-in-Wedge
returns-in-Wedge g c = rw c.in-Wedge.is c.wedge.ensures

-- a decision
pub returns-in-Decide : goal.returns-in-Decide
returns-in-Decide g c = rw c.in-Decide.is c.decide.ensures

-- a retirement
pub returns-in-Retire : goal.returns-in-Retire
returns-in-Retire g c = rw c.in-Retire.is c.retire.ensures

-- the next epoch
pub returns-in-Open : goal.returns-in-Open
returns-in-Open g c = rw c.in-Open.is c.open.ensures

-- What `verify` finds, at the protocol's rules.
use Rattle.nys_source_commands.proofs.JudgeLemmas.{judges_runs, names_first}
use Rattle.nys_source_commands.proofs.PrintedLemmas.{reads_back, verifies_printed}
use Rattle.nys_source_commands.proofs.laws.verify_law.Goals as goal

pub returns-clause-exact : goal.returns-clause-exact
returns-clause-exact g c = judges_runs (g.P.Protocol.rules c.args.protocol.now)

pub returns-clause-first : goal.returns-clause-first
returns-clause-first g c = names_first (g.P.Protocol.rules c.args.protocol.now)

pub returns-clause-read : goal.returns-clause-read
returns-clause-read g c = reads_back (g.P.Protocol.rules c.args.protocol.now)

pub returns-clause-printed : goal.returns-clause-printed
returns-clause-printed g c = verifies_printed (g.P.Protocol.rules c.args.protocol.now)

-- Statements that pass are one, and only those.
use Rattle.nys_rules.proofs.SameLemmas.{decide_statements}
use Rattle.nys_rules.proofs.laws.sameness_law.Goals as goal

pub returns : goal.returns
returns c = decide_statements

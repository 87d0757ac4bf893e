-- The two laws, as they stand.
use Rattle.nys_votes.proofs.ContentLemmas.{decide_contents, decide_payloads}
use Rattle.nys_votes.proofs.laws.contents_law.Goals as goal

pub returns-clause-payloads : goal.returns-clause-payloads
returns-clause-payloads c = decide_payloads

pub returns-clause-contents : goal.returns-clause-contents
returns-clause-contents c = decide_contents

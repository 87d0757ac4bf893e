use Rattle.std.proofs.lemmas.Bool.Decides.{same_from_decides}
use Rattle.nys_votes.proofs.ContentLemmas.{decide_payloads}
use Rattle.nys_node.proofs.heads.same_payload.Goals as goal

-- both tests decide whether the payloads are equal
pub returns : goal.returns
returns c = same_from_decides _ _ c.equals.ensures (decide_payloads _ _)

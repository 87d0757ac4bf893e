-- Both tests decide whether the payloads are equal.
use Rattle.std.proofs.lemmas.Bool.Decides.{same_from_decides}
use Rattle.nys_votes.proofs.ContentLemmas.{decide_payloads}
use Rattle.nys_attest.proofs.kept.is_same.Goals as goal

pub returns : goal.returns
returns c = same_from_decides _ _ c.equals.ensures (decide_payloads _ _)

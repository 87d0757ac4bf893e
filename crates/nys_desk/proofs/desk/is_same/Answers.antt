-- Both tests decide whether the contents are equal.
use Rattle.std.proofs.lemmas.Bool.Decides.{same_from_decides}
use Rattle.nys_votes.proofs.ContentLemmas.{decide_contents}
use Rattle.nys_desk.proofs.desk.is_same.Goals as goal

pub returns : goal.returns
returns c = same_from_decides _ _ c.equals.ensures (decide_contents _ _)

use Rattle.std.proofs.lemmas.Bool.Decides.{same_from_decides}
use Rattle.nys_votes.proofs.ContentLemmas.{decide_contents}
use Rattle.nys_olympus.proofs.kept.FirstReport.is_for.Goals as goal

-- both tests decide whether the contents are equal
pub returns : goal.returns
returns c = rw (← c.self.view_is) (same_from_decides _ _ c.equals.ensures (decide_contents _ _))

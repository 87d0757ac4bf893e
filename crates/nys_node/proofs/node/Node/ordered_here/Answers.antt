use Rattle.std.proofs.Common.{sym, ◌∙◌}
use Rattle.nys_node.proofs.Options.{only_failed, only_passed}
use Rattle.nys_node.proofs.node.Node.ordered_here.Goals as goal

-- it has a quorum
pub returns-then-is_certified : goal.returns-then-is_certified
returns-then-is_certified g c = λ v m. only_passed _ _ _ (sym (c.is_certified.ensures v m) ∙ c.if-is_certified.true) (c.said.ensures _ v m)

-- it has none
pub returns-else-is_certified : goal.returns-else-is_certified
returns-else-is_certified g c = λ v m. only_failed _ _ (sym (c.is_certified.ensures v m) ∙ c.if-is_certified.false)

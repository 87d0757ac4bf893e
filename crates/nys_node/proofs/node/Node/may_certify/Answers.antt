use Rattle.std.proofs.Common.{sym, ◌∙◌}
use Rattle.nys_node.proofs.Options.{and_passed}
use Rattle.nys_node.proofs.node.Node.may_certify.Goals as goal

-- the node is the host's and active, and has a quorum
pub returns-then-is_certified : goal.returns-then-is_certified
returns-then-is_certified g c = λ v m. and_passed _ _ _ (sym (c.is_own_active.ensures _ v m) ∙ c.if-is_own_active.true)
    (and_passed _ _ _ (sym (c.is_certified.ensures v m) ∙ c.if-is_certified.true) (c.has_more_makers.ensures _ v m))

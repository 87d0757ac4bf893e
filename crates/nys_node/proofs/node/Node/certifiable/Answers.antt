use Rattle.std.proofs.Common.{sym, ◌∙◌}
use Rattle.nys_node.proofs.Options.{only_failed, only_passed}
use Rattle.nys_rules.specs.Rules.{to_certify}
use Rattle.nys_node.proofs.node.Node.certifiable.Goals as goal

-- it may
pub returns-then-may_certify : goal.returns-then-may_certify
unfolding to_certify
returns-then-may_certify g c = λ v m. only_passed _ _ _ (sym (c.may_certify.ensures v m) ∙ c.if-may_certify.true) (c.said.ensures _ v m)

-- it may not
pub returns-else-may_certify : goal.returns-else-may_certify
unfolding to_certify
returns-else-may_certify g c = λ v m. only_failed _ _ (sym (c.may_certify.ensures v m) ∙ c.if-may_certify.false)

use Rattle.std.proofs.Common.{sym, ◌∙◌}
use Rattle.nys_node.proofs.Options.{and_both, and_both_failed, and_failed, not_told, only_failed, only_passed}
use Rattle.nys_rules.specs.Rules.{to_attest}
use Rattle.nys_node.proofs.node.Node.to_attest.Goals as goal

-- a wedged node attests nothing
pub returns-then-self : goal.returns-then-self
unfolding to_attest
returns-then-self g c = λ v m. only_failed _ _ (and_failed _ _ (not_told _ _ _ m.wedged c.if-self.true))

-- it attests the link
pub returns-then-is_attesting : goal.returns-then-is_attesting
unfolding to_attest
returns-then-is_attesting g c = λ v m. only_passed _ _ _
    (and_both _ _ (not_told _ _ _ m.wedged c.if-self.false) (sym (c.is_attesting.ensures v m) ∙ c.if-is_attesting.true))
    (c.next_unattested.ensures _ v m)

-- it doesn't
pub returns-else-is_attesting : goal.returns-else-is_attesting
unfolding to_attest
returns-else-is_attesting g c = λ v m. only_failed _ _
    (and_both_failed _ _ (sym (c.is_attesting.ensures v m) ∙ c.if-is_attesting.false))

use Rattle.std.proofs.Common.{sym, ◌∙◌}
use Rattle.nys_node.proofs.Options.{only_failed, only_passed}
use Rattle.nys_rules.specs.Rules.{to_order}
use Rattle.nys_node.proofs.node.Node.orderable.Goals as goal

-- it may
pub returns-then-may_say : goal.returns-then-may_say
unfolding to_order
returns-then-may_say g c = λ v m. only_passed _ _ _ (sym (c.may_say.ensures v m) ∙ c.if-may_say.true) (c.held_next.ensures v m)

-- it may not
pub returns-else-may_say : goal.returns-else-may_say
unfolding to_order
returns-else-may_say g c = λ v m. only_failed _ _ (sym (c.may_say.ensures v m) ∙ c.if-may_say.false)

use Rattle.std.proofs.Common.{sym, ◌∙◌}
use Rattle.nys_node.proofs.Options.{only_failed, only_passed}
use Rattle.nys_rules.specs.Rules.{to_log}
use Rattle.nys_node.proofs.node.Node.loggable.Goals as goal

-- the slot is open
pub returns-then-is_open : goal.returns-then-is_open
unfolding to_log
returns-then-is_open g c = λ v m. only_passed _ _ _ (sym (c.is_open.ensures _ v m) ∙ c.if-is_open.true) (c.delivered_next.ensures v m)

-- it isn't
pub returns-else-is_open : goal.returns-else-is_open
unfolding to_log
returns-else-is_open g c = λ v m. only_failed _ _ (sym (c.is_open.ensures _ v m) ∙ c.if-is_open.false)

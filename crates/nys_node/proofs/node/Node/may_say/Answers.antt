use Rattle.std.proofs.Common.{sym, ◌∙◌}
use Rattle.nys_node.proofs.Options.{and_passed}
use Rattle.nys_node.proofs.node.Node.may_say.Goals as goal

-- the slot is open
pub returns-then-is_open : goal.returns-then-is_open
returns-then-is_open g c = λ v m. and_passed _ _ _ (sym (c.is_open.ensures _ v m) ∙ c.if-is_open.true) (c.is_unsaid.ensures _ v m)

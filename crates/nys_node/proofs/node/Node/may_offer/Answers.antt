use Rattle.std.proofs.Common.{sym, ◌∙◌, eq-eqb}
use Rattle.nys_node.proofs.Options.{and_passed}
use Rattle.nys_node.proofs.node.Node.may_offer.Goals as goal

-- the node is the host's
pub returns-then-self-h : goal.returns-then-self-h
returns-then-self-h g c = λ v m. and_passed _ _ _ (eq-eqb v.me c.args.h (sym m.me ∙ c.if-self-h.true)) (c.may_say.ensures v m)

use Rattle.std.proofs.Common.{sym, ◌∙◌, eq-eqb}
use Rattle.std.proofs.lemmas.Bool.{ne_eqb}
use Rattle.nys_node.proofs.Options.{if_failed, if_passed}
use Rattle.nys_rules.specs.Rules.{ordered_content}
use Rattle.nys_node.proofs.node.Node.ordered_content.Goals as goal

-- the node is the host's
pub returns-then-self-h : goal.returns-then-self-h
unfolding ordered_content
returns-then-self-h g c = λ v m. if_passed _ _ _ _ (eq-eqb v.me c.args.h (sym m.me ∙ c.if-self-h.true)) (c.ordered_here.ensures v m)

-- it is another guard's
pub returns-else-self-h : goal.returns-else-self-h
unfolding ordered_content
returns-else-self-h g c = λ v m. if_failed _ _ _ _ (ne_eqb v.me c.args.h (λ e. c.if-self-h.false (m.me ∙ e))) (c.certified.ensures _ v m)

use Rattle.std.proofs.Common.{ap, sym, ◌∙◌}
use Rattle.std.specs.Prelude.{option_copied}
use Rattle.nys_node.proofs.Options.{passing_failed, passing_none, passing_there}
use Rattle.nys_node.proofs.node.Node.held_next.Goals as goal

-- the held offer may be ordered
pub returns-then-is_orderable : goal.returns-then-is_orderable
returns-then-is_orderable g c = λ v m. passing_there _ _ _ (ap option_copied (sym c.in-Some.is) ∙ c.held_offer.ensures _ v m)
    (sym (c.is_orderable.ensures v m) ∙ c.if-is_orderable.true)

-- it may not
pub returns-else-is_orderable : goal.returns-else-is_orderable
returns-else-is_orderable g c = λ v m. passing_failed _ _ _ (ap option_copied (sym c.in-Some.is) ∙ c.held_offer.ensures _ v m)
    (sym (c.is_orderable.ensures v m) ∙ c.if-is_orderable.false)

-- none is held
pub returns-in-None : goal.returns-in-None
returns-in-None g c = λ v m. passing_none _ _ (ap option_copied (sym c.in-None.is) ∙ c.held_offer.ensures _ v m)

use Rattle.std.proofs.Common.{ap, sym, ◌∙◌}
use Rattle.std.specs.Prelude.{option_copied}
use Rattle.nys_node.proofs.Options.{passing_failed, passing_none, passing_there}
use Rattle.nys_votes.specs.Delivered.{voted_by}
use Rattle.nys_node.proofs.node.Node.delivered_next.Goals as goal

-- the content fits
pub returns-then-fits : goal.returns-then-fits
returns-then-fits g c = λ v m. passing_there _ _ _ (ap option_copied (sym c.in-Some.is) ∙ c.voted_by.ensures _ v m
    ∙ ap (λ q. voted_by q (v.desks c.args.h).votes) (c.quorum.ensures v m))
    (sym (c.fits.ensures v m) ∙ c.if-fits.true)

-- it doesn't
pub returns-else-fits : goal.returns-else-fits
returns-else-fits g c = λ v m. passing_failed _ _ _ (ap option_copied (sym c.in-Some.is) ∙ c.voted_by.ensures _ v m
    ∙ ap (λ q. voted_by q (v.desks c.args.h).votes) (c.quorum.ensures v m))
    (sym (c.fits.ensures v m) ∙ c.if-fits.false)

-- no quorum voted for one
pub returns-in-None : goal.returns-in-None
returns-in-None g c = λ v m. passing_none _ _ (ap option_copied (sym c.in-None.is) ∙ c.voted_by.ensures _ v m
    ∙ ap (λ q. voted_by q (v.desks c.args.h).votes) (c.quorum.ensures v m))

use Rattle.std.proofs.Common.{◌∙◌, ap, sym}
use Rattle.nys_votes.specs.Delivered.{voters}
use Rattle.nys_votes.specs.Ordered.{makers_of}
use Rattle.nys_desk.specs.Seated.{seats_of}
use Rattle.nys_desk.proofs.desk.Desk.voters.Goals as goal

-- empty seats have no voter
pub returns-in-None : goal.returns-in-None
unfolding voters makers_of
returns-in-None c =
    c.new.ensures ∙ ap (λ votes. voters c.args.content.now (seats_of votes)) (sym c.in-None.is)
    ∙ ap (λ d. voters c.args.content.now d.votes) c.self.view_is

use Rattle.std.proofs.Common.{◌∙◌, ap, sym}
use Rattle.nys_votes.specs.Delivered.{voted_by}
use Rattle.nys_votes.specs.Seats.{lowest}
use Rattle.nys_desk.specs.Seated.{seats_of}
use Rattle.nys_desk.proofs.desk.Desk.voted_by.Goals as goal

-- by empty seats no content has votes
pub returns-in-None : goal.returns-in-None
unfolding voted_by lowest
returns-in-None c = ap (λ votes. voted_by c.args.n (seats_of votes)) (sym c.in-None.is) ∙ ap (λ d. voted_by c.args.n d.votes) c.self.view_is

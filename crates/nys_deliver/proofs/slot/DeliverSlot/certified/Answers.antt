-- What has more than half of the votes is found, and no other content has as many.
use Rattle.std.proofs.Common.{rules, ◌≡◌, length, ◌∙◌}
use Rattle.std.specs.Prelude.{option_copied}
use Rattle.nys_votes.specs.Delivered.{voted_by}
use Rattle.nys_votes.proofs.TallyLemmas.{counts_votes, votes_once}
use Rattle.nys_deliver.proofs.slot.DeliverSlot.certified.Goals as goal

pub returns-clause-only : goal.returns-clause-only
returns-clause-only c content enough =
    let seats = c.args.self.now.seats in
    let long : length seats ≡ 32 = search rules in
    let found : option_copied c.voted_by.result ≡ voted_by c.args.q seats = search rules in
    found ∙ votes_once content seats c.args.q long c.requires.half ((counts_votes content seats c.args.q long).0 enough)

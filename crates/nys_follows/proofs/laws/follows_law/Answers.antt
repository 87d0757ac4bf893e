-- The law, in any scenario.
use Rattle.nys_follows.proofs.FeedingRecords.{each_follows}
use Rattle.nys_follows.proofs.laws.follows_law.Goals as goal

pub returns : goal.returns
returns g c = record { follows = λ setting asked. each_follows setting asked }

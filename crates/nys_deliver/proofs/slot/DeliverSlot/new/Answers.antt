-- Empty seats count nothing.
use Rattle.std.proofs.Common.{ap, ◌∙◌}
use Rattle.nys_votes.specs.Seats.{count_all}
use Rattle.nys_deliver.proofs.VoteLemmas.{none_kept}
use Rattle.nys_deliver.proofs.slot.DeliverSlot.new.Goals as goal

pub invariant_of-result : goal.invariant_of-result
invariant_of-result c = ap (λ seats. count_all seats) c.in_ok-held.ensures ∙ none_kept

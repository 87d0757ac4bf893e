-- No votes are for nothing, and votes for a content are among all.
use Rattle.std.proofs.Common.{◌≡◌, ℕ, ◌+◌, ◌<◌, ◌≤◌, false, List, refl, arith, leb-true}
use Rattle.std.specs.Prelude.{Option, Some, None, nat_le, option_map}
use Rattle.nys_bytes.specs.declared.content.Content.{Content}
use Rattle.nys_deliver.specs.declared.slot.SlotOf.{SlotOf}
use Rattle.nys_deliver.specs.Votes.{AreAbout}
use Rattle.nys_votes.specs.declared.vote.Vote.{Vote}
use Rattle.nys_votes.specs.Contents.{same_content}
use Rattle.nys_votes.specs.Delivered.{voted_by, votes_for}
use Rattle.nys_votes.specs.Seats.{count_all, count_seats, lowest, no_seats}
use Rattle.nys_votes.proofs.SeatLemmas.{count_seats-apart, lowest-passes}

-- empty seats count nothing
pub none_kept : count_all {A = Vote} no_seats ≡ 0
unfolding count_seats
none_kept = refl

-- votes for one content are among all votes
votes_within : (content : Content) (votes : List (Option Vote)) → votes_for content votes ≤ count_all votes
unfolding votes_for
votes_within content votes =
    omega (
      arith,
      count_seats-apart (λ v. same_content content v.content) (λ _. false) votes (λ v yes no. absurd (cc)),
    )

-- where nothing says what the votes are for, none is for the content
pub none_voted : (about : Option SlotOf) (votes : List (Option Vote)) (content : Content) → AreAbout about votes → about ≡ None
    → votes_for content votes ≡ 0
none_voted None votes content none is = omega (arith, votes_within content votes, none)
none_voted (Some about) votes content none is = absurd (cc)

-- where fewer than n makers voted, no vote is found whose content has n
none_lowest : (n : ℕ) (votes : List (Option Vote)) → count_all votes < n → (found : Option Vote)
    → lowest (λ v. nat_le n (votes_for v.content votes)) votes ≡ found → None ≡ option_map (λ v. v.content) found
none_lowest n votes few None is = refl
none_lowest n votes few (Some v) is =
    let enough = leb-true n (votes_for v.content votes) (lowest-passes (λ v. nat_le n (votes_for v.content votes)) votes v is) in
    absurd (omega (arith, few, votes_within v.content votes, enough))

-- where fewer than n makers voted, no content has the votes of n
pub too_few : (n : ℕ) (votes : List (Option Vote)) → count_all votes < n → None ≡ voted_by n votes
unfolding voted_by
too_few n votes few = none_lowest n votes few (lowest (λ v. nat_le n (votes_for v.content votes)) votes) refl

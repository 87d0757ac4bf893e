-- Votes and attestations by maker.
use Rattle.std.proofs.Common.{◌≡◌, ℕ, ◌+◌, ◌*◌, ◌<◌, ◌≤◌, ℤ, Bool, true, false, List, length, refl, sym, ap, subst, ◌∙◌, arith, leb-true, le-leb, ltb-true, lt-ltb, inl, inr, ◌⊎◌}
use Rattle.std.specs.Prelude.{Option, Some, None, is_some, nat_le, nat_lt}
use Rattle.std.specs.Option.{option_map}
use Rattle.nys_bytes.specs.declared.content.Content.{Content}
use Rattle.nys_hosts.specs.Counts.{AtLeast, hosts_with}
use Rattle.nys_hosts.proofs.CountLemmas.{hosts_with-some}
use Rattle.nys_votes.specs.declared.vote.Vote.{Vote}
use Rattle.nys_votes.specs.Attested.{attested, attests_for}
use Rattle.nys_votes.specs.Contents.{same_content, same_payload}
use Rattle.nys_votes.specs.Delivered.{votes_for, voted_by}
use Rattle.nys_votes.specs.Meaning.{Attests, AttestsFound, AttestsStand, CountsAttests, CountsVotes, VotedFor, VotesFound, VotesOnce, VotesStand}
use Rattle.nys_votes.specs.Seats.{count_all, count_seats, lowest, seat_of}
use Rattle.nys_votes.proofs.ContentLemmas.{decide_contents, decide_payloads}
use Rattle.nys_votes.proofs.SeatLemmas.{count_seats-apart, counts_makers, holds-passes, lowest-found, lowest-passes, passes-holds}

-- the votes for a content are those of the makers that voted for it
pub counts_votes : CountsVotes
unfolding votes_for
counts_votes content votes n long =
    counts_makers (λ v. same_content content v.content) (VotedFor content votes) votes n long
    (λ m e.
    let vote = passes-holds (λ v. same_content content v.content) (seat_of votes m) e in
    (vote.0, vote.1, sym ((decide_contents content vote.0.content).0 vote.2)))
    (λ m voted.
    holds-passes (λ v. same_content content v.content) (seat_of votes m) voted.0 voted.1
    ((decide_contents content voted.0.content).1 (sym voted.2)))

-- the attestations of a payload are those of the makers that attest it
pub counts_attests : CountsAttests
unfolding attests_for
counts_attests payload seats n long =
    counts_makers (same_payload payload) (Attests payload seats) seats n long
    (λ m e.
    let kept = passes-holds (same_payload payload) (seat_of seats m) e in
    kept.1 ∙ ap (λ x. Some x) (sym ((decide_payloads payload kept.0).0 kept.2)))
    (λ m is. holds-passes (same_payload payload) (seat_of seats m) payload is ((decide_payloads payload payload).1 refl))

-- what a map gives comes of something
map_some : {A B : Type 0} (f : A → B) (o : Option A) (y : B) → option_map f o ≡ Some y → (x : A) × (o ≡ Some x) × (f x ≡ y)
map_some f None y e = absurd (cc)
map_some f (Some x) y e = (x, refl, cc)

-- a map gives something of something
map_is_some : {A B : Type 0} (f : A → B) (o : Option A) → is_some o ≡ true → is_some (option_map f o) ≡ true
map_is_some f None e = absurd (cc)
map_is_some f (Some x) e = refl

-- what is there is something
the_some : {A : Type 0} (o : Option A) → is_some o ≡ true → (x : A) × (o ≡ Some x)
the_some None e = absurd (cc)
the_some (Some x) e = (x, refl)

-- the test of what was found tells how many voted for it
pub votes_stand : VotesStand
unfolding voted_by
votes_stand content votes n long e =
    let found = map_some (λ (v : Vote). v.content) (lowest (λ v. nat_le n (votes_for v.content votes)) votes) content e in
    let enough = lowest-passes (λ v. nat_le n (votes_for v.content votes)) votes found.0 found.1 in
    subst (λ c. AtLeast n (VotedFor c votes)) found.2
    ((counts_votes found.0.content votes n long).0 (leb-true n (votes_for found.0.content votes) enough))

-- one of the makers has a vote that passes
pub votes_found : VotesFound
unfolding voted_by
votes_found content votes n long some_makers makers =
    let one = hosts_with-some makers.makers (omega (arith, some_makers, makers.enough)) in
    let voted = makers.each one.0 one.2 in
    let enough = le-leb n (votes_for content votes) ((counts_votes content votes n long).1 makers) in
    map_is_some (λ (v : Vote). v.content) (lowest (λ v. nat_le n (votes_for v.content votes)) votes)
    (lowest-found (λ v. nat_le n (votes_for v.content votes)) votes one.0 voted.0 voted.1
    (ap (λ c. nat_le n (votes_for c votes)) voted.2 ∙ enough))

-- votes for two contents are within all that are kept
votes_apart : (a b : Content) (votes : List (Option Vote)) → same_content a b ≡ false → votes_for a votes + votes_for b votes ≤ count_all votes
unfolding votes_for
votes_apart a b votes differ =
    count_seats-apart (λ v. same_content a v.content) (λ v. same_content b v.content) votes
    (λ v first second.
    let e : a ≡ b = (decide_contents a v.content).0 first ∙ sym ((decide_contents b v.content).0 second) in
    let same : same_content a b ≡ true = (decide_contents a b).1 e in
    absurd (cc))

-- a content that isn't the one found has too few makers beside it
pub votes_once : VotesOnce
votes_once content votes n long half makers =
    let enough = (counts_votes content votes n long).1 makers in
    let found = the_some (voted_by n votes) (votes_found content votes n long (omega (arith, half)) makers) in
    let others = (counts_votes found.0 votes n long).1 (votes_stand found.0 votes n long found.1) in
    by found.0 found.1 others enough (same_content content found.0) refl
  where
    by : (other : Content) → voted_by n votes ≡ Some other → n ≤ votes_for other votes → n ≤ votes_for content votes
        → (b : Bool) → same_content content other ≡ b → voted_by n votes ≡ Some content
    by other is others enough true e = is ∙ ap (λ c. Some c) (sym ((decide_contents content other).0 e))
    by other is others enough false e = absurd (omega (arith, votes_apart content other votes e, half, others, enough))

-- the test of what was found tells how many attest it
pub attests_stand : AttestsStand
unfolding attested
attests_stand payload seats t long e =
    let enough = lowest-passes (λ x. nat_lt t (attests_for x seats)) seats payload e in
    (counts_attests payload seats (t + 1) long).0 (omega (arith, ltb-true t (attests_for payload seats) enough))

-- one of the makers attests a payload that passes
pub attests_found : AttestsFound
unfolding attested
attests_found payload seats t long makers =
    let one = hosts_with-some makers.makers (omega (arith, makers.enough)) in
    let enough = (counts_attests payload seats (t + 1) long).1 makers in
    lowest-found (λ x. nat_lt t (attests_for x seats)) seats one.0 payload (makers.each one.0 one.2)
    (lt-ltb t (attests_for payload seats) (omega (arith, enough)))

-- What the answers of the tallies mean, by "at least n different makers": the statements of the laws.
use Rattle.std.specs.Prelude.{◌≡◌, ℕ, ◌+◌, ◌*◌, ◌<◌, ◌≤◌, ◌↔◌, ℤ, Bool, true, List, length, Option, Some, is_some}
use Rattle.nys_hosts.specs.declared.limits.TheConstants.{MAX_HOSTS}
use Rattle.nys_bytes.specs.declared.content.Content.{Content}
use Rattle.nys_hosts.specs.Counts.{AtLeast}
use Rattle.nys_votes.specs.declared.vote.Vote.{Vote}
use Rattle.nys_votes.specs.Attested.{attested, attests_for}
use Rattle.nys_votes.specs.Delivered.{votes_for, voted_by}
use Rattle.nys_votes.specs.Seats.{count_all, count_seats, is_seated, seat_of}

-- something that passes the test is kept of the maker
abbrev pub Holds : {A : Type 0} → (A → Bool) → List (Option A) → ℕ → Type 0
Holds {A} test seats m = (x : A) × (seat_of seats m ≡ Some x) × (test x ≡ true)

-- the maker voted for the content
abbrev pub VotedFor : Content → List (Option Vote) → ℕ → Type 0
VotedFor content votes m = (v : Vote) × (seat_of votes m ≡ Some v) × (v.content ≡ content)

-- the maker attests the payload
abbrev pub Attests : List ℤ → List (Option (List ℤ)) → ℕ → Type 0
Attests payload seats m = seat_of seats m ≡ Some payload

-- a count of seats is one of different makers
abbrev pub CountsSeats : Type 0 → Type 0
CountsSeats A = (test : A → Bool) (seats : List (Option A)) (n : ℕ) → length seats ≡ MAX_HOSTS
    → (n ≤ count_seats test seats) ↔ AtLeast n (Holds test seats)

-- the makers that are kept are so many different ones
abbrev pub CountsKept : Type 0 → Type 0
CountsKept A = (seats : List (Option A)) (n : ℕ) → length seats ≡ MAX_HOSTS
    → (n ≤ count_all seats) ↔ AtLeast n (λ m. is_seated seats m ≡ true)

-- votes for a content are those of different makers
abbrev pub CountsVotes : Type 0
CountsVotes = (content : Content) (votes : List (Option Vote)) (n : ℕ) → length votes ≡ MAX_HOSTS
    → (n ≤ votes_for content votes) ↔ AtLeast n (VotedFor content votes)

-- what n makers or more voted for has n makers
abbrev pub VotesStand : Type 0
VotesStand = (content : Content) (votes : List (Option Vote)) (n : ℕ) → length votes ≡ MAX_HOSTS
    → voted_by n votes ≡ Some content → AtLeast n (VotedFor content votes)

-- where n makers voted for a content, n or more voted for some
abbrev pub VotesFound : Type 0
VotesFound = (content : Content) (votes : List (Option Vote)) (n : ℕ) → length votes ≡ MAX_HOSTS → 1 ≤ n
    → AtLeast n (VotedFor content votes) → is_some (voted_by n votes) ≡ true

-- where n is more than half of the makers kept, a content with n makers is the one that is found
abbrev pub VotesOnce : Type 0
VotesOnce = (content : Content) (votes : List (Option Vote)) (n : ℕ) → length votes ≡ MAX_HOSTS → count_all votes < 2 * n
    → AtLeast n (VotedFor content votes) → voted_by n votes ≡ Some content

-- attestations of a payload are those of different makers
abbrev pub CountsAttests : Type 0
CountsAttests = (payload : List ℤ) (seats : List (Option (List ℤ))) (n : ℕ) → length seats ≡ MAX_HOSTS
    → (n ≤ attests_for payload seats) ↔ AtLeast n (Attests payload seats)

-- what is attested has more makers than may lie
abbrev pub AttestsStand : Type 0
AttestsStand = (payload : List ℤ) (seats : List (Option (List ℤ))) (t : ℕ) → length seats ≡ MAX_HOSTS
    → attested t seats ≡ Some payload → AtLeast (t + 1) (Attests payload seats)

-- where more makers than may lie attest a payload, some payload is attested
abbrev pub AttestsFound : Type 0
AttestsFound = (payload : List ℤ) (seats : List (Option (List ℤ))) (t : ℕ) → length seats ≡ MAX_HOSTS
    → AtLeast (t + 1) (Attests payload seats) → is_some (attested t seats) ≡ true

-- The votes noted for one slot of a host in one epoch.
use Rattle.std.specs.Prelude.{◌≡◌, ℕ, ◌==◌, if◌then◌else◌, List, Option, Some, None, IfSome, option_map}
use Rattle.nys_bytes.specs.declared.content.Content.{Content}
use Rattle.nys_stmt.specs.declared.records.Record.{Record}
use Rattle.nys_stmt.specs.declared.statement.Body.{Body}
use Rattle.nys_stmt.specs.declared.statement.Body.TheVariants.{Filled, Attest, Ask, Wedge, Frozen, Open}
use Rattle.nys_stmt.specs.declared.statement.FilledKind.TheVariants.{Deliver}
use Rattle.nys_stmt.specs.declared.statement.Statement.{Statement}
use Rattle.nys_deliver.specs.declared.slot.SlotOf.{SlotOf}
use Rattle.nys_votes.specs.declared.vote.Vote.{Vote}
use Rattle.nys_votes.specs.Delivered.{voters, votes_for}
use Rattle.nys_votes.specs.Seats.{count_all, with_seat}

-- votes to deliver
pub record Votes : Type 0 where
  -- what they are for, which the first of them says
  pub about : Option SlotOf
  -- the vote of each maker
  pub seats : List (Option Vote)

-- where nothing says what the votes are for, there are none
abbrev pub AreAbout : Option SlotOf → List (Option Vote) → Type 0
AreAbout None seats = count_all seats ≡ 0
AreAbout (Some about) seats = Unit {0}

-- the statement is a vote for the slot that the votes are for
abbrev pub IsVoteFor : Votes → ℕ → Body → Type 0
IsVoteFor votes epoch (Filled kind h slot content) =
    (kind ≡ Deliver) × IfSome votes.about (λ of. of ≡ record { epoch = epoch; h = h; slot = slot })
IsVoteFor votes epoch (Attest p h k payload) = ⊥
IsVoteFor votes epoch (Ask h slot) = ⊥
IsVoteFor votes epoch Wedge = ⊥
IsVoteFor votes epoch (Frozen h slot) = ⊥
IsVoteFor votes epoch (Open lengths) = ⊥

-- the first vote of each maker is kept, and says what the votes are for
abbrev pub noted_as : ℕ → List (ℕ × List ℕ) → SlotOf → Content → Votes → Votes
noted_as maker tags about content votes = record {
  about = Some about;
  seats = with_seat maker (record { content = content; tags = tags }) votes.seats;
}

-- the votes with that of a maker; what is no vote to deliver never comes
abbrev pub noted_of : ℕ → List (ℕ × List ℕ) → ℕ → Body → Votes → Votes
noted_of maker tags epoch (Filled kind h slot content) votes =
    noted_as maker tags (record { epoch = epoch; h = h; slot = slot }) content votes
noted_of maker tags epoch (Attest p h k payload) votes = votes
noted_of maker tags epoch (Ask h slot) votes = votes
noted_of maker tags epoch Wedge votes = votes
noted_of maker tags epoch (Frozen h slot) votes = votes
noted_of maker tags epoch (Open lengths) votes = votes

-- the vote to deliver a content in a slot
abbrev pub vote_at : Content → SlotOf → Statement
vote_at content about = record { epoch = about.epoch; body = Filled Deliver about.h about.slot content }

-- the record of a content: the vote with all makers that voted for it, where some did
unfoldable pub record_of : Content → Votes → Option Record
record_of content votes =
    if votes_for content votes.seats == 0
    then None
    else option_map (λ about. record { statement = vote_at content about; makers = voters content votes.seats }) votes.about

-- Votes to deliver a content in one slot, by maker.
use Rattle.std.specs.Prelude.{ℕ, ◌+◌, nat_le, if◌then◌else◌, List, map, Option, Some, None, option_map}
use Rattle.nys_bytes.specs.declared.content.Content.{Content}
use Rattle.nys_stmt.specs.declared.tags.Tags.{Tags}
use Rattle.nys_votes.specs.declared.vote.Vote.{Vote}
use Rattle.nys_votes.specs.Contents.{same_content}
use Rattle.nys_votes.specs.Ordered.{makers_of}
use Rattle.nys_votes.specs.Seats.{count_seats, lowest}

-- how many makers voted for the content
unfoldable pub votes_for : Content → List (Option Vote) → ℕ
votes_for content votes = count_seats (λ v. same_content content v.content) votes

-- of the contents for which at least n makers voted, that of the lowest maker
unfoldable pub voted_by : ℕ → List (Option Vote) → Option Content
voted_by n votes = option_map (λ v. v.content) (lowest (λ v. nat_le n (votes_for v.content votes)) votes)

-- the content for which a quorum voted
abbrev pub delivered : ℕ → List (Option Vote) → Option Content
delivered q votes = voted_by q votes

-- the content for which more makers voted than may lie
abbrev pub backed : ℕ → List (Option Vote) → Option Content
backed t votes = voted_by (t + 1) votes

-- the tags of a vote that is for the content
abbrev pub tags_for : Content → Option Vote → Option (List (ℕ × List ℕ))
tags_for content None = None
tags_for content (Some v) = if same_content content v.content then Some v.tags else None

-- the makers that voted for the content with their tags, rising
unfoldable pub voters : Content → List (Option Vote) → List Tags
voters content votes = makers_of (map (tags_for content) votes)

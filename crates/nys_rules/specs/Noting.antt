-- What a record that isn't dropped changes in a node's view, before the node goes on by its rules.
use Rattle.std.specs.Prelude.{ℕ, ◌+◌, ◌==◌, nat_le, nat_lt, Bool, true, false, ◌&&◌, if◌then◌else◌, ℤ, List, [], ◌∷◌, fold, length, slice_index_or, unwrap_or, Option, Some, None, is_none}
use Rattle.nys_bytes.specs.declared.content.Content.{Content}
use Rattle.nys_source.specs.Tables.{put, put_at}
use Rattle.nys_stmt.specs.declared.records.Record.{Record}
use Rattle.nys_stmt.specs.declared.statement.Body.{Body}
use Rattle.nys_stmt.specs.declared.statement.Body.TheVariants.{Filled, Attest, Wedge, Open}
use Rattle.nys_stmt.specs.declared.statement.FilledKind.TheVariants.{Offer, Order, Deliver, Inherit}
use Rattle.nys_stmt.specs.declared.tags.Tags.{Tags}
use Rattle.nys_votes.specs.Contents.{same_content}
use Rattle.nys_votes.specs.Ordered.{is_ordered}
use Rattle.nys_votes.specs.Seats.{with_seat}
use Rattle.nys_votes.specs.declared.vote.Vote.{Vote}
use Rattle.nys_rules.specs.Dropping.{accepted}
use Rattle.nys_rules.specs.Heads.{with_heads}
use Rattle.nys_rules.specs.Logging.{logged}
use Rattle.nys_rules.specs.Scope.{quorum_at, Scope}
use Rattle.nys_rules.specs.View.{Desk, entering, View}

-- the view in which the desk of a host is changed
abbrev pub at_desk : ℕ → (Desk → Desk) → View → View
at_desk h change v = record v { desks = put v.desks h (change (v.desks h)) }

-- an offer takes the place of the one that is held
unfoldable pub with_held : Content → Desk → Desk
with_held content desk = record desk { held = Some content }

-- the content is there and the same
abbrev pub is_content : Option Content → Content → Bool
is_content None content = false
is_content (Some other) content = same_content other content

-- the orders of makers stand beside those that are collected: the first of each maker counts
abbrev pub collected : List Tags → List (Option (List (ℕ × List ℕ))) → List (Option (List (ℕ × List ℕ)))
collected makers orders = fold (λ seats m. with_seat m.maker m.tags seats) orders makers

-- at the host itself: orders of its own offer are collected
unfoldable pub with_orders : Content → List Tags → Desk → Desk
with_orders content makers desk =
    if is_content desk.offered content then record desk { orders = collected makers desk.orders } else desk

-- how many guards the record shows to have ordered the content: its accepted makers, and the node
-- itself where it ordered it
abbrev pub orderers : Content → List Tags → Desk → ℕ
orderers content makers desk = length makers + (if is_content desk.ordered content then 1 else 0)

-- at another guard: the record is counted by itself, and the first that has a quorum is kept
unfoldable pub with_certificate : (quorum : ℕ) → Content → List Tags → Desk → Desk
with_certificate q content makers desk =
    if is_ordered q (orderers content makers desk) && is_none desk.certified
    then record desk { certified = Some content } else desk

-- votes of makers stand beside those that are kept: the first of each maker counts
abbrev pub voted : Content → List Tags → List (Option Vote) → List (Option Vote)
voted content makers votes = fold (λ seats m. with_seat m.maker (record { content = content; tags = m.tags }) seats) votes makers

-- the Deliver votes of makers
unfoldable pub with_votes : Content → List Tags → Desk → Desk
with_votes content makers desk = record desk { votes = voted content makers desk.votes }

-- what makers attest for a number stands beside what is heard: the first of each maker counts
abbrev pub hearing : List ℤ → List Tags → List (Option (List ℤ)) → List (Option (List ℤ))
hearing payload makers heard = fold (λ seats m. with_seat m.maker payload seats) heard makers

-- the view in which makers attest number k of p to h
unfoldable pub with_attests : (p h k : ℕ) → List ℤ → List Tags → View → View
with_attests p h k payload makers v =
    record v { heard = put v.heard p (put_at (v.heard p) h k (hearing payload makers (v.heard p h k))) }

-- the length at which the epoch begins the log of each host, by what Open has: 0 for a retired host
abbrev pub bases : List (Option ℕ) → ℕ → ℕ
bases lengths h = unwrap_or (slice_index_or lengths h None) 0

-- the hosts that Open gives no length
abbrev pub retirements : List (Option ℕ) → ℕ → Bool
retirements lengths h = is_none (slice_index_or lengths h (Some 0))

-- what an accepted record of the kind makes of the view
abbrev pub noted_body : {S : Type 0} → Scope S → (epoch : ℕ) → Body → List Tags → View → View
noted_body scope e (Filled Offer h slot content) makers v = at_desk h (with_held content) v
noted_body scope e (Filled Order h slot content) makers v =
    if v.me == h then at_desk h (with_orders content makers) v
    else at_desk h (with_certificate (quorum_at scope v.epoch h) content makers) v
noted_body scope e (Filled Deliver h slot content) makers v = at_desk h (with_votes content makers) v
noted_body scope e (Filled Inherit h slot content) makers v = logged scope h content v
noted_body scope e (Attest p h k payload) makers v = with_heads scope h (with_attests p h k payload makers v)
noted_body scope e Wedge makers v = record v { wedged = true }
noted_body scope e (Open lengths) makers v = entering scope e (bases lengths) (retirements lengths) v
noted_body scope e _ makers v = v

-- the view in which a record that isn't dropped is noted
unfoldable pub noted : {S : Type 0} → Scope S → View → Record → View
noted scope v r =
    noted_body scope r.statement.epoch r.statement.body (accepted scope r.statement.epoch v.me r) v

-- A log that grows by one content, by votes or by inheritance.
use Rattle.std.specs.Prelude.{ℕ, ◌+◌, ◌-◌, ◌==◌, nat_lt, Bool, true, false, ◌&&◌, if◌then◌else◌, ℤ, List, [], ◌∷◌, ◌++◌, drop, length, slice_get, slice_set, Option, Some, None}
use Rattle.nys_bytes.specs.declared.content.Content.{Content}
use Rattle.nys_bytes.specs.declared.content.Content.TheVariants.{External, Message}
use Rattle.nys_source.specs.Tables.{put}
use Rattle.nys_votes.specs.Contents.{same_payload}
use Rattle.nys_rules.specs.Heads.{is_same, with_heads}
use Rattle.nys_rules.specs.Scope.{Scope}
use Rattle.nys_rules.specs.View.{empty_desk, kept_at, length_of, next_number, View, with_links}

-- the content fits the log of h: an input, or a neighbour's message with the number that comes next
unfoldable pub fits : {S : Type 0} → Scope S → View → ℕ → Content → Bool
fits scope v h (External payload) = true
fits scope v h (Message p k payload) =
    nat_lt p scope.rules.hosts && (scope.rules.linked p h && k == next_number scope v p h)

-- the waiting inputs once the host's own log takes a content: the oldest leaves where it is that input
abbrev pub left_by : Content → List (List ℤ) → List (List ℤ)
left_by (External payload) waiting = if is_same (slice_get waiting 0) payload then drop 1 waiting else waiting
left_by (Message p k payload) waiting = waiting

-- the recorded heads once the log takes a content: a message is no head of its link any more
abbrev pub heads_after : Content → List (Option ℕ) → List (Option ℕ)
heads_after (External payload) heads = heads
heads_after (Message p k payload) heads = slice_set heads p None

-- the view in which the node keeps no entry below the base of a live host's log, once the log has reached it
abbrev pub forgetting : ℕ → View → View
forgetting h v = record v {
  kept_from = put v.kept_from h (kept_at true (v.base h) (v.kept_from h) (length_of v h));
}

-- the view in which the log of h has one content more and its desk is empty
abbrev pub with_entry : ℕ → Content → View → View
with_entry h content v = forgetting h (record v {
  logs = put v.logs h (v.logs h ++ content ∷ []);
  waiting = (if v.me == h then left_by content v.waiting else v.waiting);
  desks = put v.desks h empty_desk;
  heads = put v.heads h (heads_after content (v.heads h));
})

-- the view after the log of h took a content: links may begin, and the next messages become heads
unfoldable pub logged : {S : Type 0} → Scope S → ℕ → Content → View → View
logged scope h content v = with_heads scope h (with_links scope (with_entry h content v))

-- The numbers of each link that a node attested, as a table by receiver, then by sender.
use Rattle.std.specs.Prelude.{ℕ, List, [], slice_index_or, Option, None}
use Rattle.nys_rules.specs.declared.kept.Attested.{Attested}

-- what is kept of the link from p to h; past the table nothing
unfoldable pub link_at : List (List (Option Attested)) → (p h : ℕ) → Option Attested
link_at table p h = slice_index_or (slice_index_or table h []) p None

-- The ring: each host is linked to the next, and the last to the first.
use Rattle.std.specs.Prelude.{ℕ, ◌+◌, Bool, if◌then◌else◌, List, map, nat_lt}
use Rattle.std.specs.List.{range_with_len}
use Rattle.nys_graph.specs.Links.{joined}

-- the link from a host to the next, or from the last to the first
abbrev pub link_from : ℕ → ℕ → ℕ × ℕ
link_from hosts h = if nat_lt (h + 1) hosts then (h, h + 1) else (h, 0)

-- the links of so many hosts
abbrev pub ring_links : ℕ → List (ℕ × ℕ)
ring_links hosts = map (link_from hosts) (range_with_len 0 hosts)

-- two hosts of the ring are linked
abbrev pub ring_linked : ℕ → ℕ → ℕ → Bool
ring_linked hosts a b = joined (ring_links hosts) a b

-- The protocol that finds routes: each host keeps for each destination the nearest way that it heard of.
use Rattle.std.specs.Prelude.{ℕ, ◌+◌, ◌==◌, ◌&&◌, nat_lt, nat_le, Bool, true, if◌then◌else◌, ℤ, pos, negsuc, List, [], ◌∷◌, ◌++◌, length, map, replicate, slice_index_or, slice_set, Option, Some, None}
use Rattle.std.specs.List.{list_all}
use Rattle.nys_hosts.specs.declared.limits.TheConstants.{MAX_HOSTS}
use Rattle.nys_source.specs.Rules.{Rules}
use Rattle.nys_source.specs.declared.effect.Effect.{Effect}
use Rattle.nys_route.specs.Sends.{sends_where, is_other}
use Rattle.nys_route.specs.declared.way.Way.{Way}
use Rattle.nys_route.specs.declared.way.TheConstants.{UNKNOWN, MAX_HEARD}

-- no way is known
abbrev pub no_way : Way
no_way = record { distance = UNKNOWN; hop = None }

-- what a host knows of destination d
abbrev pub way_to : List Way → ℕ → Way
way_to ways d = slice_index_or ways d no_way

-- the number that shows a hop, -1 where there is none
abbrev pub hop_number : Option ℕ → ℤ
hop_number None = negsuc 0
hop_number (Some p) = pos p

-- the numbers that show a state: all distances, then all hops
abbrev pub ways_view : List Way → List ℤ
ways_view ways = map (λ way. pos way.distance) ways ++ map (λ way. hop_number way.hop) ways

-- a hop is none or a host
abbrev pub is_hop : Option ℕ → Bool
is_hop None = true
is_hop (Some p) = nat_lt p MAX_HOSTS

-- a distance is 0 to 32, and a hop none or a host
abbrev pub is_way : Way → Bool
is_way way = nat_le way.distance UNKNOWN && is_hop way.hop

-- a state has such a way for each host
unfoldable pub are_ways : ℕ → List Way → Bool
are_ways hosts ways = (length ways == hosts) && list_all is_way ways

-- the number that a signed one is, where it is below a bound
abbrev pub below : ℕ → ℤ → Option ℕ
below bound (pos n) = if nat_lt n bound then Some n else None
below bound (negsuc n) = None

-- a destination and a distance, where both are there
abbrev pub both : Option ℕ → Option ℕ → Option (ℕ × ℕ)
both None x = None
both (Some d) None = None
both (Some d) (Some x) = Some (d, x)

-- what a payload tells: a destination and the sender's distance to it, 0 to 30, where it is two such numbers
abbrev pub news_of : ℕ → List ℤ → Option (ℕ × ℕ)
news_of hosts [] = None
news_of hosts (d ∷ []) = None
news_of hosts (d ∷ x ∷ []) = both (below hosts d) (below MAX_HEARD x)
news_of hosts (d ∷ x ∷ y ∷ more) = None

-- the payload that tells of a distance to a destination
abbrev pub news : ℕ → ℕ → List ℤ
news d x = pos d ∷ pos x ∷ []

-- the distance to d becomes x
abbrev pub with_distance : List Way → ℕ → ℕ → List Way
with_distance ways d x = slice_set ways d (record { distance = x; hop = (way_to ways d).hop })

-- nothing changes
abbrev pub unchanged : List Way → List Way × List Effect
unchanged ways = (ways, [])

-- a state in which the distance to d is x, which is told to the neighbours but the sender, rising
abbrev pub told : ℕ → (ℕ → ℕ → Bool) → ℕ → Option ℕ → List Way → ℕ → ℕ → List Way × List Effect
told hosts linked h from ways d x = (ways, sends_where hosts (is_other linked h from) (news d x))

-- on an input where a host has no distance to itself, that becomes 0, and its neighbours are told, rising
abbrev pub begun : ℕ → (ℕ → ℕ → Bool) → ℕ → List Way → List Way × List Effect
begun hosts linked h ways =
    if (way_to ways h).distance == UNKNOWN
    then told hosts linked h None (with_distance ways h 0) h 0
    else unchanged ways

-- where p told of a nearer way to d, that is kept with p for its hop, and the other neighbours are told,
-- rising
abbrev pub heard_of : ℕ → (ℕ → ℕ → Bool) → ℕ → List Way → ℕ → ℕ → ℕ → List Way × List Effect
heard_of hosts linked h ways p d x =
    if nat_lt (x + 1) (way_to ways d).distance
    then told hosts linked h (Some p) (slice_set ways d (record { distance = x + 1; hop = Some p })) d (x + 1)
    else unchanged ways

-- what a host does with the news of host p; what is no news changes nothing
abbrev pub heard_from : ℕ → (ℕ → ℕ → Bool) → ℕ → List Way → ℕ → Option (ℕ × ℕ) → List Way × List Effect
heard_from hosts linked h ways p None = unchanged ways
heard_from hosts linked h ways p (Some told) = heard_of hosts linked h ways p told.0 told.1

-- so it is where p is a host
abbrev pub heard : ℕ → (ℕ → ℕ → Bool) → ℕ → List Way → ℕ → List ℤ → List Way × List Effect
heard hosts linked h ways p payload =
    if nat_lt p hosts then heard_from hosts linked h ways p (news_of hosts payload) else unchanged ways

-- what a host does with an input or a message
abbrev pub route_by : ℕ → (ℕ → ℕ → Bool) → ℕ → List Way → Option ℕ → List ℤ → List Way × List Effect
route_by hosts linked h ways None payload = begun hosts linked h ways
route_by hosts linked h ways (Some p) payload = heard hosts linked h ways p payload

-- what a host does with a payload
unfoldable pub route_next : ℕ → (ℕ → ℕ → Bool) → ℕ → List Way → Option ℕ → List ℤ → List Way × List Effect
route_next hosts linked h ways from payload = route_by hosts linked h ways from payload

-- the rules of routes on a graph
abbrev pub route_rules : ℕ → (ℕ → ℕ → Bool) → Rules (List Way)
route_rules hosts linked = record {
  hosts = hosts;
  linked = linked;
  start = λ _. replicate hosts no_way;
  next = route_next hosts linked;
  view = ways_view;
}

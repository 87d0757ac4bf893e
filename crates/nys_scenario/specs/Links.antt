-- The links of a document, as a test of two hosts.
use Rattle.std.specs.Prelude.{ℕ, zero, suc, ◌&&◌, ◌||◌, Bool, false, List, [], length, codes, is_some, if◌then◌else◌, Option, Some, None, Result, Ok, Err, option_and_then}
use Rattle.toml.specs.Data.{Data, Items, no_items, item, Members, as_array, as_integer, get_member}
use Rattle.nys_graph.specs.Faults.{fault_at}
use Rattle.nys_graph.specs.Links.{joined}
use Rattle.nys_scenario.specs.Hosts.{host_in}
use Rattle.nys_scenario.specs.Values.{all_items, required, typed, values_after}
use Rattle.nys_scenario.specs.declared.fault.KeyKind.{KeyKind}
use Rattle.nys_scenario.specs.declared.fault.KeyKind.TheVariants.{Kind, Range}

-- the members of an array of two
abbrev pub two_of : Items → Option (Data × Data)
two_of no_items = None
two_of (item first no_items) = None
two_of (item first (item second no_items)) = Some (first, second)
two_of (item first (item second (item third rest))) = None

-- the two members that a value has
abbrev pub pair_in : Data → Option (Data × Data)
pair_in found = option_and_then two_of (as_array found)

-- both are integers
abbrev pub is_integer_pair : Option (Data × Data) → Bool
is_integer_pair None = false
is_integer_pair (Some pair) = is_some (as_integer pair.0) && is_some (as_integer pair.1)

-- each member is an array of two integers
abbrev pub are_pairs : Items → Bool
are_pairs found = all_items (λ value. is_integer_pair (pair_in value)) found

-- two hosts, where both are
abbrev pub both : Option ℕ → Option ℕ → Option (ℕ × ℕ)
both None second = None
both (Some first) None = None
both (Some first) (Some second) = Some (first, second)

-- the link that two members are
abbrev pub link_of : ℕ → Option (Data × Data) → Option (ℕ × ℕ)
link_of hosts None = None
link_of hosts (Some pair) = both (host_in hosts pair.0) (host_in hosts pair.1)

-- the link that a value is
abbrev pub link_in : ℕ → Data → Option (ℕ × ℕ)
link_in hosts found = link_of hosts (pair_in found)

-- a link of the first few is refused by the graph
unfoldable pub has_fault_before : ℕ → List (ℕ × ℕ) → ℕ → Bool
has_fault_before hosts links zero = false
has_fault_before hosts links (suc place) =
    has_fault_before hosts links place || is_some (fault_at hosts links place)

-- links of which the graph refuses none
abbrev pub graph_of : ℕ → List (ℕ × ℕ) → Result (ℕ → ℕ → Bool) KeyKind
graph_of hosts links = if has_fault_before hosts links (length links) then Err Range else Ok (joined links)

-- the graph of links between hosts
abbrev pub graph_from : ℕ → Option (List (ℕ × ℕ)) → Result (ℕ → ℕ → Bool) KeyKind
graph_from hosts None = Err Range
graph_from hosts (Some links) = graph_of hosts links

-- an array of links
abbrev pub links_listed : ℕ → Items → Result (ℕ → ℕ → Bool) KeyKind
links_listed hosts found =
    if are_pairs found then graph_from hosts (values_after (link_in hosts) (Some []) found) else Err Kind

-- the key `links`
unfoldable pub links_of : ℕ → Members → Result (ℕ → ℕ → Bool) KeyKind
links_of hosts table = required (λ found. typed (links_listed hosts) (as_array found))
    (get_member (codes "links") table)

-- The faults of a list of links, by the place of the link.
use Rattle.std.specs.Prelude.{◌≡◌, ℕ, ◌<◌, Bool, ◌||◌, ◌==◌, nat_le, if◌then◌else◌, List, slice_get, take, Option, Some, None, option_and_then}
use Rattle.nys_graph.specs.Links.{joined}
use Rattle.nys_graph.specs.declared.fault.GraphFault.{GraphFault}
use Rattle.nys_graph.specs.declared.fault.GraphFault.TheVariants.{OutOfRange, SelfLink, Doubled}

-- what is wrong with a link at a place, where some hosts are joined already
abbrev pub refusal_of : ℕ → (ℕ → ℕ → Bool) → ℕ → ℕ × ℕ → Option GraphFault
refusal_of hosts linked place link =
    if nat_le hosts link.0 || nat_le hosts link.1 then Some (OutOfRange place)
    else if link.0 == link.1 then Some (SelfLink place)
    else if linked link.0 link.1 then Some (Doubled place)
    else None

-- what is wrong with the link at a place of a list, after the links before it
abbrev pub fault_at : ℕ → List (ℕ × ℕ) → ℕ → Option GraphFault
fault_at hosts links place =
    option_and_then (refusal_of hosts (joined (take place links)) place) (slice_get links place)

-- the place that a fault names
abbrev pub place_of : GraphFault → ℕ
place_of (OutOfRange place) = place
place_of (SelfLink place) = place
place_of (Doubled place) = place

-- the list has this fault at the place that it names, and none before
pub record IsFirstFault (hosts : ℕ) (links : List (ℕ × ℕ)) (fault : GraphFault) : Type 0 where
  pub found : fault_at hosts links (place_of fault) ≡ Some fault
  pub first : (place : ℕ) → place < place_of fault → fault_at hosts links place ≡ None

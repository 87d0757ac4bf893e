-- Which events are inputs.
use Rattle.std.specs.Prelude.{ℕ, Bool, true, false, List, filter, length}
use Rattle.nys_rules.specs.Events.{Plain}
use Rattle.nys_rules.specs.Events.Plain.{Input}

-- an event hands an input to a host
abbrev pub is_input : Plain → Bool
is_input (Input h payload) = true
is_input _ = false

-- how many of the events are inputs
abbrev pub inputs_in : List Plain → ℕ
inputs_in events = length (filter is_input events)

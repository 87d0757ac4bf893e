use Rattle.std.proofs.Common.{◌≡◌, Some, [], drop}
use Rattle.toml.specs.View.{items_view}
use Rattle.nys_scenario.specs.Links.{link_in}
use Rattle.nys_scenario.specs.Values.{values_after}
use Rattle.nys_scenario.proofs.links.links.Given as goal

-- the links so far and those that are left are those of the whole array
abbrev pub invariant-loop-value : goal.invariant-loop-value
invariant-loop-value l =
    values_after (link_in l.hosts) (Some l.links.items) (items_view (drop l.value-index l.array.items))
    ≡ values_after (link_in l.hosts) (Some []) (items_view l.array.items)

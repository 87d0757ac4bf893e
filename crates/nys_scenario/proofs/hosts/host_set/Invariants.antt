use Rattle.std.proofs.Common.{◌≡◌, Some, drop}
use Rattle.toml.specs.View.{items_view}
use Rattle.nys_hosts.specs.Sets.{has}
use Rattle.nys_scenario.specs.Hosts.{hosts_after, nobody}
use Rattle.nys_scenario.proofs.hosts.host_set.Given as goal

-- the hosts so far and those that are left are those of the whole array
abbrev pub invariant-loop-value : goal.invariant-loop-value
invariant-loop-value l =
    hosts_after l.hosts (Some (has l.set)) (items_view (drop l.value-index l.array.items))
    ≡ hosts_after l.hosts (Some nobody) (items_view l.array.items)

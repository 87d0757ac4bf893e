-- at the end no member is left
use Rattle.std.proofs.Common.{◌≡◌, ◌∙◌, Some, [], ap, drop, sym, arith}
use Rattle.std.proofs.Math.ListN.{drop_of_length-le}
use Rattle.toml.specs.View.{items_view}
use Rattle.nys_hosts.specs.Sets.{has}
use Rattle.nys_scenario.specs.Hosts.{hosts_after}
use Rattle.nys_scenario.proofs.hosts.host_set.Goals as goal

pub returns : goal.returns
returns c =
    let none : drop c.loop-value.value-index c.args.array.now.items ≡ [] = drop_of_length-le c.args.array.now.items (omega arith) in
    sym (ap (λ vs. hosts_after c.args.hosts (Some (has c.loop-value.set)) (items_view vs)) none) ∙ c.loop-value.invariant

-- One link more is the next that the array lists.
use Rattle.std.proofs.Common.{◌∙◌, ◌<◌, ◌+◌, rules, Some, ap, length, drop}
use Rattle.toml.specs.View.{items_view}
use Rattle.nys_scenario.specs.Links.{link_in}
use Rattle.nys_scenario.specs.Values.{values_after}
use Rattle.nys_scenario.proofs.HostTables.{whole_more}
use Rattle.nys_scenario.proofs.links.links.Goals as goal

pub loop-value-preserved : goal.loop-value-preserved
loop-value-preserved c =
    let give = link_in c.args.hosts in
    let i = c.loop-value.value-index in
    let rest = items_view (drop (i + 1) c.args.array.now.items) in
    let inside : i < length c.args.array.now.items = search rules in
    ap (λ links. values_after give (Some links) rest) c.in_ok-push.ensures.items
    ∙ whole_more give c.loop-value.links.items c.args.array.now.items i c.value-item.result c.in-Some.link _ inside
    (search rules) c.in-Some.ensures c.loop-value.invariant

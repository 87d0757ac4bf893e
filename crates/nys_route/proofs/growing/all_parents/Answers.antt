-- One host more is as in one round more, and the others stay.
use Rattle.std.proofs.Common.{rules, ◌<◌, ◌∙◌, length, arith}
use Rattle.std.proofs.lemmas.List.{length-set}
use Rattle.nys_graph.specs.Links.{linked_in}
use Rattle.nys_route.proofs.GrowthLemmas.{parents_more, parents_rest}
use Rattle.nys_route.proofs.growing.all_parents.Goals as goal

pub loop-h-preserved : goal.loop-h-preserved
loop-h-preserved c =
    let long = c.loop-h.invariant.long in
    let few = c.hosts-h-end.ensures.shape.few in
    let host : c.loop-h.h < c.args.graph.now.hosts = search rules in
    let inside : c.loop-h.h < length c.loop-h.after = omega (arith, long, few, host) in
    record {
      long = length-set c.loop-h.after c.loop-h.h c.parent.result ∙ long;
      done = parents_more c.args.graph.now.hosts (linked_in c.args.graph.now.rows) c.args.before.now c.loop-h.after c.loop-h.h c.parent.result
          inside c.loop-h.invariant.done c.parent.ensures;
      rest = parents_rest c.args.before.now c.loop-h.after c.loop-h.h c.parent.result c.loop-h.invariant.rest;
    }

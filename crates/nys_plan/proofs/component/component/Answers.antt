-- Each round adds hosts that are reached; where none is added, the set has all that they reach.
use Rattle.std.proofs.Common.{arith}
use Rattle.nys_hosts.specs.Sets.{has}
use Rattle.nys_hosts.proofs.CountLemmas.{hosts_with-le}
use Rattle.nys_graph.specs.Links.{linked_in}
use Rattle.nys_plan.proofs.WalkLemmas.{closed_reaches, spread_closed, spread_keeps, spread_sound}
use Rattle.nys_plan.proofs.component.component.Goals as goal

pub loop-reached-smaller : goal.loop-reached-smaller
loop-reached-smaller c =
    omega (
      arith,
      c.count.ensures.hosts,
      c.count-in-loop-reached.ensures.hosts,
      c.loop-reached-test.true,
      hosts_with-le (has c.loop-reached.wider),
      hosts_with-le (has c.loop-reached.reached),
    )

pub loop-reached-preserved : goal.loop-reached-preserved
loop-reached-preserved c =
    let hosts = c.args.graph.now.hosts in
    let linked = linked_in c.args.graph.now.rows in
    record {
      start = spread_keeps hosts linked (has c.loop-reached.reached)
          (has c.loop-reached.wider) c.loop-reached.invariant.spread
          c.args.h c.loop-reached.invariant.start;
      sound = spread_sound hosts linked (has c.loop-reached.reached)
          (has c.loop-reached.wider) c.args.h c.args.graph.now.shape
          c.loop-reached.invariant.spread c.loop-reached.invariant.sound;
      spread = c.spread-wider-in-loop-reached.ensures;
    }

pub returns : goal.returns
returns c g =
    let linked = linked_in c.args.graph.now.rows in (
      c.loop-reached.invariant.sound g,
      λ r. closed_reaches linked (has c.loop-reached.reached)
          (spread_closed c.args.graph.now.hosts linked (has c.loop-reached.reached)
          (has c.loop-reached.wider) c.args.graph.now.shape
          c.loop-reached.invariant.spread
          (omega (
            arith,
            c.count.ensures.hosts,
            c.count-in-loop-reached.ensures.hosts,
            c.loop-reached-test.false,
          )))
          c.args.h c.loop-reached.invariant.start r.links g r.walk,
    )

use Rattle.std.proofs.Common.{◌≤◌, ◌+◌, length}
use Rattle.std.specs.Prelude.{All}
use Rattle.std.specs.Vec.Iter.{into_iter_items}
use Rattle.nys_hosts.specs.Sets.{has}
use Rattle.nys_rules.specs.Asked.{IsEvent}
use Rattle.nys_rules.specs.Events.{plain}
use Rattle.nys_rules.specs.World.{World}
use Rattle.nys_world.specs.Shows.{ShowsOn}
use Rattle.nys_world.proofs.EventRuns.{GoesOn}
use Rattle.nys_world.proofs.moment.Moment.run_all.Given as goal

-- the events that are left may happen, and they do what all of them do from the beginning
abbrev pub invariant-loop-event : goal.invariant-loop-event
invariant-loop-event g l = let rules = g.P.Protocol.rules l.stage.cx.protocol in let left = into_iter_items l.event-iterator in record {
  room : l.self.books.events + length left ≤ 4294967295;
  events : All (λ event. IsEvent rules.hosts (has l.stage.liars) (plain event)) left;
  goes : (w : World) → ShowsOn rules l.stage l.fn.self w → GoesOn rules l.stage w l.fn.events.items left l.self;
}

-- the events that are left give from here what all of them give from the beginning
use Rattle.std.proofs.Common.{◌≡◌, ◌+◌, length, Ok}
use Rattle.std.specs.Vec.Iter.{into_iter_items}
use Rattle.nys_source_commands.specs.BareRun.{bare_run, run_from, Follows}
use Rattle.nys_source_commands.proofs.bare_run.bare_run.Given as goal

abbrev pub invariant-loop-event : goal.invariant-loop-event
invariant-loop-event g l = let rules = g.P.Protocol.rules l.fn.protocol in let left = into_iter_items l.event-iterator in record {
  protocol : l.bare.system.0 ≡ l.fn.protocol;
  follows : Follows rules l.bare.system.1 l.bare.run.items l.bare.numbers.items;
  events : run_from rules l.at (Ok l.bare.run.items) left ≡ bare_run rules l.fn.events.items;
  counted : l.at + length left ≡ length l.fn.events.items;
}

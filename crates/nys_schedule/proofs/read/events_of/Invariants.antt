use Rattle.std.proofs.Common.{◌≡◌, ◌++◌, map}
use Rattle.std.specs.Vec.Iter.{into_iter_items}
use Rattle.nys_rules.specs.Events.{plain}
use Rattle.nys_schedule.proofs.read.events_of.Given as goal

-- the events so far, and those of the lines that are left, are all of them
abbrev pub invariant-loop-said : goal.invariant-loop-said
invariant-loop-said l = map plain l.events.items ++ into_iter_items l.said-iterator ≡ l.fn.lines.items

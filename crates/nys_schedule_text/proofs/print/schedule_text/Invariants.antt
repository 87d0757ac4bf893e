-- the text so far and the lines that are left make the whole text
use Rattle.std.proofs.Common.{◌≡◌, ◌++◌, drop, map}
use Rattle.nys_rules.specs.Events.{plain}
use Rattle.nys_schedule_text.specs.EventLines.{event_lines}
use Rattle.nys_schedule_text.proofs.print.schedule_text.Given as goal

abbrev pub invariant-loop-event : goal.invariant-loop-event
invariant-loop-event l =
    l.out ++ event_lines (map plain (drop l.event-index l.events)) ≡ l.fn.out ++ event_lines (map plain l.events)

use Rattle.std.proofs.Common.{◌≡◌, drop}
use Rattle.nys_schedule.specs.Lists.{rise_from}
use Rattle.nys_schedule.proofs.list.rise_from.Given as goal

-- all rise exactly where those that are left do, from the last one on
abbrev pub invariant-loop-number : goal.invariant-loop-number
invariant-loop-number l = rise_from l.last (drop l.number-index l.numbers) ≡ rise_from l.below l.numbers

-- the text has the lines of the epochs so far
use Rattle.std.proofs.Common.{◌≡◌, flat_map}
use Rattle.std.specs.List.{range_with_len}
use Rattle.nys_guard_commands.specs.Checked.{good_line}
use Rattle.nys_guard_commands.proofs.checking.all_good.Given as goal

abbrev pub invariant-loop-e : goal.invariant-loop-e
invariant-loop-e l = l.text ≡ flat_map good_line (range_with_len 0 l.e)

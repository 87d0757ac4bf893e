-- no message of the link stands in the part that was passed
use Rattle.std.proofs.Common.{◌≡◌, ◌-◌}
use Rattle.nys_source_commands.specs.Numbers.{number_on_link}
use Rattle.nys_source_commands.proofs.numbering.next_number.Given as goal

abbrev pub invariant-loop-back : goal.invariant-loop-back
invariant-loop-back l = number_on_link l.messages l.at l.link ≡ number_on_link l.messages (l.at - l.back) l.link

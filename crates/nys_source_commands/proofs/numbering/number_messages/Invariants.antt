-- the messages so far have their numbers
use Rattle.nys_source_commands.specs.Numbers.{AreNumbers}
use Rattle.nys_source_commands.proofs.numbering.number_messages.Given as goal

abbrev pub invariant-loop-at : goal.invariant-loop-at
invariant-loop-at l = AreNumbers l.numbers.items l.messages l.at

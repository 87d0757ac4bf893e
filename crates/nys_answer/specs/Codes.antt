-- The statuses as numbers.
use Rattle.std.specs.Prelude.{ℕ}
use Rattle.nys_answer.specs.declared.status.Status.{Status}
use Rattle.nys_answer.specs.declared.status.Status.TheVariants.{Done, NotARun, Words, Scenario, Machine, Guards, Liars, Schedule, NoPacket, Forged, TooLarge, ReadFault, WriteFault, NoMemory, Clash}

-- the number with which the program ends
abbrev pub code_of : Status → ℕ
code_of Done = 0
code_of NotARun = 1
code_of Words = 2
code_of Scenario = 3
code_of Machine = 4
code_of Guards = 5
code_of Liars = 6
code_of Schedule = 7
code_of NoPacket = 8
code_of Forged = 9
code_of TooLarge = 10
code_of ReadFault = 11
code_of WriteFault = 12
code_of NoMemory = 14
code_of Clash = 15

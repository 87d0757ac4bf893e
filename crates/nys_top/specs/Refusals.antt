-- The lines of words, documents and machines that are refused, and those of faults of the outside.
use Rattle.std.specs.Prelude.{ℕ, ◌++◌, List, codes, decimal}
use Rattle.nys_answer.specs.declared.answer.Answer.{Answer}
use Rattle.nys_answer.specs.declared.status.Status.TheVariants.{Words, Scenario, Machine}
use Rattle.nys_answer.specs.Lines.{line_answer}
use Rattle.nys_lex.specs.declared.fault.MachineKind.{MachineKind}
use Rattle.nys_scenario.specs.declared.fault.KeyKind.{KeyKind}
use Rattle.nys_scenario.specs.Keys.{word_of}
use Rattle.nys_top.specs.Words.{machine_word}

-- the words are no command: the place of the first wrong one
abbrev pub words_refused : ℕ → Answer
words_refused place = line_answer Words (codes "words: " ++ decimal place)

-- a key of the document is at fault
abbrev pub key_refused : List ℕ → KeyKind → Answer
key_refused key kind = line_answer Scenario (codes "scenario: " ++ (key ++ (codes ": " ++ word_of kind)))

-- the text of the machine has its first fault at this line and column
abbrev pub machine_refused : ℕ → ℕ → MachineKind → Answer
machine_refused line col kind = line_answer Machine
    (codes "machine: line " ++ (decimal line ++ (codes " column " ++ (decimal col ++ (codes ": " ++ machine_word kind)))))

-- the input could not be read
abbrev pub read_fault : List ℕ
read_fault = codes "read fault\n"

-- there was no memory
abbrev pub no_memory : List ℕ
no_memory = codes "no memory\n"

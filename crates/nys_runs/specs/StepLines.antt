-- Run texts: what each line says, and what a whole text is read as.
use Rattle.std.specs.Prelude.{ℕ, ◌^◌, ◌<◌, ◌≤◌, ℤ, List, [], ◌∷◌, Option, None, Some, Result, Ok, Err, All, codes, length, if◌then◌else◌, FitsSigned}
use Rattle.std.specs.Int.{w64}
use Rattle.std.specs.Str.{bytes_eq}
use Rattle.nys_bytes.specs.declared.payload.TheConstants.{MAX_NUMBERS}
use Rattle.nys_text.specs.Numbers.{num_of, payload_of}
use Rattle.nys_text.specs.Reading.{reading, told}
use Rattle.nys_text.specs.declared.reader.TextFault.{TextFault}
use Rattle.nys_text.specs.declared.reader.TextFault.TheVariants as text
use Rattle.nys_source.specs.declared.step.Step.{Step}
use Rattle.nys_source.specs.declared.step.Step.TheVariants.{Input, Receive, Stop}
use Rattle.nys_runs.specs.declared.fault.NotALine.{NotALine}
use Rattle.nys_runs.specs.declared.fault.RunFault.{RunFault}
use Rattle.nys_runs.specs.declared.fault.RunFault.TheVariants as run
use Rattle.nys_runs.specs.declared.read.TheConstants.{MAX_STEPS}

-- a line that is none of the grammar
abbrev pub bad : Result Step NotALine
bad = Err (record {})

-- `H input PAYLOAD`, where there are a NUM and a PAYLOAD
abbrev pub input_of : Option ℕ → Option (List ℤ) → Result Step NotALine
input_of (Some h) (Some payload) = Ok (Input h payload)
input_of (Some h) None = bad
input_of None payload = bad

-- `H receive P K`, where there are three NUM
abbrev pub receive_of : Option ℕ → Option ℕ → Option ℕ → Result Step NotALine
receive_of (Some h) (Some p) (Some k) = Ok (Receive h p k)
receive_of (Some h) (Some p) None = bad
receive_of (Some h) None number = bad
receive_of None sender number = bad

-- `H stop`, where there is a NUM
abbrev pub stop_of : Option ℕ → Result Step NotALine
stop_of (Some h) = Ok (Stop h)
stop_of None = bad

-- what the words behind `input` say of a host
abbrev pub input_said : Option ℕ → List (List ℕ) → Result Step NotALine
input_said host words = input_of host (payload_of words)

-- what the words behind `receive` say of a host: two words are there
abbrev pub receive_said : Option ℕ → List (List ℕ) → Result Step NotALine
receive_said host [] = bad
receive_said host (sender ∷ []) = bad
receive_said host (sender ∷ number ∷ []) = receive_of host (num_of sender) (num_of number)
receive_said host (sender ∷ number ∷ other ∷ words) = bad

-- what the words behind `stop` say of a host: no word is there
abbrev pub stop_said : Option ℕ → List (List ℕ) → Result Step NotALine
stop_said host [] = stop_of host
stop_said host (word ∷ words) = bad

-- what the words of a line say
abbrev pub step_of : List (List ℕ) → Result Step NotALine
step_of [] = bad
step_of (host ∷ []) = bad
step_of (host ∷ keyword ∷ words) =
    if bytes_eq keyword (codes "input") then input_said (num_of host) words
    else if bytes_eq keyword (codes "receive") then receive_said (num_of host) words
    else if bytes_eq keyword (codes "stop") then stop_said (num_of host) words
    else bad

-- the fault of a text, as that of a run text
abbrev pub run_fault : TextFault NotALine → RunFault
run_fault (text.Line line kind) = run.Grammar line
run_fault text.TooMany = run.TooMany
run_fault text.NoMemory = run.NoMemory

-- the steps, or the fault of a run text
abbrev pub as_run : Result (List Step) (TextFault NotALine) → Result (List Step) RunFault
as_run (Ok steps) = Ok steps
as_run (Err fault) = Err (run_fault fault)

-- what a text is as a run text
unfoldable pub run_of : List ℕ → Result (List Step) RunFault
run_of bytes = as_run (reading step_of MAX_STEPS (told bytes))

-- the numbers of a step fit their types, as those of every step of a program do
abbrev pub FitsTypes : Step → Type 0
FitsTypes (Input h payload) =
    (h < 2 ^ 32) × (1 ≤ length payload) × (length payload ≤ MAX_NUMBERS) × All (λ z. FitsSigned w64 z) payload
FitsTypes (Receive h p k) = (h < 2 ^ 32) × (p < 2 ^ 32) × (k < 2 ^ 32)
FitsTypes (Stop h) = h < 2 ^ 32

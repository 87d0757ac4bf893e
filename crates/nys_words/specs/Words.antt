-- What the words of the command stand for: a request, or the place of the first wrong word.
use Rattle.std.specs.Prelude.{ℕ, ◌-◌, ◌^◌, ◌≤◌, Bool, false, ◌==◌, ◌&&◌, nat_le, List, [], ◌∷◌, Option, Some, None, Result, Ok, Err}
use Rattle.std.specs.Prelude.{◌≡◌, codes, decimal, if◌then◌else◌}
use Rattle.std.specs.List.{position_from}
use Rattle.std.specs.Str.{bytes_eq}
use Rattle.std.specs.Str.Parse.{digits_value}
use Rattle.nys_hosts.specs.declared.limits.TheConstants.{MAX_HOSTS}
use Rattle.nys_words.specs.declared.command.Command.{Command}
use Rattle.nys_words.specs.declared.command.Command.TheVariants.{Bare, Verify, Check, Plan, Replay, Trace}
use Rattle.nys_words.specs.declared.fault.WordsFault.{WordsFault}
use Rattle.nys_words.specs.declared.fault.WordsFault.TheVariants as fault
use Rattle.nys_words.specs.declared.request.Request.{Request}
use Rattle.nys_words.specs.declared.request.Request.TheVariants as ask
use Rattle.nys_words.specs.declared.request.TheConstants.{MAX_EVENTS, MIN_HOSTS}

-- the word begins with a dash (45)
abbrev pub is_dashed : List ℕ → Bool
is_dashed [] = false
is_dashed (first ∷ rest) = first == 45

-- the place of the first word that begins with a dash
abbrev pub first_dashed : List (List ℕ) → Option ℕ
first_dashed words = position_from is_dashed 0 words

-- the command on a document that a word names
abbrev pub command_of : List ℕ → Option Command
command_of word = if bytes_eq word (codes "bare") then Some Bare
    else (if bytes_eq word (codes "verify") then Some Verify
    else (if bytes_eq word (codes "check") then Some Check
    else (if bytes_eq word (codes "plan") then Some Plan
    else (if bytes_eq word (codes "replay") then Some Replay
    else (if bytes_eq word (codes "trace") then Some Trace else None)))))

-- the number that a word writes as it is printed, in digits with no zero before them, where it is between these
abbrev pub number_in : (low high : ℕ) → List ℕ → Option ℕ
number_in low high word =
    if bytes_eq (decimal (digits_value 10 word)) word
    && (nat_le low (digits_value 10 word) && nat_le (digits_value 10 word) high)
    then Some (digits_value 10 word) else None

-- no word stands behind the three numbers of a workload: the next is wrong
abbrev pub with_events : (seed hosts events : ℕ) → List (List ℕ) → Result Request ℕ
with_events seed hosts events [] = Ok (ask.Workload (record { seed = seed; hosts = hosts; events = events }))
with_events seed hosts events (extra ∷ rest) = Err 4

-- the third number may be wrong
abbrev pub at_events : (seed hosts : ℕ) → Option ℕ → List (List ℕ) → Result Request ℕ
at_events seed hosts None rest = Err 3
at_events seed hosts (Some events) rest = with_events seed hosts events rest

-- the third number is how many events there are; where no word stands there it is missing
abbrev pub with_hosts : (seed hosts : ℕ) → List (List ℕ) → Result Request ℕ
with_hosts seed hosts [] = Err 3
with_hosts seed hosts (word ∷ rest) = at_events seed hosts (number_in 0 MAX_EVENTS word) rest

-- the second number may be wrong
abbrev pub at_hosts : (seed : ℕ) → Option ℕ → List (List ℕ) → Result Request ℕ
at_hosts seed None rest = Err 2
at_hosts seed (Some hosts) rest = with_hosts seed hosts rest

-- the second number is how many hosts there are
abbrev pub with_seed : (seed : ℕ) → List (List ℕ) → Result Request ℕ
with_seed seed [] = Err 2
with_seed seed (word ∷ rest) = at_hosts seed (number_in MIN_HOSTS MAX_HOSTS word) rest

-- the first number may be wrong
abbrev pub at_seed : Option ℕ → List (List ℕ) → Result Request ℕ
at_seed None rest = Err 1
at_seed (Some seed) rest = with_seed seed rest

-- the workload that the words after `workload` ask for: the first number is the seed
abbrev pub workload_by : List (List ℕ) → Result Request ℕ
workload_by [] = Err 1
workload_by (word ∷ rest) = at_seed (number_in 0 (2 ^ 64 - 1) word) rest

-- a command on a document takes no values: the next word is wrong
abbrev pub alone : Command → List (List ℕ) → Result Request ℕ
alone command [] = Ok (ask.Document command)
alone command (extra ∷ rest) = Err 1

-- a first word that names no command is wrong
abbrev pub with_values : Option Command → List (List ℕ) → Result Request ℕ
with_values None values = Err 0
with_values (Some command) values = alone command values

-- the answer to a first word and those after it
abbrev pub answer_to_word : List ℕ → List (List ℕ) → Result Request ℕ
answer_to_word word values =
    if bytes_eq word (codes "workload") then workload_by values else with_values (command_of word) values

-- the answer to words of which none begins with a dash; where there are none, the first is missing
abbrev pub answer_to_plain : List (List ℕ) → Result Request ℕ
answer_to_plain [] = Err 0
answer_to_plain (word ∷ values) = answer_to_word word values

-- a dashed word is refused before all else
abbrev pub answer_after : Option ℕ → List (List ℕ) → Result Request ℕ
answer_after (Some place) words = Err place
answer_after None words = answer_to_plain words

-- the request of the words, or the place of the first wrong word
abbrev pub answer_to : List (List ℕ) → Result Request ℕ
answer_to words = answer_after (first_dashed words) words

-- the word of a command on a document
abbrev pub word_of : Command → List ℕ
word_of Bare = codes "bare"
word_of Verify = codes "verify"
word_of Check = codes "check"
word_of Plan = codes "plan"
word_of Replay = codes "replay"
word_of Trace = codes "trace"

-- the words of a request
abbrev pub words_of : Request → List (List ℕ)
words_of (ask.Document command) = word_of command ∷ []
words_of (ask.Workload w) =
    codes "workload" ∷ decimal w.seed ∷ decimal w.hosts ∷ decimal w.events ∷ []

-- the numbers of a workload are within their limits; a command on a document has none
abbrev pub IsWithin : Request → Type 0
IsWithin (ask.Document command) = Unit {0}
IsWithin (ask.Workload w) = (MIN_HOSTS ≤ w.hosts) × (w.hosts ≤ MAX_HOSTS) × (w.events ≤ MAX_EVENTS)

-- the fault is the refusal that the words ask for, or want of memory
abbrev pub IsFaultOf : Result Request ℕ → WordsFault → Type 0
IsFaultOf answer (fault.At place) = answer ≡ Err place
IsFaultOf answer fault.NoMemory = Unit {0}

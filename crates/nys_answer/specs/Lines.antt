-- Answers that are one line, and those that several commands give.
use Rattle.std.specs.Prelude.{ℕ, ◌++◌, List, codes, decimal}
use Rattle.nys_answer.specs.declared.answer.Answer.{Answer}
use Rattle.nys_answer.specs.declared.status.Status.{Status}
use Rattle.nys_answer.specs.declared.status.Status.TheVariants.{TooLarge}
use Rattle.nys_answer.specs.declared.limit.Limit.{Limit}
use Rattle.nys_answer.specs.declared.limit.Limit.TheVariants.{Input, Events, Packets, Bytes}

-- the line with its line feed, as the whole text
abbrev pub line_answer : Status → List ℕ → Answer
line_answer status line = record { status = status; text = line ++ codes "\n" }

-- what would pass its limit, as a word
abbrev pub limit_word : Limit → List ℕ
limit_word Input = codes "input"
limit_word Events = codes "events"
limit_word Packets = codes "packets"
limit_word Bytes = codes "bytes"

-- something would pass its limit, which is so many
abbrev pub too_large : Limit → ℕ → Answer
too_large limit most =
    line_answer TooLarge (codes "too large: " ++ (limit_word limit ++ (codes " " ++ decimal most)))

-- Refusals: answers with which a command ends, or want of memory.
use Rattle.std.specs.Prelude.{Result, Ok, Err}
use Rattle.nys_answer.specs.declared.answer.Answer.{Answer}
use Rattle.nys_bytes.specs.declared.fault.NoMemory.{NoMemory}
use Rattle.nys_guard_commands.specs.declared.refusal.Refusal.{Refusal}
use Rattle.nys_guard_commands.specs.declared.refusal.Refusal.TheVariants as refusal

-- the refusal is by an answer of which the claim holds, or for want of memory
abbrev pub Refuses : (Answer → Type 0) → Refusal → Type 0
Refuses claim (refusal.Answered answer) = claim answer
Refuses claim refusal.NoMemory = Unit {0}

-- the answer of a refusal
abbrev pub answer_of : Refusal → Result Answer NoMemory
answer_of (refusal.Answered answer) = Ok answer
answer_of refusal.NoMemory = Err (record {})

-- a refusal by an answer, where there was room for one
abbrev pub refusal_of : Result Answer NoMemory → Refusal
refusal_of (Ok answer) = refusal.Answered answer
refusal_of (Err none) = refusal.NoMemory

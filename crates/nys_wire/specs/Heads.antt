-- The head of a statement: its numbers, without its content, its payload or its lengths.
use Rattle.std.specs.Prelude.{ℕ, List, length, Option, Some, None, Result, Ok, Err}
use Rattle.nys_bytes.specs.declared.content.Content.{Content}
use Rattle.nys_bytes.specs.declared.content.Content.TheVariants.{External, Message}
use Rattle.nys_stmt.specs.declared.statement.Body.{Body}
use Rattle.nys_stmt.specs.declared.statement.Body.TheVariants.{Filled, Attest, Ask, Wedge, Frozen, Open}
use Rattle.nys_stmt.specs.declared.statement.Statement.{Statement}
use Rattle.nys_stmt.specs.declared.records.Record.{Record}
use Rattle.nys_wire.specs.declared.fault.WireFault.{WireFault}
use Rattle.nys_wire.specs.declared.head.Head.{Head}
use Rattle.nys_wire.specs.declared.kind.Kind.TheVariants as kind
use Rattle.nys_wire.specs.Reading.{whole_record}

-- the head of a body in an epoch; a field that the kind hasn't is 0
abbrev pub head_with : ℕ → Body → Head
head_with epoch (Filled filled h slot content) = record { kind = kind.Filled filled; epoch = epoch; p = 0; h = h; at = slot }
head_with epoch (Attest p h k payload) = record { kind = kind.Attest; epoch = epoch; p = p; h = h; at = k }
head_with epoch (Ask h slot) = record { kind = kind.Ask; epoch = epoch; p = 0; h = h; at = slot }
head_with epoch Wedge = record { kind = kind.Wedge; epoch = epoch; p = 0; h = 0; at = 0 }
head_with epoch (Frozen h slot) = record { kind = kind.Frozen; epoch = epoch; p = 0; h = h; at = slot }
head_with epoch (Open lengths) = record { kind = kind.Open; epoch = epoch; p = 0; h = 0; at = length lengths }

-- the head of a statement
abbrev pub head_of : Statement → Head
head_of statement = head_with statement.epoch statement.body

-- the sender and the number of a message
abbrev pub message_in : Content → Option (ℕ × ℕ)
message_in (External payload) = None
message_in (Message p k payload) = Some (p, k)

-- the same of the message that the content of a body is
abbrev pub message_of : Body → Option (ℕ × ℕ)
message_of (Filled kind h slot content) = message_in content
message_of (Attest p h k payload) = None
message_of (Ask h slot) = None
message_of Wedge = None
message_of (Frozen h slot) = None
message_of (Open lengths) = None

-- the head of what was read
abbrev pub head_read : Result Record WireFault → Option Head
head_read (Ok r) = Some (head_of r.statement)
head_read (Err e) = None

-- the head of the record that the bytes are, where they are one
abbrev pub head_in : List ℕ → Option Head
head_in bytes = head_read (whole_record bytes)

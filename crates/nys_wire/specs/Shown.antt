-- What is read in place, as the statement that it is.
use Rattle.std.specs.Prelude.{List}
use Rattle.nys_bytes.specs.declared.content.Content.{Content}
use Rattle.nys_bytes.specs.declared.content.Content.TheVariants as content
use Rattle.nys_stmt.specs.declared.statement.Body.{Body}
use Rattle.nys_stmt.specs.declared.statement.Body.TheVariants as body
use Rattle.nys_stmt.specs.declared.statement.Statement.{Statement}
use Rattle.nys_stmt.specs.declared.records.Record.{Record}
use Rattle.nys_stmt.specs.declared.tags.Tags.{Tags}
use Rattle.nys_wire.specs.declared.statement.ContentRef.{ContentRef}
use Rattle.nys_wire.specs.declared.statement.ContentRef.TheVariants.{External, Message}
use Rattle.nys_wire.specs.declared.statement.BodyRef.{BodyRef}
use Rattle.nys_wire.specs.declared.statement.BodyRef.TheVariants.{Filled, Attest, Ask, Wedge, Frozen, Open}
use Rattle.nys_wire.specs.declared.statement.StatementRef.{StatementRef}

-- the content
abbrev pub content_shown : ContentRef → Content
content_shown (External payload) = content.External payload
content_shown (Message p k payload) = content.Message p k payload

-- the body
abbrev pub body_shown : BodyRef → Body
body_shown (Filled kind h slot c) = body.Filled kind h slot (content_shown c)
body_shown (Attest p h k payload) = body.Attest p h k payload
body_shown (Ask h slot) = body.Ask h slot
body_shown Wedge = body.Wedge
body_shown (Frozen h slot) = body.Frozen h slot
body_shown (Open lengths) = body.Open lengths

-- the statement
abbrev pub statement_shown : StatementRef → Statement
statement_shown s = record { epoch = s.epoch; body = body_shown s.body }

-- the record of these parts
abbrev pub record_shown : StatementRef × List Tags → Record
record_shown parts = record { statement = statement_shown parts.0; makers = parts.1 }

-- What a node itself said of a content in an open slot, by the kind of its statement.
use Rattle.std.specs.Prelude.{ℕ, Option, None, option_map}
use Rattle.nys_bytes.specs.declared.content.Content.{Content}
use Rattle.nys_stmt.specs.declared.records.Record.{Record}
use Rattle.nys_stmt.specs.declared.statement.Body.TheVariants.{Filled}
use Rattle.nys_stmt.specs.declared.statement.FilledKind.{FilledKind}
use Rattle.nys_stmt.specs.declared.statement.FilledKind.TheVariants.{Offer, Order, Deliver, Report, Inherit}
use Rattle.nys_rules.specs.Scope.{Scope}
use Rattle.nys_rules.specs.Sending.{record_of}
use Rattle.nys_rules.specs.View.{Desk, length_of, View}

-- the content that the node said, if it said one; a desk has no reports and no inheritance
abbrev pub said_at : FilledKind → Desk → Option Content
said_at Offer desk = desk.offered
said_at Order desk = desk.ordered
said_at Deliver desk = desk.delivered
said_at Report desk = None
said_at Inherit desk = None

-- the record of it, in the open slot of h
abbrev pub said_record : {S : Type 0} → Scope S → View → ℕ → FilledKind → Option Record
said_record scope v h kind =
    option_map (λ c. record_of scope v h (Filled kind h (length_of v h) c)) (said_at kind (v.desks h))

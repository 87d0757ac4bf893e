-- What a node asks of a record that it notes.
use Rattle.std.specs.Prelude.{◌≡◌, ℕ, ◌<◌, ◌≤◌, List, All, length, None, Result, Ok, Err}
use Rattle.nys_hosts.specs.declared.limits.TheConstants.{MAX_HOSTS}
use Rattle.nys_bytes.specs.declared.content.Content.{Content}
use Rattle.nys_desk.specs.Makers.{IsHost}
use Rattle.nys_rules.specs.Dropping.{accepted, misplaced, verdict}
use Rattle.nys_rules.specs.Scope.{Scope}
use Rattle.nys_rules.specs.View.{View}
use Rattle.nys_stmt.specs.Records.{IsRecord}
use Rattle.nys_stmt.specs.declared.records.Record.{Record}
use Rattle.nys_stmt.specs.declared.statement.Body.{Body}
use Rattle.nys_stmt.specs.declared.statement.Body.TheVariants.{Filled, Attest, Ask, Wedge, Frozen, Open}
use Rattle.nys_stmt.specs.declared.statement.FilledKind.{FilledKind}
use Rattle.nys_stmt.specs.declared.statement.FilledKind.TheVariants.{Offer, Order, Deliver, Report, Inherit}
use Rattle.nys_stmt.specs.declared.tags.Tags.{Tags}
use Rattle.nys_wire.specs.Reading.{whole_record}
use Rattle.nys_wire.specs.declared.fault.WireFault.{WireFault}
use Rattle.nys_node.specs.Hearing.{CanHear}
use Rattle.nys_node.specs.Logging.{CanLog}
use Rattle.nys_node.specs.Means.{IsViewOf, Means}
use Rattle.nys_node.specs.Replies.{CanTell}
use Rattle.nys_node.specs.declared.node.Node.{Node}

-- a record that isn't dropped: the node means a view in which it has its place, and these of its makers
-- are accepted, one or more
pub record CanNote {P S : Type 0} (scope : Scope S) (node : Node P S) (r : Record) (makers : List Tags) : Type 0 where
  pub view : View
  pub is : IsViewOf scope node view
  pub well : IsRecord r
  pub placed : (v : View) → Means scope node v → misplaced scope v r.statement ≡ None
  pub makers_are : makers ≡ accepted scope r.statement.epoch node.me r
  pub some : 1 ≤ length makers
  pub few : length makers ≤ 33

-- no test of the table of drops fails for what was read
abbrev pub NamesNoDropOf : {S : Type 0} → Scope S → View → Result Record WireFault → Type 0
NamesNoDropOf scope v (Ok r) = verdict scope v r ≡ None
NamesNoDropOf scope v (Err fault) = ⊥

-- the bytes are a record, and the node has no cause to drop it
abbrev pub NamesNoDrop : {S : Type 0} → Scope S → View → List ℕ → Type 0
NamesNoDrop scope v frame = NamesNoDropOf scope v (whole_record frame)

-- what a node needs to note what is said of a content in a slot of h
abbrev pub CanNoteFilled : {P S : Type 0} → Scope S → Node P S → FilledKind → ℕ → Content → List Tags → Type 0
CanNoteFilled scope node Offer h content makers = Unit {0}
CanNoteFilled scope node Order h content makers = All IsHost makers × (length makers ≤ 33)
CanNoteFilled scope node Deliver h content makers = All IsHost makers
CanNoteFilled scope node Report h content makers = Unit {0}
CanNoteFilled scope node Inherit h content makers = CanLog scope node h content

-- what a node needs to note it, by its kind
abbrev pub CanNoteBody : {P S : Type 0} → Scope S → Node P S → (epoch : ℕ) → Body → List Tags → Type 0
CanNoteBody scope node e (Filled kind h slot content) makers =
    (h < MAX_HOSTS) × CanNoteFilled scope node kind h content makers
CanNoteBody scope node e (Attest p h k payload) makers =
    (p < MAX_HOSTS) × (h < MAX_HOSTS) × All IsHost makers × CanHear scope node p h k
CanNoteBody scope node e (Ask h slot) makers = Unit {0}
CanNoteBody scope node e Wedge makers = Unit {0}
CanNoteBody scope node e (Frozen h slot) makers = Unit {0}
CanNoteBody scope node e (Open lengths) makers = e < scope.epochs

-- what it needs to do at once what the record asks for
abbrev pub CanActBy : {P S : Type 0} → Scope S → Node P S → Body → Type 0
CanActBy scope node (Filled kind h slot content) = h < MAX_HOSTS
CanActBy scope node (Attest p h k payload) = Unit {0}
CanActBy scope node (Ask h slot) = (h < MAX_HOSTS) × CanTell scope node h
CanActBy scope node Wedge = Unit {0}
CanActBy scope node (Frozen h slot) = Unit {0}
CanActBy scope node (Open lengths) = Unit {0}

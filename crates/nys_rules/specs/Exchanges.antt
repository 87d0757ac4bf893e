-- Words of the bounds: which slots are level and unspoiled, and how many exchanges there are.
use Rattle.std.specs.Prelude.{◌≡◌, ℕ, ◌<◌, ◌+◌, true, List, [], ◌∷◌, Contains, count_by, Bool, false, Result, Ok}
use Rattle.nys_bytes.specs.declared.content.Content.{Content}
use Rattle.nys_stmt.specs.declared.records.Record.{Record}
use Rattle.nys_stmt.specs.declared.statement.Body.TheVariants as body
use Rattle.nys_stmt.specs.declared.statement.FilledKind.TheVariants as kind
use Rattle.nys_wire.specs.Reading.{whole_record}
use Rattle.nys_rules.specs.declared.notice.Note.{Note}
use Rattle.nys_rules.specs.declared.notice.NoteKind.TheVariants.{Wedged}
use Rattle.nys_rules.specs.declared.packet.TheConstants.{STRANGER}
use Rattle.nys_rules.specs.Events.{Plain}
use Rattle.nys_rules.specs.Events.Plain.{Exchange}
use Rattle.nys_rules.specs.Packets.{Given, Sent}
use Rattle.nys_rules.specs.Sending.{said_in}
use Rattle.nys_rules.specs.View.{is_open, length_of}
use Rattle.nys_rules.specs.World.{is_honest, Setting, World}

-- host g is an honest guard of h in the epoch
pub record IsHonestGuard {S : Type 0} (setting : Setting S) (e h g : ℕ) : Type 0 where
  pub host : g < setting.scope.rules.hosts
  pub honest : is_honest setting g ≡ true
  pub guards : setting.scope.guards e h g ≡ true

-- no note tells that the epoch is ending
abbrev pub NotWedged : World → ℕ → Type 0
NotWedged w e = (event : ℕ) → Contains w.notes (record { event = event; kind = Wedged e }) → ⊥

-- slot s of h is level in the epoch: h is honest, and the slot is open at each honest guard of h
pub record IsLevel {S : Type 0} (setting : Setting S) (w : World) (e h s : ℕ) : Type 0 where
  pub host : h < setting.scope.rules.hosts
  pub honest : is_honest setting h ≡ true
  pub epochs : (g : ℕ) → IsHonestGuard setting e h g → (w.nodes g).epoch ≡ e
  pub slot_open : (g : ℕ) → IsHonestGuard setting e h g → is_open setting.scope (w.nodes g) h ≡ true
  pub slots : (g : ℕ) → IsHonestGuard setting e h g → length_of (w.nodes g) h ≡ s
  pub goes_on : NotWedged w e

-- the bytes are a record of an Order for slot s of h in the epoch
pub record IsOrderRecord (frame : List ℕ) (e h s : ℕ) : Type 0 where
  pub r : Record
  pub content : Content
  pub reads : whole_record frame ≡ Ok r
  pub statement : r.statement ≡ said_in e (body.Filled kind.Order h s content)

-- no stranger's packet and no bytes that an event gave are such a record
pub record IsUnspoiled (w : World) (e h s : ℕ) : Type 0 where
  pub packets : (p : Sent) → Contains w.pool p → p.from ≡ STRANGER → IsOrderRecord p.frame e h s → ⊥
  pub bytes : (g : Given) → Contains w.injected g → IsOrderRecord g.frame e h s → ⊥

-- the event is an exchange
abbrev pub is_exchange : Plain → Bool
is_exchange Exchange = true
is_exchange _ = false

-- how many exchanges there are among the events
abbrev pub exchanges_in : List Plain → ℕ
exchanges_in events = count_by is_exchange events

-- What a world shows for each step of its run: whose tags a party was seen to take.
use Rattle.std.specs.Prelude.{◌≡◌, ◌≢◌, ℕ, ◌+◌, ◌-◌, ◌<◌, ◌⊎◌, true, ℤ, List, Contains, slice_get, Option, Some, None, Result, Ok}
use Rattle.nys_bytes.specs.declared.content.Content.{Content}
use Rattle.nys_bytes.specs.declared.content.Content.TheVariants.{External, Message}
use Rattle.nys_hosts.specs.Counts.{AtLeast}
use Rattle.nys_stmt.specs.declared.records.Record.{Record}
use Rattle.nys_stmt.specs.declared.statement.Body.TheVariants as body
use Rattle.nys_stmt.specs.declared.statement.FilledKind.TheVariants as kind
use Rattle.nys_stmt.specs.declared.statement.Statement.{Statement}
use Rattle.nys_stmt.specs.declared.tags.Tags.{Tags}
use Rattle.nys_wire.specs.Reading.{whole_record}
use Rattle.nys_rules.specs.declared.notice.Take.{Take}
use Rattle.nys_rules.specs.Dropping.{verifies}
use Rattle.nys_rules.specs.Exchanges.{IsHonestGuard}
use Rattle.nys_rules.specs.Packets.{Given, Sent}
use Rattle.nys_rules.specs.Scope.{olympus, quorum_at}
use Rattle.nys_rules.specs.Sending.{said_in}
use Rattle.nys_rules.specs.World.{Setting, World}

-- the bytes of a take: those of its packet, or those that its event gave to its party
abbrev pub IsFrameOf : World → Take → Option ℕ → List ℕ → Type 0
IsFrameOf w take (Some k) frame = (p : Sent) × (slice_get w.pool k ≡ Some p) × (p.frame ≡ frame)
IsFrameOf w take None frame = Contains w.injected (record { event = take.event; to = take.to; frame = frame })

-- party g was seen to take another maker's tag on the statement, which verifies for g
pub record IsSeen {S : Type 0} (setting : Setting S) (w : World) (g : ℕ) (statement : Statement) (maker : ℕ) : Type 0 where
  pub other : maker ≢ g
  pub take : Take
  pub told : Contains w.takes take
  pub taker : take.to ≡ g
  pub kept : take.dropped ≡ None
  pub frame : List ℕ
  pub frame_is : IsFrameOf w take take.packet frame
  pub r : Record
  pub reads : whole_record frame ≡ Ok r
  pub says : r.statement ≡ statement
  pub tags : Tags
  pub among : Contains r.makers tags
  pub maker_is : tags.maker ≡ maker
  pub verified : verifies setting.scope g statement tags ≡ true

-- an honest guard of h has seen t guards of both attest the message; an input needs no evidence of this
abbrev pub AttestsSeen : {S : Type 0} → Setting S → World → (e h : ℕ) → Content → Type 0
AttestsSeen setting w e h (External payload) = Unit {0}
AttestsSeen setting w e h (Message p k payload) = (g : ℕ) × IsHonestGuard setting e h g
    × AtLeast (setting.scope.t e p) (λ m. (setting.scope.guards e p m ≡ true) × (setting.scope.guards e h m ≡ true)
    × IsSeen setting w g (said_in e (body.Attest p h k payload)) m)

-- an honest guard of h has seen all of a quorum but itself vote to deliver the content
abbrev pub DeliversSeen : {S : Type 0} → Setting S → World → (e h s : ℕ) → Content → Type 0
DeliversSeen setting w e h s content = (g : ℕ) × IsHonestGuard setting e h g
    × AtLeast (quorum_at setting.scope e h - 1) (λ m. (setting.scope.guards e h m ≡ true)
    × IsSeen setting w g (said_in e (body.Filled kind.Deliver h s content)) m)

-- the Olympus has seen more guards report the content than may lie
abbrev pub ReportsSeen : {S : Type 0} → Setting S → World → (e h s : ℕ) → Content → Type 0
ReportsSeen setting w e h s content =
    AtLeast (setting.scope.t e h + 1) (λ m. (setting.scope.guards e h m ≡ true)
    × IsSeen setting w olympus (said_in e (body.Filled kind.Report h s content)) m)

-- the step of h in slot s with the content has its evidence, in some epoch
pub record HasEvidence {S : Type 0} (setting : Setting S) (w : World) (h s : ℕ) (content : Content) : Type 0 where
  pub epoch : ℕ
  pub votes : DeliversSeen setting w epoch h s content ⊎ ReportsSeen setting w epoch h s content
  pub message : AttestsSeen setting w epoch h content

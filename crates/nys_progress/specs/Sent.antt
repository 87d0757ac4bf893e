-- What an honest host said about a slot stands in a packet to each party that it is for.
use Rattle.std.specs.Prelude.{◌≡◌, ◌≢◌, ℕ, true, Contains}
use Rattle.nys_bytes.specs.declared.content.Content.{Content}
use Rattle.nys_rules.specs.Packets.{Sent}
use Rattle.nys_rules.specs.Scope.{guards_of, olympus, Scope}
use Rattle.nys_rules.specs.Sending.{own_record, packet, said_in}
use Rattle.nys_rules.specs.World.{is_honest, Setting, World}
use Rattle.nys_laws.specs.Own.{body_at, HasSaid, Stage}
use Rattle.nys_laws.specs.Own.Stage.{Delivered, Offered, Ordered}

-- whom such a statement is for: an Order of h for h, an Offer and a Deliver for each guard of h
abbrev pub IsFor : {S : Type 0} → Scope S → Stage → (e h m : ℕ) → Type 0
IsFor scope Offered e h m = scope.guards e h m ≡ true
IsFor scope Ordered e h m = m ≡ h
IsFor scope Delivered e h m = scope.guards e h m ≡ true

-- the packet in which g says it to m, with its tags for all guards of h
abbrev pub telling : {S : Type 0} → Scope S → (g : ℕ) → Stage → (e h slot : ℕ) → Content → (m : ℕ)
    → Sent
telling scope g stage e h slot content m =
    packet g m (own_record scope g (said_in e (body_at stage h slot content)) (guards_of scope e h))

-- what each honest host said at a stage of a slot was sent so to each party but itself that it is for
abbrev pub SaidIsSent : {S : Type 0} → Setting S → World → Type 0
SaidIsSent setting w = (g : ℕ) → is_honest setting g ≡ true → g ≢ olympus
    → (stage : Stage) (e h slot : ℕ) (content : Content) → HasSaid w.ledger g stage e h slot content
    → (m : ℕ) → IsFor setting.scope stage e h m → m ≢ g
    → Contains w.pool (telling setting.scope g stage e h slot content m)

-- What parties are given, and the packets that are given one after another.
use Rattle.std.specs.Prelude.{◌≡◌, ℕ, ◌-◌, List, [], length, slice_get, Option, Some, None, Result}
use Rattle.nys_node.specs.declared.node.Node.{Node}
use Rattle.nys_rules.specs.declared.cause.DropCause.{DropCause}
use Rattle.nys_rules.specs.declared.notice.End.{End}
use Rattle.nys_rules.specs.Handling.{dropped_by, Handles}
use Rattle.nys_rules.specs.Olympus.{Hears}
use Rattle.nys_rules.specs.Happening.{DeliversAll}
use Rattle.nys_rules.specs.Packets.{Given, Sent}
use Rattle.nys_rules.specs.World.{Setting, World}
use Rattle.nys_source.specs.Rules.{Rules}
use Rattle.nys_world.specs.Outcomes.{Goes}
use Rattle.nys_world.specs.Shows.{IsShown}
use Rattle.nys_world.specs.declared.moment.Moment.{Moment}
use Rattle.nys_world.specs.declared.stage.Stage.{Stage}

-- the bytes of a packet; none where there is no packet
abbrev pub frame_in : Option Sent → List ℕ
frame_in None = []
frame_in (Some p) = p.frame

-- the bytes that an event gave; none where no event gave any
abbrev pub bytes_in : Option Given → List ℕ
bytes_in None = []
bytes_in (Some g) = g.frame

-- the bytes that a party is given: those of a packet, or else those that an event gave last
abbrev pub bytes_given : World → Option ℕ → List ℕ
bytes_given w (Some k) = frame_in (slice_get w.pool k)
bytes_given w None = bytes_in (slice_get w.injected (length w.injected - 1))

-- a node stands in the place of the host
abbrev pub HasNode : {P S : Type 0} → List (Option (Node P S)) → ℕ → Type 0
HasNode {P} {S} nodes g = (node : Node P S) × (slice_get nodes g ≡ Some (Some node))

-- the node of g drops these bytes for this cause
abbrev pub IsDropped : {S : Type 0} → Setting S → World → ℕ → List ℕ → DropCause → Type 0
IsDropped setting w g frame cause = Handles setting.scope (w.nodes g) frame (w.nodes g) (dropped_by cause)

-- the Olympus drops these bytes for this cause
abbrev pub IsUnheard : {S : Type 0} → Setting S → World → List ℕ → DropCause → Type 0
IsUnheard setting w frame cause = Hears setting.scope w.olympus frame w.olympus (dropped_by cause)

-- packets are being given: what comes of those that are left comes of all
pub record IsDelivering {P S : Type 0} (rules : Rules S) (stage : Stage P S) (first now : Moment P S) (all left : List ℕ) : Type 0 where
  pub shown : IsShown rules stage now
  pub rest : (after : Moment P S) (result : Result (Unit {0}) End)
      → Goes rules stage now after (λ here w. DeliversAll here w left) result
      → Goes rules stage first after (λ here w. DeliversAll here w all) result

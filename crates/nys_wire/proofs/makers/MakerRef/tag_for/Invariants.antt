use Rattle.std.proofs.Common.{◌≡◌, ℕ, ◌++◌, List, All}
use Rattle.std.specs.Prelude.{◌≢◌}
use Rattle.nys_wire.proofs.makers.MakerRef.tag_for.Given as goal

-- none of those that were looked at is for the receiver
abbrev pub invariant-loop-to : goal.invariant-loop-to
invariant-loop-to l = (front : List (ℕ × List ℕ)) × (front ++ l.to-iterator ≡ l.fn.self.tags) × All (λ t. t.0 ≢ l.receiver) front

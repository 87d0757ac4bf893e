use Rattle.std.proofs.Common.{◌≡◌, drop, take}
use Rattle.std.specs.Prelude.{[]}
use Rattle.nys_rules.specs.Olympus.{supported_after}
use Rattle.nys_olympus.proofs.kept.SlotReports.supported.Given as goal

-- none of the reports before supports the slot
abbrev pub invariant-loop-i : goal.invariant-loop-i
invariant-loop-i l = supported_after l.t (take l.i l.self) (drop l.i l.self) ≡ supported_after l.t [] l.self

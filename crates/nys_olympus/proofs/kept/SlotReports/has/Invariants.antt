use Rattle.std.proofs.Common.{◌≡◌, ◌==◌, drop}
use Rattle.std.specs.List.{list_any}
use Rattle.nys_olympus.proofs.kept.SlotReports.has.Given as goal

-- none of the reports before is the guard's
abbrev pub invariant-loop-report : goal.invariant-loop-report
invariant-loop-report l = list_any (λ r. r.guard == l.guard) (drop l.report-index l.self) ≡ list_any (λ r. r.guard == l.guard) l.self

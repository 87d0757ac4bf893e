use Rattle.std.proofs.Common.{◌≡◌, drop}
use Rattle.std.specs.Prelude.{fold}
use Rattle.nys_rules.specs.Olympus.{with_report}
use Rattle.nys_olympus.proofs.kept.SlotReports.note_all.Given as goal

-- the reports so far, with those left, are all
abbrev pub invariant-loop-maker : goal.invariant-loop-maker
invariant-loop-maker l = fold (with_report l.content) l.self (drop l.maker-index l.makers) ≡ fold (with_report l.content) l.fn.self l.makers

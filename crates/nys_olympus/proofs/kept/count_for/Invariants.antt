use Rattle.std.proofs.Common.{◌≡◌, ◌≤◌, ◌+◌, count_by, drop}
use Rattle.nys_votes.specs.Contents.{same_content}
use Rattle.nys_olympus.proofs.kept.count_for.Given as goal

-- what is counted and what the rest counts are what all reports count
abbrev pub invariant-loop-report : goal.invariant-loop-report
invariant-loop-report l =
    (l.count + count_by (λ r. same_content l.content r.content) (drop l.report-index l.reports) ≡ count_by (λ r. same_content l.content r.content) l.reports)
    × (l.count ≤ l.report-index)

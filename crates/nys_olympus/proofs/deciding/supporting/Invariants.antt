use Rattle.std.proofs.Common.{◌≡◌, ◌≤◌, ◌+◌, ◌-◌, ◌++◌, length}
use Rattle.nys_olympus.specs.Supports.{supports_of}
use Rattle.nys_olympus.proofs.deciding.supporting.Given as goal

-- the contents so far, with those that follow, are all
abbrev pub invariant-loop-i : goal.invariant-loop-i
invariant-loop-i l =
    (l.contents.items ++ supports_of (1024 - l.i) l.t l.docket (l.base + l.i) ≡ supports_of 1024 l.t l.docket l.base)
    × (length l.contents.items ≤ l.i)

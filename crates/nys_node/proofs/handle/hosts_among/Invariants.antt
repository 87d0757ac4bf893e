use Rattle.std.proofs.Common.{◌≡◌, ℕ, ◌<◌, ◌≤◌, true, take}
use Rattle.std.specs.Prelude.{slice_get, Some}
use Rattle.nys_hosts.specs.Sets.{has, members}
use Rattle.nys_rules.specs.Handling.{hosts_among}
use Rattle.nys_stmt.specs.declared.tags.Tags.{Tags}
use Rattle.nys_node.proofs.handle.hosts_among.Given as goal

-- the hosts among the makers so far are found, and makers that are left are above them
abbrev pub invariant-loop-i : goal.invariant-loop-i
invariant-loop-i l = (members l.found ≡ hosts_among (take l.i l.makers))
    × ((k : ℕ) → has l.found k ≡ true → (j : ℕ) (t : Tags) → l.i ≤ j → slice_get l.makers j ≡ Some t → k < t.maker)

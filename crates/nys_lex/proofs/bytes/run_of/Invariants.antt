use Rattle.std.proofs.Common.{◌≡◌, ◌+◌, ◌-◌, ◌≤◌, length, drop}
use Rattle.std.specs.List.{prefix_len}
use Rattle.nys_lex.specs.Bytes.{is_in}
use Rattle.nys_lex.proofs.bytes.run_of.Given as goal

-- the run of the bytes that are left makes up the whole run
abbrev pub invariant-loop-len : goal.invariant-loop-len
invariant-loop-len l = (l.len + prefix_len (is_in l.sort) (drop l.len l.text) ≡ prefix_len (is_in l.sort) l.text) × (l.len ≤ length l.text)

abbrev pub decreases-loop-len : goal.decreases-loop-len
decreases-loop-len l = length l.text - l.len

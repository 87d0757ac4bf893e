use Rattle.std.proofs.Common.{◌≡◌, ℕ, drop}
use Rattle.nys_attest.specs.Windows.{next_of, seats_at}
use Rattle.nys_rules.specs.Noting.{hearing}
use Rattle.nys_source.specs.Tables.{put_at}
use Rattle.nys_node.proofs.attest.hear_all.Given as goal

-- one number has other seats, which with the makers that are left become what all makers make of them
abbrev pub invariant-loop-tags : goal.invariant-loop-tags
invariant-loop-tags l = record {
  next : (q : ℕ) → next_of l.table q ≡ next_of l.fn.table q;
  frame : (q n : ℕ) → seats_at l.table q n ≡ put_at (seats_at l.fn.table) l.p l.k (seats_at l.table l.p l.k) q n;
  rest : hearing l.payload (drop l.tags-index l.makers) (seats_at l.table l.p l.k) ≡ hearing l.payload l.makers (seats_at l.fn.table l.p l.k);
}

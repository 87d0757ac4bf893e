-- Nothing was heard, and on the links of the hosts before this one the number comes next that does in the log.
use Rattle.std.proofs.Common.{◌≡◌, ℕ, ◌<◌, Bool, List}
use Rattle.nys_agreement.specs.Alone.{alone}
use Rattle.nys_attest.specs.Windows.{next_of, seats_at}
use Rattle.nys_bytes.specs.declared.content.Content.{Content}
use Rattle.nys_node.specs.Means.{IsReplicaOf}
use Rattle.nys_source.specs.Rules.{Rules}
use Rattle.nys_votes.specs.Seats.{no_seats}
use Rattle.nys_node.proofs.opening.heard_by.Given as goal

abbrev pub invariant-loop-p : goal.invariant-loop-p
invariant-loop-p g l =
    ((q k : ℕ) → seats_at l.table q k ≡ no_seats)
    × ((rules : Rules g.row.P-State.Denot) (h : ℕ) (log : List Content) (kept : ℕ) (known : Bool) → IsReplicaOf rules h l.replica log kept known
    → (q : ℕ) → q < l.p → next_of l.table q ≡ (alone rules h log).received q h)

-- The orders collected for one offer, and their certificate.
use Rattle.std.specs.Prelude.{◌≡◌, ℕ, if◌then◌else◌, List, Option, Some, None}
use Rattle.nys_stmt.specs.declared.records.Record.{Record}
use Rattle.nys_stmt.specs.declared.statement.Body.{Body}
use Rattle.nys_stmt.specs.declared.statement.Body.TheVariants.{Filled, Attest, Ask, Wedge, Frozen, Open}
use Rattle.nys_stmt.specs.declared.statement.FilledKind.TheVariants.{Order}
use Rattle.nys_stmt.specs.declared.statement.Statement.{Statement}
use Rattle.nys_votes.specs.Ordered.{is_ordered, record_from}
use Rattle.nys_votes.specs.Seats.{count_all, with_seat}

-- the body is an Order
abbrev pub IsOrder : Body → Type 0
IsOrder (Filled kind h slot content) = kind ≡ Order
IsOrder (Attest p h k payload) = ⊥
IsOrder (Ask h slot) = ⊥
IsOrder Wedge = ⊥
IsOrder (Frozen h slot) = ⊥
IsOrder (Open lengths) = ⊥

-- the orders of one statement
pub record Orders : Type 0 where
  -- the Order that they all say
  pub statement : Statement
  -- the tags of each maker
  pub seats : List (Option (List (ℕ × List ℕ)))

-- the first order of each maker is kept
unfoldable pub collected : ℕ → List (ℕ × List ℕ) → Orders → Orders
collected maker tags orders = record { statement = orders.statement; seats = with_seat maker tags orders.seats }

-- the record of the Order with all its makers, where they are enough
unfoldable pub certificate_of : ℕ → Orders → Option Record
certificate_of q orders =
    if is_ordered q (count_all orders.seats)
    then Some (record_from orders.statement orders.seats)
    else None

-- The generator counts the inputs that it draws.
use Rattle.std.proofs.Common.{◌≡◌, ℕ, ◌+◌, ◌==◌, Bool, true, false, refl, arith}
use Rattle.nys_workload.specs.Drawn.{dice_after, event_of, kind_of, next_dice, second_event}
use Rattle.nys_workload.specs.Draws.{next_of}
use Rattle.nys_workload.specs.Inputs.{is_input}
use Rattle.nys_workload.specs.declared.dice.Dice.{Dice}
use Rattle.nys_workload.specs.declared.kind.Kind.{Kind}
use Rattle.nys_workload.specs.declared.kind.Kind.TheVariants as kind

-- an event counts as an input or not
abbrev pub one_if : Bool → ℕ
one_if true = 1
one_if false = 0

-- an event of a kind is counted where it is an input
kind_counted : (hosts place packets number later inputs : ℕ) (k : Kind)
    → (dice_after later inputs k).inputs ≡ inputs + one_if (is_input (second_event hosts place packets number k))
kind_counted hosts place packets number later inputs kind.Input = refl
kind_counted hosts place packets number later inputs kind.Exchange = omega arith
kind_counted hosts place packets number later inputs kind.Flush = omega arith
kind_counted hosts place packets number later inputs kind.One = by (packets == 0) refl
  where
    by : (b : Bool) → (packets == 0) ≡ b
        → (dice_after later inputs kind.One).inputs ≡ inputs + one_if (is_input (second_event hosts place packets number kind.One))
    by true none = rw none (omega arith)
    by false some = rw some (omega arith)

-- the next event is
pub input_counted : (hosts place packets : ℕ) (dice : Dice)
    → (next_dice dice).inputs ≡ dice.inputs + one_if (is_input (event_of hosts dice place packets))
input_counted hosts place packets dice =
    kind_counted hosts place packets (next_of dice.number) (next_of dice.number) dice.inputs (kind_of dice)

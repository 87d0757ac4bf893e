-- The events that are drawn, by the generator and by how many packets the pool has before each.
use Rattle.std.specs.Prelude.{ℕ, pos, ◌+◌, ◌==◌, if◌then◌else◌, List, [], ◌∷◌}
use Rattle.nys_rules.specs.Events.{Plain}
use Rattle.nys_rules.specs.Events.Plain.{Input, Deliver, Flush, Exchange, Ask}
use Rattle.nys_workload.specs.Draws.{draw, next_of}
use Rattle.nys_workload.specs.Kinds.{kind_by}
use Rattle.nys_workload.specs.declared.dice.Dice.{Dice}
use Rattle.nys_workload.specs.declared.kind.Kind.{Kind}
use Rattle.nys_workload.specs.declared.kind.Kind.TheVariants as kind

-- the generator before the first event
abbrev pub first_dice : ℕ → Dice
first_dice seed = record { number = seed; inputs = 0 }

-- the kind of the next event
abbrev pub kind_of : Dice → Kind
kind_of dice = kind_by dice.inputs (draw dice.number 64).1

-- the event of a kind, at this place among so many hosts, where the pool has so many packets; the generator's
-- number is that after the first drawing
abbrev pub second_event : (hosts place packets number : ℕ) → Kind → Plain
second_event hosts place packets number kind.Input = Input (draw number hosts).1 (pos (place + 1) ∷ [])
second_event hosts place packets number kind.Exchange = Exchange
second_event hosts place packets number kind.Flush = Flush
second_event hosts place packets number kind.One =
    if packets == 0 then Ask (draw number hosts).1 else Deliver (draw number packets).1

-- the next event
abbrev pub event_of : ℕ → Dice → (place packets : ℕ) → Plain
event_of hosts dice place packets = second_event hosts place packets (next_of dice.number) (kind_of dice)

-- the generator after an event of a kind: a host or a packet is drawn by a second number
abbrev pub dice_after : (number inputs : ℕ) → Kind → Dice
dice_after number inputs kind.Input = record { number = next_of number; inputs = inputs + 1 }
dice_after number inputs kind.Exchange = record { number = number; inputs = inputs }
dice_after number inputs kind.Flush = record { number = number; inputs = inputs }
dice_after number inputs kind.One = record { number = next_of number; inputs = inputs }

-- the generator after the next event
abbrev pub next_dice : Dice → Dice
next_dice dice = dice_after (next_of dice.number) dice.inputs (kind_of dice)

-- the events from a place on, one for each size that the pool has before it
abbrev pub events_of : ℕ → Dice → (place : ℕ) → (sizes : List ℕ) → List Plain
events_of hosts dice place [] = []
events_of hosts dice place (packets ∷ sizes) =
    event_of hosts dice place packets ∷ events_of hosts (next_dice dice) (place + 1) sizes

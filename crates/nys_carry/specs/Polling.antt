-- What a poll of a direction leaves.
use Rattle.std.specs.Prelude.{ℕ, ◌+◌, ◌||◌, ◌&&◌, Bool, true, false, if◌then◌else◌, List, [], ◌∷◌, ◌++◌}
use Rattle.nys_outside.specs.Network.{Directed}
use Rattle.nys_carry.specs.Carrying.{Carriage, is_way}
use Rattle.nys_carry.specs.declared.polling.Polled.{Polled}
use Rattle.nys_carry.specs.declared.polling.Polled.TheVariants.{Frame, Nothing, Closed}

-- the frame that a poll gave, if it gave one
abbrev pub given_by : (from to : ℕ) → Polled → List ℕ → List Directed
given_by from to Frame buf = record { from = from; to = to; frame = buf } ∷ []
given_by from to Nothing buf = []
given_by from to Closed buf = []

-- whether a poll answered that its direction is closed
abbrev pub has_closed : Polled → Bool
has_closed Frame = false
has_closed Nothing = false
has_closed Closed = true

-- the direction was polled once more
abbrev pub polled_more : (from to : ℕ) → (ℕ → ℕ → ℕ) → (ℕ → ℕ → ℕ)
polled_more from to polled = λ f t. (if is_way from to f t then polled f t + 1 else polled f t)

-- the direction is shut where the poll answered so
abbrev pub shut_more : (from to : ℕ) → Bool → (ℕ → ℕ → Bool) → (ℕ → ℕ → Bool)
shut_more from to closed shut = λ f t. (shut f t || (is_way from to f t && closed))

-- the direction was polled
abbrev pub with_polled : (from to : ℕ) → Polled → List ℕ → ℕ → Carriage → Carriage
with_polled from to got buf lost all = record all {
  given = all.given ++ given_by from to got buf;
  polled = polled_more from to all.polled;
  shut = shut_more from to (has_closed got) all.shut;
  lost = lost;
}

-- A handler by place: where its numbers stand at first, and what it leaves.
use Rattle.std.specs.Prelude.{ℕ, ℤ, pos, if◌then◌else◌, List, [], ◌∷◌, ◌++◌, length, take, Option, Some, None}
use Rattle.std.specs.Borrow.{Bor}
use Rattle.nys_source.specs.declared.effect.Effect.{Effect}
use Rattle.nys_tree.specs.declared.machine.Machine.{Machine}
use Rattle.nys_meaning.specs.declared.here.Here.{Here}
use Rattle.nys_meaning.specs.Stmts.{Run, block}
use Rattle.nys_meaning.specs.Machines.{begun, is_state}
use Rattle.nys_places.specs.declared.cells.Cells.{Cells}
use Rattle.nys_places.specs.Cells.{by_place}

-- the places at the beginning: the state, then the sender of a message; the payload lies where it lay
abbrev pub cells_of : Option ℕ → List ℤ → Bor (List ℤ) → Cells
cells_of None state payload = record { numbers = state; payload = payload }
cells_of (Some from) state payload = record { numbers = state ++ pos from ∷ []; payload = payload }

-- what a handler does by place
abbrev pub handled_in : Machine → Here → Option ℕ → Run Cells → Option (Run Cells)
handled_in m h None u = block by_place h m.on_input.body u
handled_in m h (Some from) u = block by_place h m.on_receive.body u

-- the same from the beginning of a handler
abbrev pub handled_at : Machine → Here → Option ℕ → Cells → Option (Run Cells)
handled_at m h from places = handled_in m h from (begun places)

-- what a handler leaves by place: the state stands first
abbrev pub left_at : List ℤ → Option (Run Cells) → List ℤ × List Effect
left_at state None = (state, [])
left_at state (Some u) = (take (length state) u.names.numbers, u.effects)

-- the new state and the effects, by place
unfoldable pub next_at : Machine → Here → List ℤ → Option ℕ → Bor (List ℤ) → List ℤ × List Effect
next_at m h state from payload =
    if is_state m state then left_at state (handled_at m h from (cells_of from state payload)) else (state, [])

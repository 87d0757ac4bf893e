-- How names are read and written by place.
use Rattle.std.specs.Prelude.{◌≡◌, ℕ, ◌+◌, ℤ, pos, negsuc, ◌==◌, nat_lt, if◌then◌else◌, [], ◌∷◌, ◌++◌, length, Option, Some, None, slice_get, slice_set}
use Rattle.nys_tree.specs.declared.name.Name.{Name}
use Rattle.nys_meaning.specs.Exprs.{Reads}
use Rattle.nys_meaning.specs.Stmts.{Store}
use Rattle.nys_places.specs.declared.cells.Cells.{Cells}

-- the number at a place
abbrev pub number_at : Cells → ℕ → Option ℤ
number_at p at = slice_get p.numbers at

-- how many numbers stand for a name: a payload has its own length
abbrev pub len_of : Cells → Name → ℕ
len_of p name = if name.len == 0 then length p.payload.now else name.len

-- a scalar's number stands at its place
abbrev pub scalar_at : Cells → Name → Option ℤ
scalar_at p name = number_at p name.place

-- an item stands as far behind the list's place as its index says, an item of the payload as far within the payload
abbrev pub item_at : Cells → Name → ℤ → Option ℤ
item_at p name (pos i) = if name.len == 0 then slice_get p.payload.now i else if nat_lt i name.len then number_at p (name.place + i) else None
item_at p name (negsuc i) = None

-- reading by place
abbrev pub place_reads : Reads Cells
place_reads = record { scalar = scalar_at; item = item_at; len = λ p name. Some (pos (len_of p name)) }

-- another number at a place that is there
abbrev pub write_at : Cells → ℕ → ℤ → Option Cells
write_at p at z = if nat_lt at (length p.numbers) then Some (record p { numbers = slice_set p.numbers at z }) else None

-- another number for a scalar
abbrev pub set_at : Cells → Name → ℤ → Option Cells
set_at p name z = write_at p name.place z

-- another number for an item of a list; the payload has no places, and is never written
abbrev pub set_item_at : Cells → Name → ℤ → ℤ → Option Cells
set_item_at p name (pos i) z = if nat_lt i name.len then write_at p (name.place + i) z else None
set_item_at p name (negsuc i) z = None

-- one place more, with its number
abbrev pub pushed : Cells → ℤ → Cells
pushed p z = record p { numbers = p.numbers ++ z ∷ [] }

-- a number at a place that is there, or else at the next one
abbrev pub bind_at : Cells → Name → ℤ → Cells
bind_at p name z = if nat_lt name.place (length p.numbers) then record p { numbers = slice_set p.numbers name.place z } else pushed p z

-- keeping names by place: behind a block nothing is done, since the places of its names are free again
abbrev pub by_place : Store Cells
by_place = record { reads = place_reads; set = set_at; set_item = set_item_at; bind = bind_at; leave = λ before behind. behind }

-- a write answers whether it could be done, and the places are then as it says
abbrev pub Wrote : Option Cells → Option (Unit {0}) → Cells → Type 0
Wrote (Some written) (Some done) new = new ≡ written
Wrote None None new = Unit {0}
Wrote _ _ new = ⊥

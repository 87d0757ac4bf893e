-- Where a byte of a text stands: lines and columns, by counting bytes.
use Rattle.std.specs.Prelude.{ℕ, ◌+◌, ◌==◌, if◌then◌else◌, List, fold}
use Rattle.nys_lex.specs.declared.place.Place.{Place}

-- where the byte after this one stands: a line feed begins a line
abbrev pub past_byte : Place → ℕ → Place
past_byte p b = if b == 10 then record { line = p.line + 1; col = 1 } else record { line = p.line; col = p.col + 1 }

-- where the byte after all of these stands
abbrev pub past : Place → List ℕ → Place
past = fold past_byte

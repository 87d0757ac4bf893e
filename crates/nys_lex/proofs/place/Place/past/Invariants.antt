use Rattle.std.proofs.Common.{◌≡◌, ◌+◌, ◌≤◌, drop}
use Rattle.nys_lex.specs.Place.{past}
use Rattle.nys_lex.proofs.place.Place.past.Given as goal

-- the bytes that are left lead from here to where all of them lead
abbrev pub invariant-loop-byte : goal.invariant-loop-byte
invariant-loop-byte l =
    (past l.place (drop l.byte-index l.bytes) ≡ past l.fn.self l.bytes)
    × (l.place.line ≤ l.fn.self.line + l.byte-index) × (l.place.col ≤ l.fn.self.col + l.byte-index)

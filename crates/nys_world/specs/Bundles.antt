-- Makers of several packets in one record.
use Rattle.std.specs.Prelude.{◌≡◌, ℕ, ◌≤◌, List, length, Option, Some, None, Result, Ok, Err}
use Rattle.nys_rules.specs.Happening.{bundle_of}
use Rattle.nys_rules.specs.World.{World}
use Rattle.nys_stmt.specs.declared.records.Record.{Record}
use Rattle.nys_votes.specs.Seats.{seat_of}
use Rattle.nys_wire.specs.declared.fault.WireFault.{WireFault}

-- the tags of makers by party: there is a maker, and each has tags
pub record AreSeated (seats : List (Option (List (ℕ × List ℕ)))) : Type 0 where
  pub rows : length seats ≡ 33
  pub some : (m : ℕ) × (tags : List (ℕ × List ℕ)) × (seat_of seats m ≡ Some tags)
  pub each : (m : ℕ) (tags : List (ℕ × List ℕ)) → seat_of seats m ≡ Some tags → 1 ≤ length tags

-- the bundle of packets by what the first of them is
abbrev pub IsBundle : World → List ℕ → Result Record WireFault → Option Record → Type 0
IsBundle w ks (Ok r) found = found ≡ Some (bundle_of w r.statement ks)
IsBundle w ks (Err fault) found = found ≡ None

-- What the notes of a world tell of the Olympus, and what its run has no step of.
use Rattle.std.specs.Prelude.{◌≡◌, ℕ, ◌≤◌, ◌⊎◌, ◌↔◌, true, List, Contains, length}
use Rattle.nys_rules.specs.World.{World}
use Rattle.nys_rules.specs.declared.notice.Note.{Note}
use Rattle.nys_source.specs.declared.step.Step.TheVariants.{Stop}
use Rattle.nys_told.specs.Noted.{IsDecidedAt, IsRetired}

-- n is the greatest length at which notes tell that the log of h is decided, or 0 where none does
pub record IsGreatestDecided (notes : List Note) (h n : ℕ) : Type 0 where
  pub most : (len : ℕ) → IsDecidedAt notes h len → len ≤ n
  pub reached : IsDecidedAt notes h n ⊎ (n ≡ 0)

-- the notes of a world tell how long its decided logs are, and which hosts are given up
pub record TellsOlympus (w : World) : Type 0 where
  pub decided : (h : ℕ) → IsGreatestDecided w.notes h (length (w.olympus.decided h))
  pub retired : (h : ℕ) → (w.olympus.retired h ≡ true) ↔ IsRetired w.notes h

-- no step of the world's run is a stop: those of the printed run stand behind it
abbrev pub StopsNobody : World → Type 0
StopsNobody w = (h : ℕ) → Contains w.run (Stop h) → ⊥

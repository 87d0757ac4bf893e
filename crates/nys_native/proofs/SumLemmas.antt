-- One number of a list that is added up.
use Rattle.std.proofs.Common.{◌≡◌, ℕ, suc, ◌+◌, ◌<◌, ℤ, pos, ◌+ℤ◌, List, Some, drop, length, get_or, ap, refl, arith}
use Rattle.std.proofs.Math.Seq.{drop-cons}
use Rattle.nys_native.specs.Sums.{sum_on, total_of, fitting}
use Rattle.nys_native.specs.declared.total.Total.{Total}

-- the numbers from a place on are the number there and those behind it
pub sum_on-drop : (total : Total) (numbers : List ℤ) (i : ℕ) → i < length numbers → sum_on (Some total) (drop i numbers) ≡ sum_on (total_of (fitting (total.value +ℤ get_or numbers i (pos 0)))) (drop (i + 1) numbers)
sum_on-drop total numbers i inside =
    let next : i + 1 ≡ suc i = omega arith in
    rw (next, drop-cons numbers i (pos 0)) refl

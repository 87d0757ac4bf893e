-- The generator of workloads: a number, and what is drawn by it.
use Rattle.std.specs.Prelude.{ℕ, ◌+◌, ◌*◌, ◌/◌, ◌%◌, ◌^◌}
use Rattle.nys_workload.specs.declared.generator.TheConstants.{ADDEND, DIVISOR, FACTOR}

-- the number of the generator after this one
unfoldable pub next_of : ℕ → ℕ
next_of x = (x * FACTOR + ADDEND) % 2 ^ 64

-- what is drawn below m: its next number, and the rest by m of that number's high bits
abbrev pub draw : ℕ → ℕ → ℕ × ℕ
draw x m = (next_of x, next_of x / DIVISOR % m)

-- the bytes of the words so far and of those that are left are those of all words, 21 at most for each
use Rattle.std.proofs.Common.{◌≡◌, ◌≤◌, ◌+◌, ◌*◌, drop, length}
use Rattle.nys_text.specs.Printed.{spaced}
use Rattle.nys_schedule_text.proofs.length.payload_len.Given as goal

abbrev pub invariant-loop-number : goal.invariant-loop-number
invariant-loop-number l =
    (l.total + length (spaced (drop l.number-index l.fn.payload)) ≡ length (spaced l.fn.payload))
    × (l.total ≤ 21 * l.number-index)

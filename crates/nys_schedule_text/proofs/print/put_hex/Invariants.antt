-- the text so far and the digits that are left make the whole text
use Rattle.std.proofs.Common.{◌≡◌, ◌++◌, drop}
use Rattle.hex.specs.Hex.{encode_lower}
use Rattle.nys_schedule_text.proofs.print.put_hex.Given as goal

abbrev pub invariant-loop-byte : goal.invariant-loop-byte
invariant-loop-byte l = l.out ++ encode_lower (drop l.byte-index l.bytes) ≡ l.fn.out ++ encode_lower l.bytes

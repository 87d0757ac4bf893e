-- `==` compares number by number, and the two slices are the two payloads.
use Rattle.std.proofs.lemmas.Slice.Eq.{slice_eq-Decides}
use Rattle.std.proofs.lemmas.Bool.Decides.{Decides-int_eq}
use Rattle.nys_bytes.proofs.payload.Payload.equals.Goals as goal

pub returns : goal.returns
returns c = rw (← c.numbers.ensures.value, ← c.numbers-2.ensures.value)
    (slice_eq-Decides Decides-int_eq _ _ _ c.eq.ensures)

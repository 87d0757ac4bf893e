-- How long the line of a frame's bytes is.
use Rattle.std.proofs.Common.{◌≡◌, ℕ, ◌+◌, ◌*◌, List, [], ◌∷◌, ◌++◌, length, length-append, arith}
use Rattle.std.specs.Fmt.{decimal}
use Rattle.hex.specs.Hex.{encode_lower, lower_digits}
use Rattle.hex.proofs.HexLemmas.{length-encode_with}
use Rattle.nys_rules.specs.Events.Plain.{Bytes}
use Rattle.nys_schedule_text.specs.EventLines.{event_line, event_words}

-- two digits for each byte, behind the word and the party
pub bytes_length : (to : ℕ) (frame : List ℕ) →
    length (event_line (Bytes to frame)) ≡ 6 + length (decimal to) + 1 + 2 * length frame + 1
unfolding event_words
bytes_length to frame =
    let digits : length (encode_lower frame) ≡ 2 * length frame = length-encode_with lower_digits frame in
    let line = length-append (decimal to ++ (32 ∷ encode_lower frame)) (10 ∷ []) in
    let words = length-append (decimal to) (32 ∷ encode_lower frame) in
    omega (arith, digits, line, words)

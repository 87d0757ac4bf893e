-- The printed line of each event is read as that event.
use Rattle.std.proofs.Common.{◌≡◌, ℕ, zero, suc, ◌+◌, ◌*◌, ◌/◌, ◌%◌, ◌^◌, ◌<◌, ◌≤◌, ℤ, Bool, true, false, List, [], ◌∷◌, ◌++◌, Some, None, Result, Ok, codes, get_or, length, map, nat_lt, nat_le, slice_index, refl, ap, ◌∙◌, lit<, lit≤, arith, rules, All}
use Rattle.std.proofs.lemmas.Bool.Decides.{nat_tests}
use Rattle.std.proofs.lemmas.Fmt.{decimal_nonempty}
use Rattle.std.specs.Fmt.{decimal, signed_decimal}
use Rattle.hex.specs.Hex.{IsBytes, decode_of, encode_lower, encode_with, lower_digits}
use Rattle.hex.proofs.HexLemmas.{decode_of-encode_lower, length-encode_with}
use Rattle.nys_bare.specs.Schedule.{as_schedule}
use Rattle.nys_bare.specs.declared.fault.LineKind.{LineKind}
use Rattle.nys_bare.specs.declared.read.TheConstants.{MAX_EVENTS}
use Rattle.nys_hosts.specs.declared.limits.TheConstants.{MAX_HOSTS}
use Rattle.nys_text.specs.Lines.{is_skipped, words_of}
use Rattle.nys_text.specs.Printed.{spaced}
use Rattle.nys_text.proofs.BackLemmas.{AreInk, AreInk-decimal, AreShown, AreShown-append, AreShown-ink, AreShown-spaced, IsLineOf, num_of-decimal, payload_of-printed, reading-text, words_of-first, words_of-only, words_of-spaced}
use Rattle.nys_rules.specs.Events.{Plain}
use Rattle.nys_rules.specs.Events.Plain.{Input, Deliver, Flush, Exchange, Ask, Bytes, Say, Bundle, Steal, Wedge, Decide, Retire, Open}
use Rattle.nys_schedule.specs.Hexes.{hexes_of}
use Rattle.nys_schedule.specs.Keywords.{keyword_of}
use Rattle.nys_schedule.specs.Lines.{bytes_of, input_of, shaped}
use Rattle.nys_schedule.specs.Schedules.{line_of, schedule}
use Rattle.nys_schedule.specs.declared.form.Form.TheVariants.{Replay}
use Rattle.nys_schedule_text.specs.EventLines.{event_line, event_lines, event_words}
use Rattle.nys_schedule_text.specs.Printable.{IsFrame, IsPayload, IsPrintable}

-- ---- digits of bytes

ink_in : (xs : List ℕ) (d : ℕ) → AreInk xs → d < length xs → 32 < slice_index xs d
ink_in [] d ink low = absurd (omega (arith, low))
ink_in (x ∷ xs) zero ink low = ink.0
ink_in (x ∷ xs) (suc d) ink low = ink_in xs d ink.1 (omega (arith, low))

digits_ink : AreInk lower_digits
digits_ink = search rules

-- the digits of bytes are a word
AreInk-encode : (xs : List ℕ) → IsBytes xs → AreInk (encode_lower xs)
unfolding encode_with
AreInk-encode [] are = tt
AreInk-encode (b ∷ rest) are =
    let low : b < 256 = are 0 in
    (ink_in lower_digits (b / 16) digits_ink (omega arith), (ink_in lower_digits (b % 16) digits_ink (omega arith), AreInk-encode rest (λ i. are (suc i))))

encode_some : (frame : List ℕ) → 1 ≤ length frame → 0 < length (encode_lower frame)
encode_some frame some = let twice : length (encode_lower frame) ≡ 2 * length frame = length-encode_with lower_digits frame in omega arith

-- the digits of a frame are read as the frame
hexes_of-encode : (frame : List ℕ) → IsFrame frame → hexes_of (encode_lower frame) ≡ Some frame
unfolding hexes_of
hexes_of-encode frame is =
    let twice : length (encode_lower frame) ≡ 2 * length frame = length-encode_with lower_digits frame in
    let some : 1 ≤ length frame = is.some in
    let few : length frame ≤ 65536 = is.few in
    let long : nat_le 2 (length (encode_lower frame)) ≡ true = grind (arith, nat_tests) in
    let short : nat_le (length (encode_lower frame)) 131072 ≡ true = grind (arith, nat_tests) in
    rw (long, short, decode_of-encode_lower frame is.bytes) refl

-- ---- the words of each line

wide : (hosts n : ℕ) → hosts ≤ MAX_HOSTS → n < hosts → n < 2 ^ 64
wide hosts n few low = omega arith

narrow : (hosts n : ℕ) → hosts ≤ MAX_HOSTS → n < hosts → n < 2 ^ 32
narrow hosts n few low = omega arith

number_some : (n : ℕ) → n < 2 ^ 64 → 0 < length (decimal n)
number_some n low = decimal_nonempty n low

input_words : (h : ℕ) (payload : List ℤ) → h < 2 ^ 64 → IsPayload payload →
    words_of (event_words (Input h payload)) ≡ codes "input" ∷ decimal h ∷ map signed_decimal payload
unfolding event_words
input_words h payload low is =
    words_of-first (codes "input") (decimal h ++ spaced payload) (lit< tt) (search rules)
    ∙ ap (λ ws. codes "input" ∷ ws) (words_of-spaced (decimal h) payload (number_some h low) (AreInk-decimal h low) is.fit)

ask_words : (h : ℕ) → h < 2 ^ 64 → words_of (event_words (Ask h)) ≡ codes "ask" ∷ decimal h ∷ []
unfolding event_words
ask_words h low =
    words_of-first (codes "ask") (decimal h) (lit< tt) (search rules)
    ∙ ap (λ ws. codes "ask" ∷ ws) (words_of-only (decimal h) (number_some h low) (AreInk-decimal h low))

bytes_words : (to : ℕ) (frame : List ℕ) → to < 2 ^ 64 → IsFrame frame →
    words_of (event_words (Bytes to frame)) ≡ codes "bytes" ∷ decimal to ∷ encode_lower frame ∷ []
unfolding event_words
bytes_words to frame low is =
    words_of-first (codes "bytes") (decimal to ++ (32 ∷ encode_lower frame)) (lit< tt) (search rules)
    ∙ ap (λ ws. codes "bytes" ∷ ws) (words_of-first (decimal to) (encode_lower frame) (number_some to low) (AreInk-decimal to low)
    ∙ ap (λ ws. decimal to ∷ ws) (words_of-only (encode_lower frame) (encode_some frame is.some) (AreInk-encode frame is.bytes)))

-- ---- what the words say

host_test : (hosts h : ℕ) → h < hosts → nat_lt h hosts ≡ true
host_test hosts h low = grind (arith, nat_tests)

said : (hosts : ℕ) (liars : ℕ → Bool) → hosts ≤ MAX_HOSTS → (event : Plain) → IsPrintable hosts event →
    line_of Replay hosts liars (words_of (event_words event)) ≡ Ok event
unfolding shaped keyword_of input_of bytes_of
said hosts liars few (Input h payload) is =
    let number = num_of-decimal h (narrow hosts h few is.0) in
    let read = payload_of-printed payload is.1.some is.1.few is.1.fit in
    let host = host_test hosts h is.0 in
    rw (input_words h payload (wide hosts h few is.0) is.1) (rw (number, read, host) refl)
said hosts liars few (Ask h) is =
    let number = num_of-decimal h (narrow hosts h few is) in
    let host = host_test hosts h is in
    rw (ask_words h (wide hosts h few is)) (rw (number, host) refl)
said hosts liars few (Bytes to frame) is =
    let number = num_of-decimal to (narrow hosts to few is.0) in
    let read = hexes_of-encode frame is.1 in
    let host = host_test hosts to is.0 in
    rw (bytes_words to frame (wide hosts to few is.0) is.1) (rw (number, read, host) refl)
said hosts liars few (Deliver k) is = absurd is
said hosts liars few Flush is = absurd is
said hosts liars few Exchange is = absurd is
said hosts liars few (Say a to statement) is = absurd is
said hosts liars few (Bundle a to packets) is = absurd is
said hosts liars few (Steal a to statement) is = absurd is
said hosts liars few Wedge is = absurd is
said hosts liars few (Decide h) is = absurd is
said hosts liars few (Retire h) is = absurd is
said hosts liars few Open is = absurd is

number_shown : (n : ℕ) → n < 2 ^ 64 → AreShown (decimal n)
number_shown n low = AreShown-ink (decimal n) (AreInk-decimal n low)

shown : (hosts : ℕ) → hosts ≤ MAX_HOSTS → (event : Plain) → IsPrintable hosts event → AreShown (event_words event)
unfolding event_words
shown hosts few (Input h payload) is =
    AreShown-append (codes "input ") (decimal h ++ spaced payload) (search rules)
    (AreShown-append (decimal h) (spaced payload) (number_shown h (wide hosts h few is.0)) (AreShown-spaced payload is.1.fit))
shown hosts few (Ask h) is = AreShown-append (codes "ask ") (decimal h) (search rules) (number_shown h (wide hosts h few is))
shown hosts few (Bytes to frame) is =
    AreShown-append (codes "bytes ") (decimal to ++ (codes " " ++ encode_lower frame)) (search rules)
    (AreShown-append (decimal to) (codes " " ++ encode_lower frame) (number_shown to (wide hosts to few is.0))
    (AreShown-append (codes " ") (encode_lower frame) (search rules) (AreShown-ink (encode_lower frame) (AreInk-encode frame is.1.bytes))))
shown hosts few (Deliver k) is = absurd is
shown hosts few Flush is = absurd is
shown hosts few Exchange is = absurd is
shown hosts few (Say a to statement) is = absurd is
shown hosts few (Bundle a to packets) is = absurd is
shown hosts few (Steal a to statement) is = absurd is
shown hosts few Wedge is = absurd is
shown hosts few (Decide h) is = absurd is
shown hosts few (Retire h) is = absurd is
shown hosts few Open is = absurd is

tells : (hosts : ℕ) (event : Plain) → IsPrintable hosts event → is_skipped (event_words event) ≡ false
unfolding event_words
tells hosts (Input h payload) is = refl
tells hosts (Ask h) is = refl
tells hosts (Bytes to frame) is = refl
tells hosts (Deliver k) is = absurd is
tells hosts Flush is = absurd is
tells hosts Exchange is = absurd is
tells hosts (Say a to statement) is = absurd is
tells hosts (Bundle a to packets) is = absurd is
tells hosts (Steal a to statement) is = absurd is
tells hosts Wedge is = absurd is
tells hosts (Decide h) is = absurd is
tells hosts (Retire h) is = absurd is
tells hosts Open is = absurd is

line_is : (hosts : ℕ) (liars : ℕ → Bool) → hosts ≤ MAX_HOSTS → (event : Plain) → IsPrintable hosts event →
    IsLineOf (line_of Replay hosts liars) event_words event
line_is hosts liars few event is =
    record { shown = shown hosts few event is; tells = tells hosts event is; said = said hosts liars few event is }

-- the lines of events are a schedule of these events
pub read_back : (hosts : ℕ) (liars : ℕ → Bool) (events : List Plain) → hosts ≤ MAX_HOSTS → All (IsPrintable hosts) events →
    length events ≤ MAX_EVENTS → schedule Replay hosts liars (event_lines events) ≡ Ok events
unfolding schedule
read_back hosts liars events few all most =
    ap as_schedule (reading-text (line_of Replay hosts liars) event_words event_line MAX_EVENTS (λ event. refl) events
    (λ k d low. line_is hosts liars few (get_or events k d) (all k d low)) most)

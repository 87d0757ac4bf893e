-- The lines of events, as a schedule has them: of those that a ring has.
use Rattle.std.specs.Prelude.{ℕ, ⊤, ◌≤◌, List, [], ◌++◌, codes, decimal, length}
use Rattle.std.specs.List.{flat_map}
use Rattle.hex.specs.Hex.{encode_lower}
use Rattle.nys_hosts.specs.declared.limits.TheConstants.{MAX_FRAME}
use Rattle.nys_text.specs.Printed.{spaced}
use Rattle.nys_rules.specs.Events.{Plain}
use Rattle.nys_rules.specs.Events.Plain.{Input, Ask, Bytes}

-- an event that a ring has: an input, an ask, or the bytes of a frame
abbrev pub IsRingEvent : Plain → Type 0
IsRingEvent (Input h payload) = ⊤
IsRingEvent (Ask h) = ⊤
IsRingEvent (Bytes to frame) = (1 ≤ length frame) × (length frame ≤ MAX_FRAME)
IsRingEvent _ = ⊥

-- what the line of an event says; that of no other has any
unfoldable pub event_words : Plain → List ℕ
event_words (Input h payload) = codes "input " ++ (decimal h ++ spaced payload)
event_words (Ask h) = codes "ask " ++ decimal h
event_words (Bytes to frame) = codes "bytes " ++ (decimal to ++ (codes " " ++ encode_lower frame))
event_words _ = []

-- the line of an event, with its line feed
abbrev pub event_line : Plain → List ℕ
event_line event = event_words event ++ codes "\n"

-- the lines of events, in order
abbrev pub event_lines : List Plain → List ℕ
event_lines events = flat_map event_line events

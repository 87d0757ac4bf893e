-- The lines of a trace before its report: all packets, the bytes that events gave, and what was given to whom
-- and what became of it.
use Rattle.std.specs.Prelude.{ℕ, ◌+◌, ◌++◌, List, [], ◌∷◌, Option, Some, None, codes, decimal}
use Rattle.std.specs.List.{flat_map}
use Rattle.hex.specs.Hex.{encode_lower}
use Rattle.nys_rules.specs.Packets.{Given, Sent}
use Rattle.nys_rules.specs.declared.cause.DropCause.{DropCause}
use Rattle.nys_rules.specs.declared.cause.DropCause.TheVariants as cause
use Rattle.nys_rules.specs.declared.notice.Take.{Take}

-- two parties: who sent it, and whom it is for
abbrev pub way_words : (from to : ℕ) → List ℕ
way_words from to = codes " from " ++ (decimal from ++ (codes " to " ++ decimal to))

-- bytes as digits, which end the line
abbrev pub bytes_words : List ℕ → List ℕ
bytes_words bytes = codes " " ++ (encode_lower bytes ++ codes "\n")

-- the line of the packet with this number
unfoldable pub packet_line : ℕ → Sent → List ℕ
packet_line k p = codes "packet " ++ (decimal k ++ (way_words p.from p.to ++ bytes_words p.frame))

-- the lines of packets, in order, the first of which has this number
abbrev pub packet_lines : ℕ → List Sent → List ℕ
packet_lines k [] = []
packet_lines k (p ∷ packets) = packet_line k p ++ packet_lines (k + 1) packets

-- the line of bytes that an event gave to a party
unfoldable pub given_line : Given → List ℕ
given_line g = codes "bytes " ++ (decimal g.event ++ (codes " " ++ (decimal g.to ++ bytes_words g.frame)))

-- why something was dropped, as a word; a queue that is full drops inputs alone, which have no step
abbrev pub drop_word : DropCause → List ℕ
drop_word (cause.Malformed _ _) = codes "malformed"
drop_word cause.NotMine = codes "not mine"
drop_word cause.Epoch = codes "epoch"
drop_word cause.Wedged = codes "wedged"
drop_word cause.NotGuard = codes "not guard"
drop_word cause.Slot = codes "slot"
drop_word cause.NoTag = codes "no tag"
drop_word cause.QueueFull = codes "queue full"

-- what became of it
abbrev pub fate_words : Option DropCause → List ℕ
fate_words None = codes " taken"
fate_words (Some dropped) = codes " dropped " ++ drop_word dropped

-- what was given: a packet, by its number, or bytes that nobody sent
abbrev pub what_words : Option ℕ → List ℕ
what_words (Some k) = codes " packet " ++ decimal k
what_words None = codes " bytes"

-- the line of what was given in an event to an honest host or the Olympus
unfoldable pub step_line : Take → List ℕ
step_line t =
    codes "step " ++ (decimal t.event ++ (what_words t.packet ++ (codes " to " ++ (decimal t.to ++ (fate_words t.dropped ++ codes "\n")))))

-- all packets, in order of sending, numbered from 0
abbrev pub packets_text : List Sent → List ℕ
packets_text pool = codes "packets\n" ++ packet_lines 0 pool

-- the bytes that events gave, in order
abbrev pub injected_text : List Given → List ℕ
injected_text injected = codes "injected\n" ++ flat_map given_line injected

-- what was given to honest hosts and to the Olympus, in order
abbrev pub takes_text : List Take → List ℕ
takes_text takes = codes "steps\n" ++ flat_map step_line takes

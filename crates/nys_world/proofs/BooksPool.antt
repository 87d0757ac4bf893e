-- Packets that join the pool one after another.
use Rattle.std.proofs.Common.{◌≡◌, Bool, true, false, List, [], ◌∷◌, ◌++◌, length, Ok, Err, refl, ap}
use Rattle.std.specs.Prelude.{Result, if◌then◌else◌}
use Rattle.nys_rules.specs.declared.notice.End.{End}
use Rattle.nys_rules.specs.declared.notice.End.TheVariants.{PoolFull}
use Rattle.nys_rules.specs.Packets.{Sent}
use Rattle.nys_rules.specs.World.{is_too_much, pool_bytes, with_packets, World}

-- the end that is told where the pool has no room
abbrev full_end : World → Result World End
full_end w = Err (PoolFull w.events (length w.pool) (pool_bytes w.pool))

-- the world with a packet more
abbrev posted : Sent → World → World
posted p w = record w { pool = w.pool ++ p ∷ [] }

-- where a packet has no room the packets behind it change nothing
pub stops_at : (p : Sent) (packets : List Sent) (w : World) (end : End) → Err end ≡ with_packets (p ∷ []) w
    → Err end ≡ with_packets (p ∷ packets) w
stops_at p packets w end = by (is_too_much w.pool p)
  where
    by : (b : Bool) → Err end ≡ (if b then full_end w else Ok (posted p w))
        → Err end ≡ (if b then full_end w else with_packets packets (posted p w))
    by true e = e
    by false e = absurd (cc)

-- where it has room the packets behind it go on from there
pub goes_on : (p : Sent) (packets : List Sent) (w next : World) → Ok next ≡ with_packets (p ∷ []) w
    → with_packets packets next ≡ with_packets (p ∷ packets) w
goes_on p packets w next = by (is_too_much w.pool p)
  where
    by : (b : Bool) → Ok next ≡ (if b then full_end w else Ok (posted p w))
        → with_packets packets next ≡ (if b then full_end w else with_packets packets (posted p w))
    by true e = absurd (cc)
    by false e = let same : next ≡ posted p w = cc in ap (with_packets packets) same

-- a packet that has no room
pub full_is : (p : Sent) (w : World) → is_too_much w.pool p ≡ true → full_end w ≡ with_packets (p ∷ []) w
full_is p w full = rw full refl

-- a packet that has room
pub room_is : (p : Sent) (w : World) → is_too_much w.pool p ≡ false → Ok (posted p w) ≡ with_packets (p ∷ []) w
room_is p w room = rw room refl

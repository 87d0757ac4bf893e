-- What calls on books came to, told in another way.
use Rattle.std.proofs.Common.{Ok, Err}
use Rattle.std.specs.Prelude.{Result}
use Rattle.nys_rules.specs.declared.notice.End.{End}
use Rattle.nys_rules.specs.declared.notice.End.TheVariants.{NoPacket, Forged, Clash, PoolFull, NoMemory}
use Rattle.nys_rules.specs.World.{World}
use Rattle.nys_world.specs.Outcomes.{Happened}

-- an end is told by what may come of one who goes on from there
pub ended_so : {A B : Type 0} (Has : A → World → Type 0) (Later : B → World → Type 0) (may then : Result World End → Type 0) (end : End)
    → (may (Err end) → then (Err end)) → Happened Has may (Err end) → Happened Later then (Err end)
ended_so Has Later may then (NoPacket event packet have) move h = move h
ended_so Has Later may then (Forged event maker taker statement) move h = move h
ended_so Has Later may then (Clash event maker taker made taken) move h = move h
ended_so Has Later may then (PoolFull event packets bytes) move h = move h
ended_so Has Later may then NoMemory move h = tt

-- an end that may come
pub may_end : {A : Type 0} (Has : A → World → Type 0) (may : Result World End → Type 0) (end : End) → may (Err end) → Happened Has may (Err end)
may_end Has may (NoPacket event packet have) h = h
may_end Has may (Forged event maker taker statement) h = h
may_end Has may (Clash event maker taker made taken) h = h
may_end Has may (PoolFull event packets bytes) h = h
may_end Has may NoMemory h = tt

-- what may come in one way may come in another
pub happened_so : {A : Type 0} (Has : A → World → Type 0) (may then : Result World End → Type 0) (result : Result A End)
    → ((r : Result World End) → may r → then r) → Happened Has may result → Happened Has then result
happened_so Has may then (Ok after) move h = (h.0, move (Ok h.0) h.1, h.2)
happened_so Has may then (Err end) move h = ended_so Has Has may then end (move (Err end)) h

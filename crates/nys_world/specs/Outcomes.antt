-- What calls come to: the world goes on, or it ends.
use Rattle.std.specs.Prelude.{Result, Ok, Err}
use Rattle.nys_rules.specs.declared.notice.End.{End}
use Rattle.nys_rules.specs.declared.notice.End.TheVariants.{NoPacket, Forged, Clash, PoolFull, NoMemory}
use Rattle.nys_rules.specs.World.{Setting, World}
use Rattle.nys_source.specs.Rules.{Rules}
use Rattle.nys_world.specs.Shows.{Keeps, setting_of, ShowsOn}
use Rattle.nys_world.specs.declared.books.Books.{Books}
use Rattle.nys_world.specs.declared.moment.Moment.{Moment}
use Rattle.nys_world.specs.declared.stage.Stage.{Stage}

-- a call went on to what has a world that may come, or it ended as the world may; want of memory is free
abbrev pub Happened : {A : Type 0} → (A → World → Type 0) → (Result World End → Type 0) → Result A End → Type 0
Happened Has may (Ok after) = (next : World) × may (Ok next) × Has after next
Happened Has may (Err (NoPacket event packet have)) = may (Err (NoPacket event packet have))
Happened Has may (Err (Forged event maker taker statement)) = may (Err (Forged event maker taker statement))
Happened Has may (Err (Clash event maker taker made taken)) = may (Err (Clash event maker taker made taken))
Happened Has may (Err (PoolFull event packets bytes)) = may (Err (PoolFull event packets bytes))
Happened Has may (Err NoMemory) = Unit {0}

-- from each world that the parties and the books have, what may come came, and they have that world; of those of a
-- world that ended nothing is told
abbrev pub Goes : {P S : Type 0} → Rules S → Stage P S → (before after : Moment P S)
    → (Setting S → World → Result World End → Type 0) → Result (Unit {0}) End → Type 0
Goes rules stage before after may result =
    (w : World) → ShowsOn rules stage before w
    → Happened (λ _ next. ShowsOn rules stage after next) (may (setting_of rules stage) w) result

-- the books of each world have what comes of it afterwards
abbrev pub Writes : Books → Books → (World → World) → Type 0
Writes before after change = (w : World) → Keeps before w → Keeps after (change w)

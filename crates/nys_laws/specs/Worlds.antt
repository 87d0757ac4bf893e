-- What holds of each world that events make from the first.
use Rattle.std.specs.Prelude.{List, Ok}
use Rattle.nys_rules.specs.Events.{Plain}
use Rattle.nys_rules.specs.Happening.{HappenAll}
use Rattle.nys_rules.specs.World.{fresh_world, Setting, World}

-- a fact holds of the world after every list of events that goes on to its end
abbrev pub InEachWorld : {S : Type 0} → Setting S → (World → Type 0) → Type 0
InEachWorld setting Fact = (events : List Plain) (w : World)
    → HappenAll setting (fresh_world setting) events (Ok w) → Fact w

-- Worlds that events make.
use Rattle.std.proofs.Common.{◌≡◌, List, [], ◌∷◌, ◌++◌, Ok, Err, refl, subst}
use Rattle.std.specs.Prelude.{Result}
use Rattle.nys_rules.specs.declared.notice.End.{End}
use Rattle.nys_rules.specs.Events.{Plain}
use Rattle.nys_rules.specs.Happening.{HappenAll, Happens, Then}
use Rattle.nys_rules.specs.World.{fresh_world, Setting, World}
use Rattle.nys_source.specs.Rules.{Rules}
use Rattle.nys_world.specs.Worlds.{IsReached, IsWorldOf}
use Rattle.nys_world.specs.declared.world.World as made

-- events that follow others happen behind them
pub happen_more : {S : Type 0} (setting : Setting S) (w mid : World) (events more : List Plain) (result : Result World End)
    → HappenAll setting w events (Ok mid) → HappenAll setting mid more result → HappenAll setting w (events ++ more) result
happen_more setting w mid [] more result h behind =
    let same : mid ≡ w = cc in subst (λ (z : World). HappenAll setting z more result) same behind
happen_more {S} setting w mid (event ∷ events) more result h behind =
    (h.0, h.1, by h.0 h.2 (λ next rest. happen_more setting next mid events more result rest behind))
  where
    by : (first : Result World End) → Then first (Ok mid) (λ next. HappenAll setting next events (Ok mid))
        → ((next : World) → HappenAll setting next events (Ok mid) → HappenAll setting next (events ++ more) result)
        → Then first result (λ next. HappenAll setting next (events ++ more) result)
    by (Ok next) rest later = later next rest
    by (Err end) rest later = absurd (cc)

-- one event alone
pub happen_one : {S : Type 0} (setting : Setting S) (w next : World) (event : Plain)
    → Happens setting w event (Ok next) → HappenAll setting w (event ∷ []) (Ok next)
happen_one setting w next event happens = (Ok next, happens, refl)

-- what events make of a world that events made is made by events
pub reached_more : {S : Type 0} (setting : Setting S) (w next : World) (events : List Plain)
    → IsReached setting w → HappenAll setting w events (Ok next) → IsReached setting next
reached_more setting w next events reached happen = record {
  events = reached.events ++ events;
  happen = happen_more setting (fresh_world setting) w reached.events events (Ok next) reached.happen happen;
}

-- the world of the program has all that a world has which is the same
pub world_same : {P S : Type 0} (rules : Rules S) (world : made.World P S) (w next : World) → w ≡ next
    → IsWorldOf rules world w → IsWorldOf rules world next
world_same rules world w next same is = subst (IsWorldOf rules world) same is

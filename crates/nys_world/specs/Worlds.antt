-- Worlds of the program and worlds of the rules.
use Rattle.std.specs.Prelude.{ℕ, List, Ok}
use Rattle.nys_rules.specs.Events.{Plain}
use Rattle.nys_rules.specs.Happening.{HappenAll}
use Rattle.nys_rules.specs.World.{fresh_world, Setting, World}
use Rattle.nys_source.specs.Rules.{Rules}
use Rattle.nys_world.specs.Shows.{setting_of, ShowsOn}
use Rattle.nys_world.specs.declared.world.World as made

-- events make the world from the first one
pub record IsReached {S : Type 0} (setting : Setting S) (w : World) : Type 0 where
  pub events : List Plain
  pub happen : HappenAll setting (fresh_world setting) events (Ok w)

-- the world of the program has all that this world has, which events make
pub record IsWorldOf {P S : Type 0} (rules : Rules S) (world : made.World P S) (w : World) : Type 0 where
  pub shows : ShowsOn rules world.stage world.moment w
  pub reached : IsReached (setting_of rules world.stage) w

-- it has all that some world has
abbrev pub HasWorld : {P S : Type 0} → Rules S → made.World P S → Type 0
HasWorld rules world = (w : World) × IsWorldOf rules world w

-- how many events there were
abbrev pub events_of : {P S : Type 0} → made.World P S → ℕ
events_of world = world.moment.books.events

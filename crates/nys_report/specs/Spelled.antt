-- Worlds of the program whose report can be printed.
use Rattle.nys_rules.specs.Spelling.{SpellsLogs}
use Rattle.nys_rules.specs.World.{World}
use Rattle.nys_source.specs.Rules.{Rules}
use Rattle.nys_world.specs.Shows.{setting_of}
use Rattle.nys_world.specs.Worlds.{IsWorldOf}
use Rattle.nys_world.specs.declared.world.World as made

-- it has all that some world has which spells its logs
abbrev pub HasSpelled : {P S : Type 0} → Rules S → made.World P S → Type 0
HasSpelled rules world = (w : World) × IsWorldOf rules world w × SpellsLogs (setting_of rules world.stage) w

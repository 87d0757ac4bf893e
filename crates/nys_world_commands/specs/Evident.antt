-- What the text of `trace` tells with status 0: a world of its document, whose run has its evidence in what the
-- text prints.
use Rattle.std.specs.Prelude.{◌≡◌, ℕ, List, Ok}
use Rattle.nys_evidence.specs.Shown.{IsEvident}
use Rattle.nys_guard_commands.specs.Checked.{AreSound}
use Rattle.nys_guards.specs.declared.table.GuardGraph.{GuardGraph}
use Rattle.nys_report.specs.Trace.{trace}
use Rattle.nys_rules.specs.Events.{Plain}
use Rattle.nys_rules.specs.Happening.{HappenAll}
use Rattle.nys_rules.specs.World.{fresh_world, Setting, World}
use Rattle.nys_scenario.specs.Document.{Said}
use Rattle.nys_source.specs.Rules.{Rules}
use Rattle.nys_played.specs.Settings.{setting_by}

-- the text is the trace of a world that events make, and each input and receive of the world's run has its
-- evidence in its packets, byte strings and takings
pub record TracesWorld {S : Type 0} (setting : Setting S) (text : List ℕ) : Type 0 where
  pub world : World
  pub events : List Plain
  pub happen : HappenAll setting (fresh_world setting) events (Ok world)
  pub evident : IsEvident setting world
  pub text_is : text ≡ trace setting world

-- so it is among some good guard graphs of the document, where hosts follow these rules
pub record TracesDocument {S : Type 0} (rules : Rules S) (said : Said) (text : List ℕ) : Type 0 where
  pub graphs : List GuardGraph
  pub sound : AreSound said graphs
  pub traces : TracesWorld (setting_by rules graphs said.guarded.master said.guarded.liars) text

-- What is told of a world.
use Rattle.std.specs.Prelude.{ℕ, List}
use Rattle.nys_printed.specs.Report.{report}
use Rattle.nys_report.specs.Trace.{trace}
use Rattle.nys_rules.specs.World.{Setting, World}
use Rattle.nys_world_commands.specs.declared.telling.Telling.{Telling}
use Rattle.nys_world_commands.specs.declared.telling.Telling.TheVariants.{Report, Trace}

-- the text of a world: its report, or its trace, whose last part is the report
abbrev pub text_of : {S : Type 0} → Telling → Setting S → World → List ℕ
text_of Report setting w = report setting w
text_of Trace setting w = trace setting w

-- a schedule that is read has few events
use Rattle.nys_source_commands.proofs.FewLemmas.{bare_few}
use Rattle.nys_source_commands.proofs.bare_command.bare.Goals as goal

pub run_events-requires : goal.run_events-requires
run_events-requires g c = bare_few _ _ c.in-Ok.events.items c.in-Ok.ensures.ok

-- a run text that is read has few steps
use Rattle.nys_source_commands.proofs.FewLemmas.{run_few}
use Rattle.nys_source_commands.proofs.verify_command.read_and_take.Goals as goal

pub judge-requires : goal.judge-requires
judge-requires g c = rw c.as_slice.ensures.value (run_few _ c.in-Ok.steps.items c.in-Ok.ensures.ok)

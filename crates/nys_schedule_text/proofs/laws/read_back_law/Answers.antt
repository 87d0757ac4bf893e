use Rattle.nys_schedule_text.proofs.LineLemmas.{read_back}
use Rattle.nys_schedule_text.proofs.laws.read_back_law.Goals as goal

-- each line is read as its event
pub returns : goal.returns
returns c = read_back

-- The law, in any scenario.
use Rattle.nys_evidence.proofs.EvidenceWorlds.{evident_worlds}
use Rattle.nys_evidence.proofs.laws.evidence_law.Goals as goal

pub returns : goal.returns
returns g c = record { evident = λ setting asked. evident_worlds setting asked }

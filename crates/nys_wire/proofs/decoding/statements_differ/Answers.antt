use Rattle.nys_wire.proofs.Hashed.{one_spelling}
use Rattle.nys_wire.proofs.Alike.{alike_is_spelled}
use Rattle.nys_wire.proofs.decoding.statements_differ.Goals as goal

pub returns-clause-apart : goal.returns-clause-apart
returns-clause-apart c = one_spelling

pub returns-clause-alike : goal.returns-clause-alike
returns-clause-alike c = alike_is_spelled

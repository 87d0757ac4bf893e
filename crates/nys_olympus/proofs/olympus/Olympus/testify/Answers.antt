use Rattle.std.proofs.Common.{subst}
use Rattle.nys_olympus.specs.Heard.{IsTestimony}
use Rattle.nys_olympus.proofs.olympus.Olympus.testify.Goals as goal

-- what is said of a content in testimony is a report of a host
pub note_reports-requires-clause-host : goal.note_reports-requires-clause-host
note_reports-requires-clause-host g c = let placed = subst IsTestimony c.in-Filled.is c.requires.placed in placed.1

-- reports are noted
pub returns-in-Filled : goal.returns-in-Filled
returns-in-Filled g c =
    let placed = subst IsTestimony c.in-Filled.is c.requires.placed in
    rw (c.in-Filled.is, placed.0) c.note_reports.ensures

-- freezings are noted
pub returns-in-Frozen : goal.returns-in-Frozen
returns-in-Frozen g c = rw c.in-Frozen.is c.note_frozen.ensures

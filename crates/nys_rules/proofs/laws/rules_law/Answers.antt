-- The two laws, at any scope.
use Rattle.nys_rules.proofs.DueLemmas.{due_law}
use Rattle.nys_rules.proofs.SettleLemmas.{settles_once}
use Rattle.nys_rules.proofs.laws.rules_law.Goals as goal

pub returns-clause-due : goal.returns-clause-due
returns-clause-due g c = λ scope. due_law scope

pub returns-clause-once : goal.returns-clause-once
returns-clause-once g c = λ scope. settles_once scope

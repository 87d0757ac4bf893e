-- the steps that are left give from here what all of them give from the beginning
use Rattle.std.proofs.Common.{◌≡◌, ℕ, ◌≤◌, drop}
use Rattle.nys_source.specs.Source.{fresh}
use Rattle.nys_source.specs.Held.{shown}
use Rattle.nys_source_commands.specs.Answers.{first_refused}
use Rattle.nys_source_commands.proofs.verify_command.take_all.Given as goal

abbrev pub invariant-loop-at : goal.invariant-loop-at
invariant-loop-at g l = let rules = g.P.Protocol.rules l.fn.system.0 in record {
  protocol : l.now.0 ≡ l.fn.system.0;
  steps : first_refused rules l.at (shown rules l.now.1) (drop l.at l.steps) ≡ first_refused rules 0 (fresh rules) l.steps;
  room : (p h : ℕ) → (shown rules l.now.1).received p h ≤ l.at;
}

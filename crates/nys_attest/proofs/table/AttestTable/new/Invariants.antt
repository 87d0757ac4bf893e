-- As many windows without anything as there were turns.
use Rattle.std.proofs.Common.{◌≡◌}
use Rattle.std.specs.Prelude.{replicate}
use Rattle.nys_attest.specs.Windows.{no_window}
use Rattle.nys_attest.proofs.table.AttestTable.new.Given as goal

abbrev pub invariant-loop : goal.invariant-loop
invariant-loop l = l.links.items ≡ replicate l.counter no_window

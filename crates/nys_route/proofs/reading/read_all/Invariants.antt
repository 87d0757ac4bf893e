-- the ways so far are those that the numbers at their places show
use Rattle.nys_route.specs.Shown.{ShowAll}
use Rattle.nys_route.proofs.reading.read_all.Given as goal

abbrev pub invariant-loop-d : goal.invariant-loop-d
invariant-loop-d l = ShowAll l.n l.d l.numbers l.held.items

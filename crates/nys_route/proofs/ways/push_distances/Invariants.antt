-- the distances of the ways so far are appended
use Rattle.std.proofs.Common.{◌≡◌, ◌++◌, map, take}
use Rattle.std.specs.Prelude.{pos}
use Rattle.nys_route.proofs.ways.push_distances.Given as goal

abbrev pub invariant-loop-way : goal.invariant-loop-way
invariant-loop-way l = l.numbers.items ≡ l.fn.numbers.items ++ map (λ way. pos way.distance) (take l.way-index l.ways)

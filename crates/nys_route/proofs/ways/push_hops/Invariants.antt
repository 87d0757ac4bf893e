-- the hops of the ways so far are appended
use Rattle.std.proofs.Common.{◌≡◌, ◌++◌, map, take}
use Rattle.nys_route.specs.Routes.{hop_number}
use Rattle.nys_route.proofs.ways.push_hops.Given as goal

abbrev pub invariant-loop-way : goal.invariant-loop-way
invariant-loop-way l = l.numbers.items ≡ l.fn.numbers.items ++ map (λ way. hop_number way.hop) (take l.way-index l.ways)

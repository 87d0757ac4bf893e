use Rattle.std.proofs.Common.{◌≡◌, ◌==◌, drop}
use Rattle.std.specs.List.{list_any}
use Rattle.nys_rules.specs.Scope.{olympus}
use Rattle.nys_node.proofs.handle.has_olympus.Given as goal

-- none of the makers before is the Olympus
abbrev pub invariant-loop-i : goal.invariant-loop-i
invariant-loop-i l = list_any (λ m. m.maker == olympus) (drop l.i l.makers) ≡ list_any (λ m. m.maker == olympus) l.makers

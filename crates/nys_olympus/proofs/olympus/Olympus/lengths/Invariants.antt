use Rattle.std.proofs.Common.{◌≡◌, length, map}
use Rattle.std.specs.Prelude.{Some, None, if◌then◌else◌}
use Rattle.std.specs.List.{range_with_len}
use Rattle.nys_config.specs.Scopes.{scope_of}
use Rattle.nys_olympus.specs.Means.{Known}
use Rattle.nys_olympus.proofs.olympus.Olympus.lengths.Given as goal

-- the lengths of the hosts so far
abbrev pub invariant-loop-h : goal.invariant-loop-h
invariant-loop-h g l =
    Known (scope_of (g.P.Protocol.rules l.cx.protocol) l.cx) l.self
    (λ o. l.lengths ≡ map (λ h. if o.retired h then None else Some (length (o.decided h))) (range_with_len 0 l.h))
    × (length l.lengths ≡ l.h)

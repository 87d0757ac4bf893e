use Rattle.std.proofs.Common.{◌≡◌, ◌-◌, not}
use Rattle.std.specs.Prelude.{find}
use Rattle.std.specs.List.{range_with_len}
use Rattle.nys_rules.specs.Olympus.{is_settled, unsettled}
use Rattle.nys_config.specs.Scopes.{scope_of}
use Rattle.nys_olympus.specs.Means.{Known}
use Rattle.nys_olympus.proofs.olympus.Olympus.unsettled.Given as goal

-- no host so far is unsettled
abbrev pub invariant-loop-h : goal.invariant-loop-h
invariant-loop-h g l = let scope = scope_of (g.P.Protocol.rules l.cx.protocol) l.cx in
    Known scope l.self
    (λ o. find (λ h. not (is_settled o h)) (range_with_len l.h ((g.P.Protocol.rules l.cx.protocol).hosts - l.h)) ≡ unsettled scope o)

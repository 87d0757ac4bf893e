use Rattle.std.proofs.Common.{◌≡◌, ◌-◌}
use Rattle.std.specs.Prelude.{fold}
use Rattle.std.specs.List.{range_with_len}
use Rattle.nys_rules.specs.Olympus.{hosts_of}
use Rattle.nys_rules.specs.Packets.{joined}
use Rattle.nys_config.specs.Scopes.{scope_of}
use Rattle.nys_olympus.specs.Handing.{inheritances}
use Rattle.nys_olympus.specs.Means.{Known}
use Rattle.nys_olympus.proofs.olympus.Olympus.hand_over_all.Given as goal

-- what was handed over, with what is left, is all
abbrev pub invariant-loop-h : goal.invariant-loop-h
invariant-loop-h g l = let scope = scope_of (g.P.Protocol.rules l.cx.protocol) l.cx in
    Known scope l.self
    (λ o. fold joined l.out (inheritances scope o l.epoch (range_with_len l.h ((g.P.Protocol.rules l.cx.protocol).hosts - l.h)))
    ≡ fold joined l.fn.out (inheritances scope o l.epoch (hosts_of scope)))

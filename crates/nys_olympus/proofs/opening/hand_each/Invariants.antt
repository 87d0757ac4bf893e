use Rattle.std.proofs.Common.{◌≡◌, drop}
use Rattle.std.specs.Prelude.{fold}
use Rattle.nys_rules.specs.Packets.{joined}
use Rattle.nys_config.specs.Scopes.{scope_of}
use Rattle.nys_olympus.specs.Handing.{handed_from, handed_over}
use Rattle.nys_olympus.proofs.opening.hand_each.Given as goal

-- what was handed over, with what is left, is all
abbrev pub invariant-loop-slot : goal.invariant-loop-slot
invariant-loop-slot g l = let scope = scope_of (g.P.Protocol.rules l.cx.protocol) l.cx in
    fold joined l.out (handed_from scope l.epoch l.h l.slot (drop l.slot l.contents)) ≡ fold joined l.fn.out (handed_over scope l.epoch l.h l.contents)

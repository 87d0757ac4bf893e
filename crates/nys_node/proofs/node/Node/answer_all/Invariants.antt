use Rattle.std.proofs.Common.{◌≡◌, drop}
use Rattle.nys_node.specs.Means.{Known}
use Rattle.nys_config.specs.Scopes.{scope_of}
use Rattle.nys_rules.specs.Asking.{answering}
use Rattle.nys_rules.specs.Packets.{joined}
use Rattle.nys_node.proofs.node.Node.answer_all.Given as goal

-- what was answered, with the makers that are left, is all
abbrev pub invariant-loop-i : goal.invariant-loop-i
invariant-loop-i g l = let scope = scope_of (g.P.Protocol.rules l.cx.protocol) l.cx in
    Known scope l.self (λ v. joined l.out (answering scope v l.h l.slot (drop l.i l.makers)) ≡ joined l.fn.out (answering scope v l.h l.slot l.makers))

use Rattle.std.proofs.Common.{◌≡◌}
use Rattle.std.specs.Prelude.{filter_map}
use Rattle.std.specs.List.{range_with_len}
use Rattle.nys_node.specs.Means.{Known}
use Rattle.nys_sending.specs.Receivers.{replied}
use Rattle.nys_config.specs.Scopes.{scope_of}
use Rattle.nys_rules.specs.Asking.{attest_record}
use Rattle.nys_rules.specs.Packets.{joined}
use Rattle.nys_node.proofs.node.Node.reply_window.Given as goal

-- the numbers before this one were looked at
abbrev pub invariant-loop-i : goal.invariant-loop-i
invariant-loop-i g l = let scope = scope_of (g.P.Protocol.rules l.cx.protocol) l.cx in
    Known scope l.self (λ v. l.out ≡ joined l.fn.out (replied v.me l.asker (filter_map (attest_record scope v l.p l.h) (range_with_len l.next l.i))))

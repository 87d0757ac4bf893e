use Rattle.std.proofs.Common.{◌≡◌}
use Rattle.std.specs.Prelude.{filter, flat_map}
use Rattle.std.specs.List.{range_with_len}
use Rattle.nys_node.specs.Means.{Known}
use Rattle.nys_node.specs.Replies.{window_of}
use Rattle.nys_sending.specs.Receivers.{replied}
use Rattle.nys_config.specs.Scopes.{scope_of}
use Rattle.nys_rules.specs.Packets.{joined}
use Rattle.nys_node.proofs.node.Node.reply_links.Given as goal

-- the links from hosts before this one were looked at
abbrev pub invariant-loop-p : goal.invariant-loop-p
invariant-loop-p g l = let rules = g.P.Protocol.rules l.cx.protocol in let scope = scope_of rules l.cx in
    Known scope l.self (λ v. l.out ≡ joined l.fn.out (replied v.me l.asker (flat_map (window_of scope v l.h) (filter (λ q. rules.linked q l.h) (range_with_len 0 l.p)))))

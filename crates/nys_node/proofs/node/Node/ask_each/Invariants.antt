use Rattle.std.proofs.Common.{◌≡◌, map}
use Rattle.std.specs.Prelude.{filter}
use Rattle.std.specs.List.{range_with_len}
use Rattle.nys_node.specs.Asked.{asked_of, is_asked}
use Rattle.nys_node.specs.Means.{Known}
use Rattle.nys_config.specs.Scopes.{scope_of}
use Rattle.nys_rules.specs.Packets.{all_joined, joined}
use Rattle.nys_node.proofs.node.Node.ask_each.Given as goal

-- what was asked so far is asked about the hosts before this one
abbrev pub invariant-loop-h : goal.invariant-loop-h
invariant-loop-h g l = let scope = scope_of (g.P.Protocol.rules l.cx.protocol) l.cx in
    Known scope l.self (λ v. l.out ≡ joined l.fn.out (all_joined (map (asked_of scope v) (filter (is_asked scope v) (range_with_len 0 l.h)))))

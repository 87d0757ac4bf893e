use Rattle.std.proofs.Common.{ap, ◌∙◌}
use Rattle.std.specs.Prelude.{nat_le}
use Rattle.nys_config.specs.Scopes.{scope_of}
use Rattle.nys_rules.specs.Scope.{quorum_at}
use Rattle.nys_votes.specs.Seats.{count_all}
use Rattle.nys_node.proofs.node.Node.is_certified.Goals as goal

-- the quorum is the host's, and the desk the view's
pub returns : goal.returns
returns g c = λ v m.
    ap (λ q. nat_le q c.collected.result) (c.quorum.ensures v m)
    ∙ ap (λ n. nat_le (quorum_at (scope_of (g.P.Protocol.rules c.args.cx.now.protocol) c.args.cx.now) v.epoch c.args.h) n) (c.collected.ensures.count ∙ ap (λ desk. count_all desk.orders) (c.desk.ensures _ v m))

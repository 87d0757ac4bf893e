use Rattle.std.proofs.Common.{arith, ap, ◌∙◌, ◌+◌}
use Rattle.nys_config.proofs.Scopes.{few_liars}
use Rattle.nys_config.specs.Scopes.{scope_of}
use Rattle.nys_votes.specs.Delivered.{voted_by}
use Rattle.nys_node.proofs.node.Node.backed.Goals as goal

-- a configuration has few liars
pub overflow_add-threshold : goal.overflow_add-threshold
overflow_add-threshold g c = omega (
  arith,
  c.threshold.ensures,
  few_liars (g.P.Protocol.rules c.args.cx.now.protocol) c.args.cx.now (g.P.Protocol.rules c.args.cx.now.protocol).hosts c.args.self.now.epoch c.args.h c.requires.config,
)

-- the desk is the view's
pub returns : goal.returns
returns g c = λ v m. c.voted_by.ensures _ v m
    ∙ ap (λ t. voted_by (t + 1) (v.desks c.args.h).votes) (c.threshold.ensures ∙ ap (λ e. (scope_of (g.P.Protocol.rules c.args.cx.now.protocol) c.args.cx.now).t e c.args.h) m.epoch)

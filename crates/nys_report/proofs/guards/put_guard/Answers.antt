-- each log gives what the printed run gives its host
use Rattle.std.proofs.Common.{◌++◌, ap, ◌∙◌}
use Rattle.std.proofs.lemmas.Result.{on_ok_weaker}
use Rattle.nys_config.specs.Scopes.{scope_of}
use Rattle.nys_report.proofs.SpelledLemmas.{guard_of_world}
use Rattle.nys_report.proofs.guards.put_guard.Goals as goal

pub returns : goal.returns
returns g c =
    let scope = scope_of (g.P.Protocol.rules c.args.cx.now.protocol) c.args.cx.now in
    on_ok_weaker c.put_replicas.result (λ printed setting w is.
    printed (w.nodes c.args.g) is.means
    ∙ ap (λ t. c.args.out.now ++ t) (guard_of_world scope setting w c.args.g c.args.node.now is))
    c.put_replicas.ensures

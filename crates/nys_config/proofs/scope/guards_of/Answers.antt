use Rattle.std.proofs.Common.{rules, ◌≤◌, ◌∙◌, length}
use Rattle.nys_config.proofs.Scopes.{none_guards_then}
use Rattle.nys_config.proofs.scope.guards_of.Goals as goal

-- past the last epoch nobody guards
pub returns-in-None : goal.returns-in-None
returns-in-None g c = λ x.
    let past : length c.args.cx.now.epochs.items ≤ c.args.epoch = search rules in
    c.empty.ensures x ∙ none_guards_then (g.P.Protocol.rules c.args.cx.now.protocol) c.args.cx.now c.args.epoch c.args.h x past

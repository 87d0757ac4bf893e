use Rattle.std.proofs.Common.{rules, ◌≤◌, ◌∙◌, length}
use Rattle.nys_config.proofs.Scopes.{none_guards}
use Rattle.nys_config.proofs.scope.guards_in.Goals as goal

-- past the last host there are no guards
pub returns-in-None : goal.returns-in-None
returns-in-None c = λ g.
    let past : length c.args.guarded.now.guards ≤ c.args.h = search rules in
    c.empty.ensures g ∙ none_guards c.args.guarded.now.guards c.args.h g past

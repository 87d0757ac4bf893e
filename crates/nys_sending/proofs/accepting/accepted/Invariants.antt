use Rattle.std.proofs.Common.{◌≡◌, ◌++◌, ◌∷◌}
use Rattle.std.specs.Prelude.{filter}
use Rattle.nys_rules.specs.Dropping.{accepts}
use Rattle.nys_config.specs.Scopes.{scope_of}
use Rattle.nys_sending.proofs.accepting.accepted.Given as goal

-- what is kept, with the makers left that are accepted, is all that are accepted
abbrev pub invariant-loop-maker : goal.invariant-loop-maker
invariant-loop-maker g l = let test = accepts (scope_of (g.P.Protocol.rules l.cx.protocol) l.cx) l.given.statement.epoch l.taker l.given.statement in
    l.kept.items ++ filter test l.maker-iterator ≡ l.fn.first.maker ∷ filter test l.fn.first.behind

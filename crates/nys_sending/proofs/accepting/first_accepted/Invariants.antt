use Rattle.std.proofs.Common.{◌≡◌}
use Rattle.std.specs.Prelude.{filter}
use Rattle.nys_rules.specs.Dropping.{accepts}
use Rattle.nys_config.specs.Scopes.{scope_of}
use Rattle.nys_sending.proofs.accepting.first_accepted.Given as goal

-- none of the makers before is accepted
abbrev pub invariant-loop-maker : goal.invariant-loop-maker
invariant-loop-maker g l = let test = accepts (scope_of (g.P.Protocol.rules l.cx.protocol) l.cx) l.given.statement.epoch l.taker l.given.statement in
    filter test l.given.makers ≡ filter test l.left

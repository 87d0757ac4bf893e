-- What a node says of its epoch is in range.
use Rattle.std.proofs.Common.{ℕ, ◌≤◌, arith}
use Rattle.nys_node.specs.Means.{Means}
use Rattle.nys_config.specs.Scopes.{scope_of}
use Rattle.nys_node.specs.declared.node.Node.{Node}
use Rattle.nys_config.specs.Config.{IsConfig}
use Rattle.nys_config.specs.declared.config.Config.{Config}
use Rattle.nys_rules.specs.View.{View}
use Rattle.nys_source.specs.Rules.{Rules}
use Rattle.nys_stmt.specs.Ranges.{IsBodyInRange, IsInRange}
use Rattle.nys_stmt.specs.declared.statement.Body.{Body}
use Rattle.nys_rules.specs.Sending.{said_in}

-- the epoch of a node fits a statement
pub epoch_fits : {P S : Type 0} (hosts : ℕ) (rules : Rules S) (cx : Config P) (node : Node P S) (v : View) → IsConfig hosts cx → Means (scope_of rules cx) node v → node.epoch ≤ 63
unfolding scope_of
epoch_fits hosts rules cx node v config m = omega (arith, m.epoch, m.within, config.few)

-- a statement of the epoch is in range where its body is
pub says_in_range : {P S : Type 0} (hosts : ℕ) (rules : Rules S) (cx : Config P) (node : Node P S) (v : View) (body : Body) → IsConfig hosts cx → Means (scope_of rules cx) node v
    → IsBodyInRange body → IsInRange (said_in node.epoch body)
says_in_range hosts rules cx node v body config m range = record { epoch = epoch_fits hosts rules cx node v config m; body = range }

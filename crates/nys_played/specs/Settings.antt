-- The scenario that hosts are replicated in, by the guard graphs of its epochs and its keys.
use Rattle.std.specs.Prelude.{ℕ, List}
use Rattle.nys_config.specs.Scopes.{scope_by}
use Rattle.nys_guards.specs.declared.table.GuardGraph.{GuardGraph}
use Rattle.nys_rules.specs.World.{Setting}
use Rattle.nys_scenario.specs.Hosts.{Hosts}
use Rattle.nys_source.specs.Rules.{Rules}

-- the protocol, the guards of its hosts and tags under the keys that come from the master key, with the
-- hosts that lie
abbrev pub setting_by : {S : Type 0} → Rules S → List GuardGraph → List ℕ → Hosts → Setting S
setting_by rules graphs master liars = record { scope = scope_by rules graphs master; liars = liars }

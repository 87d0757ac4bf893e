-- The scope of a configuration.
use Rattle.std.proofs.Common.{◌≡◌, List, ℕ}
use Rattle.nys_config.specs.Scopes.{scope_by, scope_of}
use Rattle.nys_config.specs.declared.config.Config.{Config}
use Rattle.nys_guards.specs.declared.table.GuardGraph.{GuardGraph}
use Rattle.nys_source.specs.Rules.{Rules}

-- its scope is that of the guard graphs and the master key
pub same_scope : {P S : Type 0} (rules : Rules S) (cx : Config P) (graphs : List GuardGraph) (master : List ℕ)
    → cx.epochs.items ≡ graphs → cx.keys ≡ master → scope_of rules cx ≡ scope_by rules graphs master
unfolding scope_of
same_scope rules cx graphs master epochs keys = λ i. scope_by rules (epochs i) (keys i)

-- What all honest parties know, as the definitions have it.
use Rattle.std.specs.Prelude.{ℕ, List, [], length, slice_index_or}
use Rattle.nys_guards.specs.Good.{guards_in, threshold_in}
use Rattle.nys_guards.specs.declared.table.GuardGraph.{GuardGraph}
use Rattle.nys_mac.specs.Tags.{tag_of}
use Rattle.nys_config.specs.declared.config.Config.{Config}
use Rattle.nys_rules.specs.Scope.{Scope}
use Rattle.nys_source.specs.Rules.{Rules}
use Rattle.nys_stmt.specs.Spelling.{spelling}

-- an epoch past the last: nobody guards a host, and no liars are stood
abbrev pub no_epoch : GuardGraph
no_epoch = record { t = []; credit = 0; guards = [] }

-- the guards of an epoch, with the threshold of each host and the credit
abbrev pub graph_at : List GuardGraph → ℕ → GuardGraph
graph_at graphs e = slice_index_or graphs e no_epoch

-- the protocol with the guard graphs of its epochs and tags under the keys that come from the master key: a
-- tag is made under the key of maker and receiver from the spelling of the statement
abbrev pub scope_by : {S : Type 0} → Rules S → List GuardGraph → List ℕ → Scope S
scope_by rules graphs master = record {
  rules = rules;
  epochs = length graphs;
  guards = λ e h g. guards_in (graph_at graphs e).guards h g;
  t = λ e h. threshold_in (graph_at graphs e).t h;
  credit = λ e. (graph_at graphs e).credit;
  tag = λ maker receiver statement. tag_of master maker receiver (spelling statement);
}

-- the scope of a configuration
unfoldable pub scope_of : {P S : Type 0} → Rules S → Config P → Scope S
scope_of rules cx = scope_by rules cx.epochs.items cx.keys

-- the scope of a configuration, by the rules of its protocol
abbrev pub scope_in : {P S : Type 0} → (P → Rules S) → Config P → Scope S
scope_in rules cx = scope_of (rules cx.protocol) cx

-- Guard graphs that can be played on make a scenario whose worlds keep what worlds promise.
use Rattle.std.proofs.Common.{◌≡◌, ℕ, ◌<◌, ◌≤◌, Bool, true, false, List, [], ◌∷◌, All, length, inl, inr, sym, ap, subst, ◌∙◌, arith}
use Rattle.std.proofs.lemmas.Bool.{cases_lt}
use Rattle.std.proofs.lemmas.List.{get_or_past}
use Rattle.std.proofs.lemmas.List.Elements.{All-cons, All-get_or, All-head, All-nil, All-tail, All-weaker}
use Rattle.nys_config.proofs.Scopes.{none_guards}
use Rattle.nys_config.specs.Config.{IsEpoch}
use Rattle.nys_config.specs.Scopes.{graph_at, no_epoch, scope_by}
use Rattle.nys_follows.proofs.PromisedWorlds.{each_on_the_way}
use Rattle.nys_follows.specs.Scenario.{GuardsWithin, IsScenario}
use Rattle.nys_guard_commands.proofs.GraphsLemmas.{all_rows, length_graphs}
use Rattle.nys_guard_commands.specs.Checked.{AreSound, EndsAt}
use Rattle.nys_guard_commands.specs.Graphs.{AreGraphsOf, IsGraphOf, thresholds_of}
use Rattle.nys_guard_commands.specs.Liars.{Stands}
use Rattle.nys_guards.specs.Good.{guards_in}
use Rattle.nys_guards.specs.declared.table.GuardGraph.{GuardGraph}
use Rattle.nys_scenario.specs.Bounds.{HasHosts, IsBounded}
use Rattle.nys_scenario.specs.Document.{Said}
use Rattle.nys_scenario.specs.Epochs.{Epoch}
use Rattle.nys_scenario.specs.Hosts.{Hosts}
use Rattle.nys_scenario.specs.declared.needs.Needs.{Needs}
use Rattle.nys_source.specs.Rules.{Rules}
use Rattle.nys_played.proofs.EpochLemmas.{guards_below}
use Rattle.nys_world_commands.specs.Playing.{ArePlayable}
use Rattle.nys_world_commands.specs.Promised.{IsReplayPromised, IsSchedulePromised}
use Rattle.nys_played.specs.Settings.{setting_by}

-- a host is guarded in an epoch that there is
epoch_guarded : (graphs : List GuardGraph) (e h g : ℕ) → guards_in (graph_at graphs e).guards h g ≡ true → e < length graphs
epoch_guarded graphs e h g here = elim (cases_lt e (length graphs)) [
  | inl inside ↦ inside
  | inr past ↦
      let none : false ≡ true = none_guards [] h g (omega arith)
      ∙ sym (ap (λ (graph : GuardGraph). guards_in graph.guards h g) (get_or_past graphs e no_epoch past)) ∙ here in
      absurd (cc)
]

-- what is guarded is a host, where guards end at the last host
host_guarded : (hosts : ℕ) (graph : GuardGraph) (h g : ℕ) → EndsAt hosts graph → guards_in graph.guards h g ≡ true → h < hosts
host_guarded hosts graph h g ends here = elim (cases_lt h hosts) [
  | inl host ↦ host
  | inr past ↦
      let none : false ≡ true = sym (ends.rows h g past) ∙ here in
      absurd (cc)
]

-- all guards of a guard graph's hosts are hosts
pub record GuardsAreHosts (hosts : ℕ) (graph : GuardGraph) : Type 0 where
  pub within : (h g : ℕ) → h < hosts → guards_in graph.guards h g ≡ true → g < hosts

-- only hosts guard hosts, and in an epoch that there is
guards_there : {S : Type 0} (rules : Rules S) (graphs : List GuardGraph) (master : List ℕ) (e h g : ℕ) → All (EndsAt rules.hosts) graphs
    → All (GuardsAreHosts rules.hosts) graphs → guards_in (graph_at graphs e).guards h g ≡ true
    → GuardsWithin (scope_by rules graphs master) e h g
guards_there rules graphs master e h g ends guards here =
    let epoch = epoch_guarded graphs e h g here in
    let host = host_guarded rules.hosts (graph_at graphs e) h g (All-get_or (EndsAt rules.hosts) graphs e no_epoch epoch ends) here in
    record {
      epoch = epoch;
      host = host;
      guard = (All-get_or (GuardsAreHosts rules.hosts) graphs e no_epoch epoch guards).within h g host here;
    }

-- what is asked of a scenario holds, where there is an epoch, only hosts guard hosts, and each epoch stands the liars
scenario_of : {S : Type 0} (rules : Rules S) (graphs : List GuardGraph) (master : List ℕ) (liars : Hosts) → rules.hosts ≤ 32
    → 1 ≤ length graphs → All (EndsAt rules.hosts) graphs → All (GuardsAreHosts rules.hosts) graphs → All (Stands rules.hosts liars) graphs
    → IsScenario (setting_by rules graphs master liars)
scenario_of rules graphs master liars hosts some ends guards stand = record {
  some = some;
  hosts = hosts;
  guards = λ e h g here. guards_there rules graphs master e h g ends guards here;
  few = λ e epoch h host. (All-get_or (Stands rules.hosts liars) graphs e no_epoch epoch stand).within h host;
}

-- it holds of guard graphs that can be played on
pub scenario_playable : {S : Type 0} (rules : Rules S) (graphs : List GuardGraph) (master : List ℕ) (liars : Hosts) → rules.hosts ≤ 32
    → ArePlayable rules.hosts liars graphs → IsScenario (setting_by rules graphs master liars)
scenario_playable rules graphs master liars hosts playable =
    scenario_of rules graphs master liars hosts playable.some playable.ends
    (All-weaker (IsEpoch rules.hosts) (GuardsAreHosts rules.hosts) (λ graph epoch. record { within = epoch.within }) graphs playable.epochs)
    playable.stand

-- so each world on the way of a schedule keeps what worlds promise
pub schedule_promised : {S : Type 0} (rules : Rules S) (graphs : List GuardGraph) (master : List ℕ) (liars : Hosts) (text : List ℕ)
    → rules.hosts ≤ 32 → ArePlayable rules.hosts liars graphs → IsSchedulePromised (setting_by rules graphs master liars) text
schedule_promised rules graphs master liars text hosts playable events read =
    each_on_the_way (setting_by rules graphs master liars) events (scenario_playable rules graphs master liars hosts playable)

-- guards of an epoch that lists hosts alone are hosts
guards_of_epoch : (hosts : ℕ) (linked : ℕ → ℕ → Bool) (epoch : Epoch) (graph : GuardGraph) → IsGraphOf hosts linked epoch graph
    → HasHosts hosts epoch → GuardsAreHosts hosts graph
guards_of_epoch hosts linked epoch graph is listed = record {
  within = λ h g host here.
      guards_below hosts linked (thresholds_of hosts epoch) epoch.guards (guards_in graph.guards) h g host listed is.guards here;
}

-- so are those of each epoch of a list
guards_of_epochs : (hosts : ℕ) (linked : ℕ → ℕ → Bool) (epochs : List Epoch) (graphs : List GuardGraph)
    → AreGraphsOf hosts linked epochs graphs → All (HasHosts hosts) epochs → All (GuardsAreHosts hosts) graphs
guards_of_epochs hosts linked [] [] are listed = All-nil (GuardsAreHosts hosts)
guards_of_epochs hosts linked [] (g ∷ gs) are listed = absurd are
guards_of_epochs hosts linked (e ∷ es) [] are listed = absurd are
guards_of_epochs hosts linked (e ∷ es) (g ∷ gs) are listed =
    All-cons (GuardsAreHosts hosts) g gs
    (guards_of_epoch hosts linked e g are.0 (All-head (HasHosts hosts) e es listed))
    (guards_of_epochs hosts linked es gs are.1 (All-tail (HasHosts hosts) e es listed))

-- a document that has an epoch makes such a scenario among its guard graphs, where hosts follow these rules
pub scenario_said : {S : Type 0} (rules : Rules S) (needs : Needs) (said : Said) (graphs : List GuardGraph) → rules.hosts ≡ said.system.hosts
    → said.system.hosts ≤ 32 → needs.epochs ≡ true → IsBounded needs said → AreSound said graphs
    → IsScenario (setting_by rules graphs said.guarded.master said.guarded.liars)
scenario_said rules needs said graphs same few needed bounded sound =
    let hosts = said.system.hosts in
    let epochs = said.guarded.epochs in
    let as_many = length_graphs hosts said.system.linked epochs graphs sound.graphs_of in
    scenario_of rules graphs said.guarded.master said.guarded.liars (subst (λ n. n ≤ 32) (sym same) few)
    (rw as_many (bounded.needed needed))
    (subst (λ n. All (EndsAt n) graphs) (sym same) (all_rows hosts said.system.linked epochs graphs sound.graphs_of bounded.past))
    (subst (λ n. All (GuardsAreHosts n) graphs) (sym same)
    (guards_of_epochs hosts said.system.linked epochs graphs sound.graphs_of bounded.guards))
    (subst (λ n. All (Stands n said.guarded.liars) graphs) (sym same) sound.stand)

-- what `replay` promises of it
pub replay_promised : {S : Type 0} (rules : Rules S) (needs : Needs) (said : Said) → rules.hosts ≡ said.system.hosts
    → said.system.hosts ≤ 32 → needs.epochs ≡ true → IsBounded needs said → IsReplayPromised rules said
replay_promised rules needs said same few needed bounded graphs sound events read =
    each_on_the_way (setting_by rules graphs said.guarded.master said.guarded.liars) events
    (scenario_said rules needs said graphs same few needed bounded sound)

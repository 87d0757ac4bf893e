-- The guard graphs of epochs: those that are listed, and those that are planned where none are.
use Rattle.std.specs.Prelude.{◌≡◌, ℕ, ◌<◌, ◌++◌, Bool, nat_lt, if◌then◌else◌, List, [], ◌∷◌, Option, Some, None, length, slice_index_or}
use Rattle.nys_answer.specs.declared.answer.Answer.{Answer}
use Rattle.nys_hosts.specs.Sets.{has, no_hosts}
use Rattle.nys_guards.specs.Good.{guards_in, threshold_in, IsGood}
use Rattle.nys_guards.specs.Faults.{IsFirstFault}
use Rattle.nys_guards.specs.declared.table.GuardGraph.{GuardGraph}
use Rattle.nys_plan.specs.Planned.{AreOfHostsBelow, IsPlanned}
use Rattle.nys_plan.specs.Refused.{IsPlanFault}
use Rattle.nys_scenario.specs.Epochs.{Epoch}
use Rattle.nys_scenario.specs.Hosts.{Hosts}
use Rattle.nys_guard_commands.specs.Words.{guards_answer}
use Rattle.nys_guard_commands.specs.declared.fault.EpochFault.{EpochFault}
use Rattle.nys_guard_commands.specs.declared.fault.EpochFault.TheVariants.{Unplanned, NotGood}

-- host g guards host h, by a list that has for each host its guards
abbrev pub listed : List Hosts → ℕ → ℕ → Bool
listed sets h = slice_index_or sets h (has no_hosts)

-- the threshold of host h: its own where they are given, else this one; past the last host none
abbrev pub thresholds_by : ℕ → ℕ → Option (List ℕ) → ℕ → ℕ
thresholds_by hosts t (Some own) h = threshold_in own h
thresholds_by hosts t None h = if nat_lt h hosts then t else 0

-- the thresholds of an epoch
abbrev pub thresholds_of : ℕ → Epoch → ℕ → ℕ
thresholds_of hosts epoch = thresholds_by hosts epoch.t epoch.thresholds

-- these are the guards of an epoch: the listed ones, or where none are listed the planned ones, of hosts alone
abbrev pub AreGuards : ℕ → (ℕ → ℕ → Bool) → (ℕ → ℕ) → Option (List Hosts) → (ℕ → ℕ → Bool) → Type 0
AreGuards hosts linked t (Some sets) guards = guards ≡ listed sets
AreGuards hosts linked t None guards =
    ((h : ℕ) → h < hosts → IsPlanned hosts linked t h (guards h)) × AreOfHostsBelow hosts guards

-- a guard graph is that of an epoch: it has the epoch's thresholds, credit and guards, and they are good
pub record IsGraphOf (hosts : ℕ) (linked : ℕ → ℕ → Bool) (epoch : Epoch) (graph : GuardGraph) : Type 0 where
  pub t : threshold_in graph.t ≡ thresholds_of hosts epoch
  pub credit : graph.credit ≡ epoch.credit
  pub guards : AreGuards hosts linked (thresholds_of hosts epoch) epoch.guards (guards_in graph.guards)
  pub good : IsGood hosts linked (thresholds_of hosts epoch) epoch.credit (guards_in graph.guards)

-- guard graphs are those of epochs, each of the epoch at its place
abbrev pub AreGraphsOf : ℕ → (ℕ → ℕ → Bool) → List Epoch → List GuardGraph → Type 0
AreGraphsOf hosts linked [] [] = Unit {0}
AreGraphsOf hosts linked [] (graph ∷ graphs) = ⊥
AreGraphsOf hosts linked (epoch ∷ epochs) [] = ⊥
AreGraphsOf hosts linked (epoch ∷ epochs) (graph ∷ graphs) =
    IsGraphOf hosts linked epoch graph × AreGraphsOf hosts linked epochs graphs

-- what is wrong with guards: none can be planned where none are listed, or those listed are not good
abbrev pub IsFaultOf : ℕ → (ℕ → ℕ → Bool) → (ℕ → ℕ) → ℕ → Option (List Hosts) → EpochFault → Type 0
IsFaultOf hosts linked t credit None (Unplanned fault) = IsPlanFault hosts linked t credit fault
IsFaultOf hosts linked t credit None (NotGood fault) = ⊥
IsFaultOf hosts linked t credit (Some sets) (Unplanned fault) = ⊥
IsFaultOf hosts linked t credit (Some sets) (NotGood fault) = IsFirstFault hosts linked t credit (listed sets) fault

-- the answer names what is wrong with the guards of an epoch, which is epoch e
pub record IsEpochAnswer (hosts : ℕ) (linked : ℕ → ℕ → Bool) (e : ℕ) (epoch : Epoch) (answer : Answer) : Type 0 where
  pub fault : EpochFault
  pub found : IsFaultOf hosts linked (thresholds_of hosts epoch) epoch.credit epoch.guards fault
  pub text : answer ≡ guards_answer e fault

-- the answer names what is wrong with the guards of the first epoch whose guards are refused
pub record IsGuardsAnswer (hosts : ℕ) (linked : ℕ → ℕ → Bool) (epochs : List Epoch) (answer : Answer) : Type 0 where
  pub before : List Epoch
  pub epoch : Epoch
  pub after : List Epoch
  pub split : epochs ≡ before ++ epoch ∷ after
  -- those before it have good guards
  pub graphs : List GuardGraph
  pub good : AreGraphsOf hosts linked before graphs
  pub here : IsEpochAnswer hosts linked (length before) epoch answer

-- Liars among the guards of epochs.
use Rattle.std.specs.Prelude.{◌≡◌, ℕ, ◌++◌, List, ◌∷◌, All, length}
use Rattle.nys_answer.specs.declared.answer.Answer.{Answer}
use Rattle.nys_guards.specs.Good.{guards_in, threshold_in, AreWithin}
use Rattle.nys_guards.specs.Faults.{IsFirstTooMany}
use Rattle.nys_guards.specs.declared.fault.TooMany.{TooMany}
use Rattle.nys_guards.specs.declared.table.GuardGraph.{GuardGraph}
use Rattle.nys_scenario.specs.Hosts.{Hosts}
use Rattle.nys_guard_commands.specs.Words.{liars_answer}

-- no host has more liars among its guards than its threshold
pub record Stands (hosts : ℕ) (liars : Hosts) (graph : GuardGraph) : Type 0 where
  pub within : AreWithin hosts (threshold_in graph.t) (guards_in graph.guards) liars

-- the answer names the lowest host that has too many liars among its guards, in epoch e
pub record IsLiarsAt (hosts : ℕ) (liars : Hosts) (e : ℕ) (graph : GuardGraph) (answer : Answer) : Type 0 where
  pub fault : TooMany
  pub found : IsFirstTooMany hosts (threshold_in graph.t) (guards_in graph.guards) liars fault
  pub text : answer ≡ liars_answer e fault

-- the answer names the lowest such host in the first epoch that has one
pub record IsLiarsAnswer (hosts : ℕ) (liars : Hosts) (graphs : List GuardGraph) (answer : Answer) : Type 0 where
  pub before : List GuardGraph
  pub graph : GuardGraph
  pub after : List GuardGraph
  pub split : graphs ≡ before ++ graph ∷ after
  -- those before it stand the liars
  pub stand : All (Stands hosts liars) before
  pub here : IsLiarsAt hosts liars (length before) graph answer

-- What `check` answers.
use Rattle.std.specs.Prelude.{◌≡◌, ℕ, ◌≤◌, ◌⊎◌, ◌++◌, List, All, codes, length, flat_map}
use Rattle.std.specs.List.{range_with_len}
use Rattle.nys_answer.specs.declared.answer.Answer.{Answer}
use Rattle.nys_answer.specs.declared.status.Status.TheVariants.{Done}
use Rattle.nys_guards.specs.Good.{guards_in, AreThresholds}
use Rattle.nys_guards.specs.declared.table.GuardGraph.{GuardGraph}
use Rattle.nys_plan.specs.Planned.{AreOfHostsBelow}
use Rattle.nys_scenario.specs.Document.{Said}
use Rattle.nys_hosts.specs.declared.limits.TheConstants.{MAX_CREDIT}
use Rattle.nys_guard_commands.specs.Graphs.{AreGraphsOf, IsGuardsAnswer}
use Rattle.nys_guard_commands.specs.Liars.{Stands, IsLiarsAnswer}
use Rattle.nys_guard_commands.specs.Words.{numbered}

-- the guard graphs of a scenario, each of which is good and stands its liars
pub record AreSound (said : Said) (graphs : List GuardGraph) : Type 0 where
  pub graphs_of : AreGraphsOf said.system.hosts said.system.linked said.guarded.epochs graphs
  pub stand : All (Stands said.system.hosts said.guarded.liars) graphs

-- the numbers of a guard graph are ones that an epoch may have
pub record IsSmall (graph : GuardGraph) : Type 0 where
  pub t : AreThresholds graph.t
  pub some : 1 ≤ graph.credit
  pub credit : graph.credit ≤ MAX_CREDIT

-- a guard graph gives no guards to a number that is no host
pub record EndsAt (hosts : ℕ) (graph : GuardGraph) : Type 0 where
  pub rows : AreOfHostsBelow hosts (guards_in graph.guards)

-- all guards are good, and an epoch has too many liars
pub record IsTooManyLiars (said : Said) (answer : Answer) : Type 0 where
  pub graphs : List GuardGraph
  pub graphs_of : AreGraphsOf said.system.hosts said.system.linked said.guarded.epochs graphs
  pub liars : IsLiarsAnswer said.system.hosts said.guarded.liars graphs answer

-- a scenario is refused for its guards, or for its liars where all guards are good
abbrev pub IsRefused : Said → Answer → Type 0
IsRefused said answer =
    IsGuardsAnswer said.system.hosts said.system.linked said.guarded.epochs answer ⊎ IsTooManyLiars said answer

-- the line of an epoch whose guards are good
abbrev pub good_line : ℕ → List ℕ
good_line e = numbered (codes "epoch ") e ++ codes " good\n"

-- so many epochs are good
abbrev pub good_answer : ℕ → Answer
good_answer n = record { status = Done; text = flat_map good_line (range_with_len 0 n) ++ codes "end\n" }

-- the guards of all epochs are good and stand the liars
pub record IsAllGood (said : Said) (answer : Answer) : Type 0 where
  pub graphs : List GuardGraph
  pub sound : AreSound said graphs
  pub text : answer ≡ good_answer (length said.guarded.epochs)

-- what `check` answers: a refusal, or that all is good
abbrev pub IsCheckAnswer : Said → Answer → Type 0
IsCheckAnswer said answer = IsRefused said answer ⊎ IsAllGood said answer

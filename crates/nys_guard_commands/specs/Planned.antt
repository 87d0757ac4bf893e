-- What `plan` answers.
use Rattle.std.specs.Prelude.{◌≡◌, ℕ, ◌+◌, ◌⊎◌, ◌++◌, Bool, List, [], ◌∷◌, None, codes, decimal, map, flat_map, if◌then◌else◌}
use Rattle.std.specs.List.{join_by, range_with_len}
use Rattle.nys_answer.specs.declared.answer.Answer.{Answer}
use Rattle.nys_answer.specs.declared.status.Status.TheVariants.{Done}
use Rattle.nys_guards.specs.Good.{guards_in}
use Rattle.nys_guards.specs.declared.table.GuardGraph.{GuardGraph}
use Rattle.nys_hosts.specs.Makers.{passing}
use Rattle.nys_scenario.specs.Document.{Said}
use Rattle.nys_scenario.specs.Epochs.{Epoch}
use Rattle.nys_guard_commands.specs.Graphs.{AreGraphsOf, IsGuardsAnswer}
use Rattle.nys_guard_commands.specs.Words.{numbered}

-- an epoch whose guards are left out
abbrev pub unlisted : Epoch → Epoch
unlisted epoch = record { t = epoch.t; credit = epoch.credit; thresholds = epoch.thresholds; guards = None }

-- the comma before a host, where others stand before it
abbrev pub comma_before : Bool → List ℕ
comma_before started = if started then codes "," else []

-- the line of host h, with its guards rising
abbrev pub host_line : (ℕ → ℕ → Bool) → ℕ → List ℕ
host_line guards h =
    numbered (codes "host ") h ++ codes " guards " ++ join_by decimal (codes ",") (passing (guards h)) ++ codes "\n"

-- the line of an epoch
abbrev pub epoch_line : ℕ → ℕ → ℕ → List ℕ
epoch_line e t credit =
    numbered (codes "epoch ") e ++ numbered (codes " t ") t ++ numbered (codes " credit ") credit ++ codes "\n"

-- the lines of epoch e, whose greatest threshold may be t: its own, and one for each host
abbrev pub epoch_lines : ℕ → ℕ → ℕ → GuardGraph → List ℕ
epoch_lines hosts e t graph =
    epoch_line e t graph.credit ++ flat_map (host_line (guards_in graph.guards)) (range_with_len 0 hosts)

-- the lines of epochs, which are numbered from e, by their guard graphs
abbrev pub lines_from : ℕ → ℕ → List Epoch → List GuardGraph → List ℕ
lines_from hosts e [] graphs = []
lines_from hosts e (epoch ∷ epochs) [] = []
lines_from hosts e (epoch ∷ epochs) (graph ∷ graphs) =
    epoch_lines hosts e epoch.t graph ++ lines_from hosts (e + 1) epochs graphs

-- the guards that are planned
abbrev pub plan_answer : ℕ → List Epoch → List GuardGraph → Answer
plan_answer hosts epochs graphs = record { status = Done; text = lines_from hosts 0 epochs graphs ++ codes "end\n" }

-- each epoch has its planned guards, which are printed
pub record IsAllPlanned (said : Said) (answer : Answer) : Type 0 where
  pub graphs : List GuardGraph
  pub planned : AreGraphsOf said.system.hosts said.system.linked (map unlisted said.guarded.epochs) graphs
  pub text : answer ≡ plan_answer said.system.hosts said.guarded.epochs graphs

-- what `plan` answers, as though no epoch listed its guards: the first that can't be planned, or all plans
abbrev pub IsPlanAnswer : Said → Answer → Type 0
IsPlanAnswer said answer =
    IsGuardsAnswer said.system.hosts said.system.linked (map unlisted said.guarded.epochs) answer
    ⊎ IsAllPlanned said answer

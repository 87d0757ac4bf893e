-- What holds of every run of the protocol that finds routes, in words of walks.
use Rattle.std.specs.Prelude.{◌≡◌, ℕ, ◌<◌, ◌≤◌, nat_lt, Bool, true, if◌then◌else◌, List, length, Option, Some, None}
use Rattle.nys_graph.specs.Links.{IsGraph}
use Rattle.nys_source.specs.Runs.{IsRun, after_run}
use Rattle.nys_source.specs.declared.step.Step.{Step}
use Rattle.nys_route.specs.Quiet.{inputs_of, IsQuiet}
use Rattle.nys_route.specs.Routes.{route_rules, way_to}
use Rattle.nys_route.specs.Walks.{HasWalk, IsDistance}
use Rattle.nys_route.specs.declared.way.Way.{Way}
use Rattle.nys_route.specs.declared.way.TheConstants.{UNKNOWN}

-- the distance to d that host h keeps
abbrev pub kept_to : (ℕ → List Way) → ℕ → ℕ → ℕ
kept_to state h d = (way_to (state h) d).distance

-- the distance that a host knows, where what it keeps is one
abbrev pub known : ℕ → Option ℕ
known kept = if nat_lt kept UNKNOWN then Some kept else None

-- host d has had an input in the run
abbrev pub HasBegun : List Step → ℕ → Type 0
HasBegun run d = 1 ≤ length (inputs_of d run)

-- the hop of h to d is a neighbour of h, which keeps a smaller distance to d
pub record HasHop (linked : ℕ → ℕ → Bool) (state : ℕ → List Way) (h d : ℕ) : Type 0 where
  pub host : ℕ
  pub is_hop : (way_to (state h) d).hop ≡ Some host
  pub is_linked : linked h host ≡ true
  pub nearer : kept_to state host d < kept_to state h d

-- what a known distance from h to d tells: some walk is as long, d has had an input, and the hop is nearer
pub record IsKnown (linked : ℕ → ℕ → Bool) (run : List Step) (state : ℕ → List Way) (h d : ℕ) : Type 0 where
  pub walk : HasWalk linked h d (kept_to state h d)
  pub begun : HasBegun run d
  pub hop : (h ≡ d → ⊥) → HasHop linked state h d

-- so it is of each distance that a host knows
abbrev pub KnowsWays : (ℕ → ℕ → Bool) → List Step → (ℕ → List Way) → Type 0
KnowsWays linked run state = (h d : ℕ) → kept_to state h d < UNKNOWN → IsKnown linked run state h d

-- what each host knows of each host that has had an input is the distance in the graph, none where there is
-- no walk
abbrev pub FindsDistances : ℕ → (ℕ → ℕ → Bool) → List Step → (ℕ → List Way) → Type 0
FindsDistances hosts linked run state =
    (h d : ℕ) → h < hosts → HasBegun run d → IsDistance linked h d (known (kept_to state h d))

-- what holds of a run: of every one, and of a quiet one
pub record IsRouted (hosts : ℕ) (linked : ℕ → ℕ → Bool) (run : List Step) : Type 0 where
  pub ways : KnowsWays linked run (after_run (route_rules hosts linked) run).state
  pub quiet : IsQuiet (route_rules hosts linked) run
      → FindsDistances hosts linked run (after_run (route_rules hosts linked) run).state

-- it holds of every run on every graph
abbrev pub RoutesRuns : Type 0
RoutesRuns = (hosts : ℕ) (linked : ℕ → ℕ → Bool) → IsGraph hosts linked → (run : List Step)
    → IsRun (route_rules hosts linked) run → IsRouted hosts linked run

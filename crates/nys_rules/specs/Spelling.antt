-- The run of a world, and what it means that the run spells the logs.
use Rattle.std.specs.Prelude.{◌≡◌, ℕ, ◌<◌, ◌≤◌, ◌⊎◌, true, List, ◌++◌, filter, length, map}
use Rattle.nys_agreement.specs.Alone.{alone}
use Rattle.nys_agreement.specs.Claims.{IsPrefixOf}
use Rattle.nys_source.specs.Contents.{contents_taken}
use Rattle.nys_source.specs.Runs.{host_at, IsRun}
use Rattle.nys_source.specs.declared.step.Step.{Step}
use Rattle.nys_source.specs.declared.step.Step.TheVariants.{Stop}
use Rattle.nys_rules.specs.Olympus.{hosts_of}
use Rattle.nys_rules.specs.Scope.{Scope}
use Rattle.nys_rules.specs.World.{is_honest, Setting, World}

-- the printed run: the steps of the world, then a stop for each retired host, rising
unfoldable pub printed_run : {S : Type 0} → Scope S → World → List Step
printed_run scope w = w.run ++ map Stop (filter w.olympus.retired (hosts_of scope))

-- the node of honest host g has a log of h, live or closed
pub record HasLog {S : Type 0} (setting : Setting S) (w : World) (g h : ℕ) : Type 0 where
  pub host : g < setting.scope.rules.hosts
  pub honest : is_honest setting g ≡ true
  pub known : (w.nodes g).known h ≡ true

-- n is the greatest length of the logs of h that honest nodes have and of its decided log
pub record IsLongest {S : Type 0} (setting : Setting S) (w : World) (h n : ℕ) : Type 0 where
  pub logs : (g : ℕ) → HasLog setting w g h → length ((w.nodes g).logs h) ≤ n
  pub decided : length (w.olympus.decided h) ≤ n
  pub reached : ((g : ℕ) × HasLog setting w g h × (length ((w.nodes g).logs h) ≡ n)) ⊎ (length (w.olympus.decided h) ≡ n)

-- the printed run spells the logs
pub record SpellsLogs {S : Type 0} (setting : Setting S) (w : World) : Type 0 where
  -- it is a run of the source system
  pub is_run : IsRun setting.scope.rules (printed_run setting.scope w)
  -- each host takes in it as much as its longest log has
  pub longest : (h : ℕ) → h < setting.scope.rules.hosts
      → IsLongest setting w h (length (contents_taken setting.scope.rules (printed_run setting.scope w) h))
  -- each log is a prefix of what its host takes
  pub logs : (g h : ℕ) → HasLog setting w g h
      → IsPrefixOf ((w.nodes g).logs h) (contents_taken setting.scope.rules (printed_run setting.scope w) h)
  -- so is each decided log
  pub decided : (h : ℕ) → h < setting.scope.rules.hosts
      → IsPrefixOf (w.olympus.decided h) (contents_taken setting.scope.rules (printed_run setting.scope w) h)
  -- state and outputs at the end of a log are those of its host in the run after as many inputs and receives
  pub states : (g h : ℕ) → HasLog setting w g h
      → host_at setting.scope.rules (printed_run setting.scope w) h (length ((w.nodes g).logs h))
      ≡ ((alone setting.scope.rules h ((w.nodes g).logs h)).state h, (alone setting.scope.rules h ((w.nodes g).logs h)).outs h)

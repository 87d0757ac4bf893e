-- Runs of worlds: how long they are, and that their inputs have payloads.
use Rattle.std.specs.Prelude.{◌+◌, ◌≤◌, ◌*◌, List, All, length, Ok}
use Rattle.nys_hosts.specs.declared.limits.TheConstants.{MAX_HOSTS, MAX_SLOTS}
use Rattle.nys_rules.specs.Events.{Plain}
use Rattle.nys_rules.specs.Events.Plain.{Input}
use Rattle.nys_rules.specs.Happening.{HappenAll}
use Rattle.nys_rules.specs.Spelling.{printed_run}
use Rattle.nys_rules.specs.World.{fresh_world, Setting, World}
use Rattle.nys_source.specs.declared.step.Step as step
use Rattle.nys_source.specs.declared.step.Step.TheVariants as steps
use Rattle.nys_stmt.specs.Ranges.{IsPayload}

-- what an event hands to a host is a payload
abbrev pub HandsPayload : Plain → Type 0
HandsPayload (Input h payload) = IsPayload payload
HandsPayload _ = Unit {0}

-- so is what a step brings from outside
abbrev pub HasPayload : step.Step → Type 0
HasPayload (steps.Input h payload) = IsPayload payload
HasPayload _ = Unit {0}

-- the run has at most 1,024 inputs and receives of each of 32 hosts, and a stop of each, and its inputs have
-- payloads
pub record IsShortRun (run : List step.Step) : Type 0 where
  pub few : length run ≤ MAX_HOSTS * MAX_SLOTS + MAX_HOSTS
  pub payloads : All HasPayload run

-- so is the printed run of each world of at most 32 hosts that events make which hand payloads
abbrev pub RunsShort : {S : Type 0} → Setting S → Type 0
RunsShort setting = setting.scope.rules.hosts ≤ MAX_HOSTS → (events : List Plain) (w : World)
    → All HandsPayload events → HappenAll setting (fresh_world setting) events (Ok w) → IsShortRun (printed_run setting.scope w)

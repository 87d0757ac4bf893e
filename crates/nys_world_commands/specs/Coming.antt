-- What must come in the worlds of a document, beside what `replay` and `trace` answer.
use Rattle.std.specs.Prelude.{◌≡◌, ℕ, ◌≤◌, true, ℤ, List, ◌∷◌, ◌++◌, All, Ok}
use Rattle.nys_guard_commands.specs.Checked.{AreSound}
use Rattle.nys_guards.specs.declared.table.GuardGraph.{GuardGraph}
use Rattle.nys_laws.specs.Worlds.{InEachWorld}
use Rattle.nys_progress.specs.Credits.{TakesInCredit}
use Rattle.nys_progress.specs.Decision.{DecidesWhereDue}
use Rattle.nys_progress.specs.FirstInput.{IsTakenFirst}
use Rattle.nys_progress.specs.FourExchanges.{LogsInFour, LogsUnspoiled}
use Rattle.nys_progress.specs.Relay.{RelaysInTwo}
use Rattle.nys_progress.specs.Scheduled.{InEachScheduled, IsCalm}
use Rattle.nys_rules.specs.Events.{Plain}
use Rattle.nys_rules.specs.Events.Plain.{Input}
use Rattle.nys_rules.specs.Exchanges.{exchanges_in}
use Rattle.nys_rules.specs.Happening.{HappenAll}
use Rattle.nys_rules.specs.World.{fresh_world, is_honest, Setting, World}
use Rattle.nys_scenario.specs.Document.{Said}
use Rattle.nys_schedule.specs.Schedules.{schedule}
use Rattle.nys_schedule.specs.declared.form.Form.TheVariants.{Replay}
use Rattle.nys_source.specs.Rules.{Rules}
use Rattle.nys_played.specs.Settings.{setting_by}

-- what must come from a world on
pub record Comes {S : Type 0} (setting : Setting S) (w : World) : Type 0 where
  -- a content that an honest host has offered is logged by each of its honest guards in four exchanges
  pub logs : LogsInFour setting w
  -- what one honest guard has logged by votes is logged by each in two
  pub relays : RelaysInTwo setting w
  -- a message that enough guards hold as a head is among the first entries of the log, twice the credit past its
  -- length, once it is as long
  pub credits : TakesInCredit setting w
  -- a host whose honest guards have told the Olympus that they ended the epoch at one slot is decided there
  pub decides : DecidesWhereDue setting w

-- the first event of a schedule hands an input to an honest host, and four exchanges come before any `wedge`, `bytes`
-- and `steal`: in the world to which its events go on that input is the first that the host takes
abbrev pub TakesFirst : {S : Type 0} → Setting S → List ℕ → Type 0
TakesFirst setting text = (h : ℕ) (payload : List ℤ) (before rest : List Plain) (w : World)
    → schedule Replay setting.scope.rules.hosts setting.liars text ≡ Ok (Input h payload ∷ before ++ rest)
    → is_honest setting h ≡ true → All IsCalm before → 4 ≤ exchanges_in before
    → HappenAll setting (fresh_world setting) (Input h payload ∷ before ++ rest) (Ok w)
    → IsTakenFirst setting w h payload

-- what must come in a scenario with this schedule
pub record IsComing {S : Type 0} (setting : Setting S) (text : List ℕ) : Type 0 where
  -- from each world that events make
  pub comes : InEachWorld setting (Comes setting)
  -- what is offered is logged so where the slot is unspoiled, from each world that a schedule's events make
  pub unspoiled : InEachScheduled setting (LogsUnspoiled setting)
  -- and the first input is taken first
  pub first : TakesFirst setting text

-- so it is with the document's schedule, among its guard graphs, where all are good and stand the liars
abbrev pub IsReplayComing : {S : Type 0} → Rules S → Said → Type 0
IsReplayComing rules said = (graphs : List GuardGraph) → AreSound said graphs
    → IsComing (setting_by rules graphs said.guarded.master said.guarded.liars) said.texts.schedule

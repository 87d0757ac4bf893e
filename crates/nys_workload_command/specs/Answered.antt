-- What `workload` answers.
use Rattle.std.specs.Prelude.{◌≡◌, ℕ, zero, suc, ◌+◌, Bool, true, false, List, [], ◌∷◌, filter, length, replicate, Option, None, Result, Ok, Err}
use Rattle.nys_answer.specs.declared.answer.Answer.{Answer}
use Rattle.nys_answer.specs.declared.status.Status.TheVariants.{Done}
use Rattle.nys_guard_commands.specs.Graphs.{AreGraphsOf}
use Rattle.nys_guards.specs.declared.table.GuardGraph.{GuardGraph}
use Rattle.nys_native.specs.Floods.{flood_rules}
use Rattle.nys_native.specs.declared.total.Total.{Total}
use Rattle.nys_rules.specs.Events.{Plain}
use Rattle.nys_rules.specs.Happening.{Happens, Then}
use Rattle.nys_rules.specs.World.{fresh_world, Setting, World}
use Rattle.nys_rules.specs.declared.notice.End.{End}
use Rattle.nys_scenario.specs.Epochs.{Epoch}
use Rattle.nys_scenario.specs.Hosts.{nobody}
use Rattle.nys_scenario.specs.declared.limits.TheConstants.{MASTER_BYTES}
use Rattle.nys_words.specs.declared.request.Workload.{Workload}
use Rattle.nys_workload.specs.Drawn.{event_of, first_dice, next_dice}
use Rattle.nys_workload.specs.Inputs.{inputs_in}
use Rattle.nys_workload.specs.Rings.{ring_linked}
use Rattle.nys_workload.specs.declared.dice.Dice.{Dice}
use Rattle.nys_workload_command.specs.Summary.{summary}
use Rattle.nys_workload_command.specs.declared.scenario.TheConstants.{CREDIT, GUARD_LIARS}
use Rattle.nys_played.specs.Refusals.{IsEndAnswer}
use Rattle.nys_played.specs.Settings.{setting_by}

-- the one epoch: how many guards of each host may lie, the credit, and guards that are to be planned
abbrev pub the_epoch : Epoch
the_epoch = record { t = GUARD_LIARS; credit = CREDIT; thresholds = None; guards = None }

-- the scenario of a ring of so many hosts among the guards that are planned: the flood, tags under keys that come
-- from a master key of zeros, and no liars
pub record IsSettingOf (hosts : ℕ) (setting : Setting Total) : Type 0 where
  pub graphs : List GuardGraph
  pub planned : AreGraphsOf hosts (ring_linked hosts) (the_epoch ∷ []) graphs
  pub same : setting ≡ setting_by (flood_rules hosts (ring_linked hosts)) graphs (replicate MASTER_BYTES 0) nobody

-- the events happen from a world on, each drawn from the generator where the pool has as many packets as it has in
-- the world before it
abbrev pub HappenDrawn : {S : Type 0} → Setting S → (hosts : ℕ) → Dice → (place : ℕ) → World → List Plain → Result World End → Type 0
HappenDrawn setting hosts dice place w [] result = result ≡ Ok w
HappenDrawn setting hosts dice place w (event ∷ events) result =
    (event ≡ event_of hosts dice place (length w.pool))
    × ((mid : Result World End) × Happens setting w event mid
    × Then mid result (λ next. HappenDrawn setting hosts (next_dice dice) (place + 1) next events result))

-- so many events were drawn from a seed for so many hosts, and happened from the fresh world on; behind an end no
-- event happens
pub record WasDrawn {S : Type 0} (setting : Setting S) (seed hosts count : ℕ) (outcome : Result World End) : Type 0 where
  pub events : List Plain
  pub many : length events ≡ count
  pub happen : HappenDrawn setting hosts (first_dice seed) 0 (fresh_world setting) events outcome

-- the generator after so many events
abbrev pub dice_at : Dice → ℕ → Dice
dice_at dice zero = dice
dice_at dice (suc n) = dice_at (next_dice dice) n

-- what is answered to the world that the events lead to, its summary, or to its end
abbrev pub IsOutcomeAnswer : {S : Type 0} → Workload → Setting S → List Plain → Result World End → Answer → Type 0
IsOutcomeAnswer drawing setting events (Ok w) answer =
    answer ≡ record { status = Done; text = summary drawing.seed drawing.hosts drawing.events (inputs_in events) setting w }
IsOutcomeAnswer drawing setting events (Err end) answer = IsEndAnswer end answer

-- the events that are drawn happen in this scenario, and what they lead to is answered
pub record IsDrawnAnswer {S : Type 0} (drawing : Workload) (setting : Setting S) (answer : Answer) : Type 0 where
  pub outcome : Result World End
  pub drawn : WasDrawn setting drawing.seed drawing.hosts drawing.events outcome
  pub given : IsOutcomeAnswer drawing setting drawn.events outcome answer

-- so it is in the scenario of the ring
pub record IsWorkloadAnswer (drawing : Workload) (answer : Answer) : Type 0 where
  pub setting : Setting Total
  pub setting_is : IsSettingOf drawing.hosts setting
  pub given : IsDrawnAnswer drawing setting answer

-- The first input: what is handed to an honest host before all else is the first that it takes.
use Rattle.std.specs.Prelude.{◌≡◌, ℕ, ◌<◌, ◌≤◌, true, ℤ, List, ◌∷◌, ◌++◌, All, slice_get, Some, Ok}
use Rattle.nys_bytes.specs.declared.content.Content.TheVariants.{External}
use Rattle.nys_source.specs.Contents.{contents_taken}
use Rattle.nys_stmt.specs.Ranges.{IsPayload}
use Rattle.nys_rules.specs.Events.{Plain}
use Rattle.nys_rules.specs.Events.Plain.{Input}
use Rattle.nys_rules.specs.Exchanges.{exchanges_in, IsHonestGuard}
use Rattle.nys_rules.specs.Happening.{HappenAll}
use Rattle.nys_rules.specs.Spelling.{printed_run}
use Rattle.nys_rules.specs.World.{fresh_world, is_honest, Setting, World}
use Rattle.nys_progress.specs.FourExchanges.{HasWholeOrders}
use Rattle.nys_progress.specs.Relay.{HasNoWedge}
use Rattle.nys_progress.specs.Scheduled.{IsCalm, IsScheduled}

-- the input is the first that the host takes in the printed run, and the first entry of each honest guard's log
pub record IsTakenFirst {S : Type 0} (setting : Setting S) (w : World) (h : ℕ) (payload : List ℤ) : Type 0 where
  pub run : slice_get (contents_taken setting.scope.rules (printed_run setting.scope w) h) 0 ≡ Some (External payload)
  pub logs : (g : ℕ) → IsHonestGuard setting 0 h g → slice_get ((w.nodes g).logs h) 0 ≡ Some (External payload)

-- so it is after any events that begin with it and with others that have four exchanges among them and no wedge, at
-- whose end the orders for its slot are whole; whatever follows these
abbrev pub TakesFirstInput : {S : Type 0} → Setting S → Type 0
TakesFirstInput setting = (h : ℕ) (payload : List ℤ) → h < setting.scope.rules.hosts → is_honest setting h ≡ true
    → IsPayload payload → (before : List Plain) (mid : World)
    → HappenAll setting (fresh_world setting) (Input h payload ∷ before) (Ok mid) → HasNoWedge before
    → 4 ≤ exchanges_in before → HasWholeOrders setting mid 0 h 0 → (rest : List Plain) (next : World)
    → HappenAll setting mid rest (Ok next) → IsTakenFirst setting next h payload

-- so it is of the first event of a schedule, where four exchanges come before any `wedge`, `bytes` and `steal`
abbrev pub TakesFirstCalm : {S : Type 0} → Setting S → Type 0
TakesFirstCalm setting = (h : ℕ) (payload : List ℤ) (before rest : List Plain) (next : World)
    → is_honest setting h ≡ true → All (IsScheduled setting) (Input h payload ∷ before) → All IsCalm before
    → 4 ≤ exchanges_in before → HappenAll setting (fresh_world setting) (Input h payload ∷ before ++ rest) (Ok next)
    → IsTakenFirst setting next h payload

-- That there is an outcome: of a view that settles, and of events in a world.
use Rattle.std.specs.Prelude.{ℕ, ℤ, ◌<◌, ◌≤◌, List, length, Option, Result}
use Rattle.nys_source.specs.declared.effect.TheConstants.{MAX_EFFECTS}
use Rattle.nys_source.specs.Rules.{Rules}
use Rattle.nys_rules.specs.declared.notice.End.{End}
use Rattle.nys_rules.specs.Events.{Plain}
use Rattle.nys_rules.specs.Happening.{HappenAll}
use Rattle.nys_rules.specs.Packets.{Acts}
use Rattle.nys_rules.specs.Scope.{Scope}
use Rattle.nys_rules.specs.Settling.{SettlesInto}
use Rattle.nys_rules.specs.View.{View}
use Rattle.nys_rules.specs.World.{Setting, World}

-- a step of the protocol has at most 64 effects
abbrev pub HasFewEffects : {S : Type 0} → Rules S → Type 0
HasFewEffects {S} rules = (h : ℕ) (s : S) (from : Option ℕ) (payload : List ℤ) → h < rules.hosts
    → length (rules.next h s from payload).1 ≤ MAX_EFFECTS

-- the view settles
pub record HasSettled {S : Type 0} (scope : Scope S) (v : View) : Type 0 where
  pub after : View
  pub acts : Acts
  pub settles : SettlesInto scope v after acts

-- each view settles, whatever it knows
abbrev pub SettleAlways : {S : Type 0} → Scope S → Type 0
SettleAlways scope = (v : View) → HasSettled scope v

-- the events lead the world to another, or to an end
pub record HasOutcome {S : Type 0} (setting : Setting S) (w : World) (events : List Plain) : Type 0 where
  pub outcome : Result World End
  pub happen : HappenAll setting w events outcome

-- each list of events has an outcome, whatever the world is
abbrev pub HappenAlways : {S : Type 0} → Setting S → Type 0
HappenAlways setting = (w : World) (events : List Plain) → HasOutcome setting w events

-- What is asked of a scenario where something is promised of its worlds.
use Rattle.std.specs.Prelude.{ℕ, ◌<◌}
use Rattle.nys_agreement.specs.Net.{Net}
use Rattle.nys_guards.specs.Good.{AreWithin, IsGood}
use Rattle.nys_rules.specs.Scope.{Scope}
use Rattle.nys_rules.specs.World.{Setting}

-- the guards of an epoch are good, each host's by its own threshold
abbrev pub IsGoodEpoch : {S : Type 0} → Scope S → ℕ → Type 0
IsGoodEpoch scope e = IsGood scope.rules.hosts scope.rules.linked (scope.t e) (scope.credit e) (scope.guards e)

-- the guards of each epoch are good
abbrev pub HasGoodGuards : {S : Type 0} → Scope S → Type 0
HasGoodGuards scope = (e : ℕ) → e < scope.epochs → IsGoodEpoch scope e

-- in each epoch no host has more liars among its guards than they stand
abbrev pub AreFewLiars : {S : Type 0} → Setting S → Type 0
AreFewLiars setting = (e : ℕ) → e < setting.scope.epochs
    → AreWithin setting.scope.rules.hosts (setting.scope.t e) (setting.scope.guards e) setting.liars

-- the scenario as the machine of honest statements has it
abbrev pub net_of : {S : Type 0} → Setting S → Net
net_of setting = record { guards = setting.scope.guards; liars = setting.liars; t = setting.scope.t }

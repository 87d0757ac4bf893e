-- What a protocol means, without the system that runs it.
use Rattle.std.specs.Prelude.{◌≡◌, ℕ, ◌<◌, ◌≤◌, Bool, true, ℤ, List, length, All, Option}
use Rattle.nys_source.specs.declared.effect.TheConstants.{MAX_EFFECTS}
use Rattle.nys_source.specs.declared.effect.Effect.{Effect}
use Rattle.nys_source.specs.declared.effect.Effect.TheVariants.{Send, Out}

-- a protocol: who is linked to whom, how each host begins, and what it does with a payload
pub record Rules (S : Type 0) : Type 0 where
  -- the hosts are the numbers below this one
  pub hosts : ℕ
  -- whether two hosts are neighbours
  pub linked : ℕ → ℕ → Bool
  -- the state in which a host begins
  pub start : ℕ → S
  -- the new state and the effects, in order, where this host in this state takes a payload from this
  -- sender, or from none where it is an input
  pub next : ℕ → S → Option ℕ → List ℤ → S × List Effect
  -- the numbers that show a state
  pub view : S → List ℤ

-- an effect of host h is a send to a neighbour or an output
abbrev pub IsEffectOf : {S : Type 0} → Rules S → ℕ → Effect → Type 0
IsEffectOf rules h (Send to payload) = rules.linked h to ≡ true
IsEffectOf rules h (Out payload) = Unit {0}

-- the effects that host h may have in one step
pub record AreEffectsOf {S : Type 0} (rules : Rules S) (h : ℕ) (effects : List Effect) : Type 0 where
  pub few : length effects ≤ MAX_EFFECTS
  pub allowed : All (IsEffectOf rules h) effects

-- What the program has at hand of a report: what logs give, and the steps with the stops behind them.
use Rattle.std.specs.Prelude.{ℕ, ◌++◌, Bool, ℤ, List, filter, map}
use Rattle.std.specs.List.{range_with_len}
use Rattle.nys_agreement.specs.Alone.{alone}
use Rattle.nys_rules.specs.Scope.{Scope}
use Rattle.nys_rules.specs.View.{View}
use Rattle.nys_source.specs.declared.step.Step.{Step}
use Rattle.nys_source.specs.declared.step.Step.TheVariants.{Stop}

-- the state and the outputs that the log of a host gives
abbrev pub log_gives : {S : Type 0} → Scope S → View → ℕ → S × List (List ℤ)
log_gives scope v h = ((alone scope.rules h (v.logs h)).state h, (alone scope.rules h (v.logs h)).outs h)

-- a stop for each of these hosts that passes, in order
abbrev pub stops_of : (ℕ → Bool) → List ℕ → List Step
stops_of stopped hosts = map Stop (filter stopped hosts)

-- the steps, then a stop for each of so many hosts that passes, rising: the printed run has this form
abbrev pub stopped_run : ℕ → (ℕ → Bool) → List Step → List Step
stopped_run hosts stopped steps = steps ++ stops_of stopped (range_with_len 0 hosts)

-- Runs that are short enough to be taken step by step: what is received on a link is counted in 32 bits.
use Rattle.std.specs.Prelude.{ℕ, ◌+◌, ◌<◌, List, length}
use Rattle.nys_source.specs.Contents.{contents_from, contents_taken}
use Rattle.nys_source.specs.Rules.{Rules}
use Rattle.nys_source.specs.Runs.{IsRunFrom}
use Rattle.nys_source.specs.Source.{Source}
use Rattle.nys_source.specs.declared.step.Step.{Step}

-- no host takes more in the run than can be counted
pub record IsCountable {S : Type 0} (rules : Rules S) (run : List Step) : Type 0 where
  pub few : (h : ℕ) → h < rules.hosts → length (contents_taken rules run h) < 4294967295

-- the steps may be taken one by one from the system on, and all that is received can be counted
pub record CanFollow {S : Type 0} (rules : Rules S) (now : Source S) (steps : List Step) : Type 0 where
  pub run : IsRunFrom rules now steps
  pub few : (p h : ℕ) → h < rules.hosts → now.received p h + length (contents_from rules now h steps) < 4294967295

-- Worlds in which nothing happened.
use Rattle.std.specs.Prelude.{ℕ, false, []}
use Rattle.nys_rules.specs.Olympus.{OlympusView}
use Rattle.nys_rules.specs.View.{View}
use Rattle.nys_rules.specs.World.{World}

-- the world of these parties in which nothing happened
abbrev pub world_of : (ℕ → View) → OlympusView → World
world_of nodes olympus = record {
  events = 0;
  nodes = nodes;
  olympus = olympus;
  ledger = [];
  pool = [];
  delivered = λ _. false;
  injected = [];
  takes = [];
  notes = [];
  longest = λ _. 0;
  run = [];
}

-- What contracts see of the objects in memory.
use Rattle.std.specs.Prelude.{ℕ, List}
use Rattle.nys_outside.specs.Counts.{Calls}
use Rattle.nys_outside.specs.Input.{Input}

-- a source in memory
pub record MemInput : Type 0 where
  pub input : Input
  pub calls : Calls

-- a sink in memory
pub record MemOutput : Type 0 where
  pub written : List ℕ
  pub calls : Calls

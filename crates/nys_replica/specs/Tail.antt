-- What is kept of a list whose first entries may be forgotten.
use Rattle.std.specs.Prelude.{ℕ, List}
use Rattle.nys_bytes.specs.declared.content.Content.{Content}

-- the entries of a log from a slot on
pub record Tail : Type 0 where
  -- the slot of the first of them
  pub first : ℕ
  pub entries : List Content

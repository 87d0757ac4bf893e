-- Bytes that are read in order, without the fields that they hold.
use Rattle.std.specs.Prelude.{ℕ, List}

-- how far a reader has come
pub record Reading : Type 0 where
  -- how many bytes were passed
  pub place : ℕ
  -- the bytes behind them
  pub left : List ℕ

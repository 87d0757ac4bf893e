-- What is kept of a key: the states of its two hashes, and whose key it is.
use Rattle.std.specs.Prelude.{ℕ, List}
use Rattle.sha2.specs.Hashers.{Holds256}
use Rattle.nys_mac.specs.Hmac.{inner_byte, key_block, masked, outer_byte}
use Rattle.nys_mac.specs.Tags.{pair_key}
use Rattle.nys_mac.specs.declared.authenticating.KeyStates.{KeyStates}
use Rattle.nys_mac.specs.declared.pairs.PairStates.{PairStates}

-- the states are those of a key (RFC 2104, section 4)
pub record AreStatesOf (states : KeyStates) (key : List ℕ) : Type 0 where
  -- the inner hash has taken the key's block under ipad
  pub inner : Holds256 states.inner (masked inner_byte (key_block key))
  -- the outer hash has taken the key's block under opad
  pub outer : Holds256 states.outer (masked outer_byte (key_block key))

-- the states that are kept for two parties are those of the key that they share
pub record IsPairUnder (master : List ℕ) (pair : PairStates) : Type 0 where
  pub states : AreStatesOf pair.states (pair_key master pair.low pair.high)

-- The rules that lists in statements and records keep, without the types that hold them.
use Rattle.std.specs.Prelude.{ℕ, ◌<◌, ◌≤◌, List, Option, length, All, AllPairs}
use Rattle.std.specs.Option.{ForSome}
use Rattle.nys_mac.specs.declared.keys.TheConstants.{LAST_PARTY}
use Rattle.nys_stmt.specs.declared.limits.TheConstants.{MAX_LENGTH, MAX_LENGTHS}

-- the length of a host's log where it isn't retired
abbrev pub IsLength : Option ℕ → Type 0
IsLength member = ForSome member (λ n. n ≤ MAX_LENGTH)

-- at most one length a host
pub record AreLengths (lengths : List (Option ℕ)) : Type 0 where
  pub few : length lengths ≤ MAX_LENGTHS
  pub each : All IsLength lengths

-- tags of one maker: their receivers rise, and each is a party
pub record AreTags (tags : List (ℕ × List ℕ)) : Type 0 where
  pub rising : AllPairs (λ a b. a.0 < b.0) tags
  pub parties : All (λ t. t.0 ≤ LAST_PARTY) tags

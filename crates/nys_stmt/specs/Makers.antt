-- The rule that the makers of a record keep.
use Rattle.std.specs.Prelude.{◌<◌, ◌≤◌, List, All, AllPairs}
use Rattle.nys_mac.specs.declared.keys.TheConstants.{LAST_PARTY}
use Rattle.nys_stmt.specs.declared.tags.Tags.{Tags}

-- makers rise, and each is a party
pub record AreMakers (makers : List Tags) : Type 0 where
  pub rising : AllPairs (λ a b. a.maker < b.maker) makers
  pub parties : All (λ t. t.maker ≤ LAST_PARTY) makers

-- What a replica needs to hold what comes next.
use Rattle.std.specs.Prelude.{◌≡◌, ◌<◌, Bool, true}
use Rattle.nys_hosts.specs.declared.limits.TheConstants.{MAX_HOSTS}
use Rattle.nys_bytes.specs.declared.content.Content.{Content}
use Rattle.nys_bytes.specs.declared.content.Content.TheVariants.{External, Message}
use Rattle.nys_source.specs.Rules.{Rules}
use Rattle.nys_source.specs.Tables.{at_each}
use Rattle.nys_source.specs.declared.effect.Effect.{Effect}
use Rattle.nys_source.specs.declared.effect.Effect.TheVariants.{Out, Send}
use Rattle.nys_replica.specs.Packing.{IsPacked}
use Rattle.nys_replica.specs.declared.replica.Replica.{Replica}

-- some state of the protocol has the numbers of which the replica has the bytes
pub record HasState {P S : Type 0} (rules : Rules S) (is_state : S → Bool)
    (replica : Replica P S) : Type 0 where
  pub shown : S
  pub is : is_state shown ≡ true
  pub packed : IsPacked replica.packed.items (rules.view shown)

-- what the effect sends has a row in the table of sent lists
abbrev pub IsNear : Effect → Type 0
IsNear (Send to payload) = to < MAX_HOSTS
IsNear (Out payload) = Unit {0}

-- the content's sender has a row in the table of numbers taken, and its number may grow by one
abbrev pub HasRoom : {P S : Type 0} → Replica P S → Content → Type 0
HasRoom replica (External payload) = Unit {0}
HasRoom replica (Message p k payload) = (p < MAX_HOSTS) × (at_each (λ _. 0) replica.received p < 4294967295)

-- What contracts see of a set of hosts: a test, and a rising list.
use Rattle.std.specs.Prelude.{ℕ, Bool, List}
use Rattle.nys_hosts.specs.Masks.{in_mask}
use Rattle.nys_hosts.specs.Makers.{passing}
use Rattle.nys_hosts.specs.declared.set.HostSet.{HostSet}

-- the set has host h
abbrev pub has : HostSet → ℕ → Bool
has set h = in_mask set.bits h

-- the set without hosts
abbrev pub no_hosts : HostSet
no_hosts = record { bits = 0 }

-- the hosts of the set, rising
abbrev pub members : HostSet → List ℕ
members set = passing (has set)

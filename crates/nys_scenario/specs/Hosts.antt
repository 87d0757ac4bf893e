-- Arrays of hosts, each as a test of hosts.
use Rattle.std.specs.Prelude.{ℕ, ℤ, pos, negsuc, ◌==◌, ◌||◌, Bool, false, codes, nat_lt, is_some, if◌then◌else◌, Option, Some, None, Result, Ok, Err, option_and_then}
use Rattle.toml.specs.Data.{Data, Items, no_items, item, Members, as_array, as_integer, get_member}
use Rattle.nys_scenario.specs.Values.{all_items, optional, required, typed}
use Rattle.nys_scenario.specs.declared.fault.KeyKind.{KeyKind}
use Rattle.nys_scenario.specs.declared.fault.KeyKind.TheVariants.{Kind, Range}
use Rattle.nys_scenario.specs.declared.protocol.ProtocolName.{ProtocolName}
use Rattle.nys_scenario.specs.declared.protocol.ProtocolName.TheVariants as protocol

-- a set of hosts, as a test
abbrev pub Hosts : Type 0
Hosts = ℕ → Bool

-- no host
abbrev pub nobody : Hosts
nobody h = false

-- the host that a number is
abbrev pub host_of : ℕ → ℤ → Option ℕ
host_of hosts (pos n) = if nat_lt n hosts then Some n else None
host_of hosts (negsuc n) = None

-- the host that a value is
abbrev pub host_in : ℕ → Data → Option ℕ
host_in hosts found = option_and_then (host_of hosts) (as_integer found)

-- one host more, which may not be among those before it
abbrev pub with_host : Hosts → Option ℕ → Option Hosts
with_host before None = None
with_host before (Some host) = if before host then None else Some (λ h. before h || (host == h))

-- the hosts before an array and those in it; None where a member is no host, or one that stood before it
abbrev pub hosts_after : ℕ → Option Hosts → Items → Option Hosts
hosts_after hosts None more = None
hosts_after hosts (Some before) no_items = Some before
hosts_after hosts (Some before) (item first rest) =
    hosts_after hosts (with_host before (host_in hosts first)) rest

-- each member is an integer
abbrev pub are_integers : Items → Bool
are_integers found = all_items (λ value. is_some (as_integer value)) found

-- what is there, or a value out of its range
abbrev pub or_range : {A : Type 0} → Option A → Result A KeyKind
or_range None = Err Range
or_range (Some value) = Ok value

-- an array of integers, as distinct hosts
abbrev pub hosts_listed : ℕ → Items → Result Hosts KeyKind
hosts_listed hosts found =
    if are_integers found then or_range (hosts_after hosts (Some nobody) found) else Err Kind

-- the key `liars`
unfoldable pub liars_of : ℕ → Members → Result Hosts KeyKind
liars_of hosts table = optional nobody (λ found. typed (hosts_listed hosts) (as_array found))
    (get_member (codes "liars") table)

-- the host that an integer is
abbrev pub root_in : ℕ → Data → Result ℕ KeyKind
root_in hosts found = typed (λ z. or_range (host_of hosts z)) (as_integer found)

-- the root where this protocol runs: a tree has to have one, and else it may be left out
abbrev pub root_at : ProtocolName → ℕ → Option Data → Result ℕ KeyKind
root_at protocol.Tree hosts found = required (root_in hosts) found
root_at protocol.Sum hosts found = optional 0 (root_in hosts) found
root_at protocol.Flood hosts found = optional 0 (root_in hosts) found
root_at protocol.Route hosts found = optional 0 (root_in hosts) found
root_at protocol.Machine hosts found = optional 0 (root_in hosts) found

-- the key `root`
unfoldable pub root_for : ProtocolName → ℕ → Members → Result ℕ KeyKind
root_for name hosts table = root_at name hosts (get_member (codes "root") table)

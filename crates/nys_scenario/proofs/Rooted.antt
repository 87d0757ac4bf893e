-- The root of a tree that a document says is one of its hosts.
use Rattle.std.proofs.Common.{◌≡◌, ℕ, ℤ, ◌<◌, Bool, true, false, List, codes, if◌then◌else◌, Option, Some, None, Result, Ok, Err, refl, ap, subst}
use Rattle.std.specs.Prelude.{pos, negsuc, nat_lt}
use Rattle.std.proofs.lemmas.Bool.{ltb-true}
use Rattle.nys_hosts.specs.declared.limits.TheConstants.{MAX_HOSTS}
use Rattle.toml.specs.Data.{Data, Members, as_integer, get_member}
use Rattle.nys_lex.specs.declared.fault.MachineFault.{MachineFault}
use Rattle.nys_tree.specs.declared.machine.Machine as tree
use Rattle.nys_scenario.specs.Bounds.{HasRoot}
use Rattle.nys_scenario.specs.Document.{AllKeys, Said, guarded_of, keys_of, said_with, scenario_of, system_of, texts_of, unknown_key}
use Rattle.nys_scenario.specs.Hosts.{host_of, or_range, root_at, root_for, root_in}
use Rattle.nys_scenario.specs.Keys.{Refusal, after}
use Rattle.nys_scenario.specs.Links.{links_of}
use Rattle.nys_scenario.specs.Machine.{machine_of}
use Rattle.nys_scenario.specs.Protocol.{Protocol, protocol_from, protocol_of}
use Rattle.nys_scenario.specs.Protocol.Protocol.{Sum, Flood, Route, Tree, Machine}
use Rattle.nys_scenario.specs.Values.{name_of, number_of, required, text_for, typed}
use Rattle.nys_scenario.specs.declared.fault.KeyKind.{KeyKind}
use Rattle.nys_scenario.specs.declared.fault.KeyKind.TheVariants.{Range}
use Rattle.nys_scenario.specs.declared.needs.Needs.{Needs}
use Rattle.nys_scenario.specs.declared.protocol.ProtocolName.{ProtocolName}
use Rattle.nys_scenario.specs.declared.protocol.ProtocolName.TheVariants as known
use Rattle.nys_scenario.proofs.Counted.{system_from, system_parts}

-- a number that is a host is below how many there are
number_is : (hosts : ℕ) (z : ℤ) (root : ℕ) → or_range (host_of hosts z) ≡ Ok root → root < hosts
number_is hosts (pos n) root e = go (nat_lt n hosts) refl
  where
    go : (b : Bool) → nat_lt n hosts ≡ b → root < hosts
    go true below =
        let same : ◌≡◌ {A = Result ℕ KeyKind} (Ok n) (Ok root) = rw below at e in
        let is : n ≡ root = cc in
        rw (← is) (ltb-true n hosts below)
    go false past = let none : ◌≡◌ {A = Result ℕ KeyKind} (Err Range) (Ok root) = rw past at e in cc
number_is hosts (negsuc n) root e = cc

-- so is the root of a tree
root_is : (hosts : ℕ) (found : Option Data) (root : ℕ) → root_at known.Tree hosts found ≡ Ok root → root < hosts
root_is hosts None root e = cc
root_is hosts (Some value) root e = go (as_integer value) e
  where
    go : (o : Option ℤ) → typed (λ z. or_range (host_of hosts z)) o ≡ Ok root → root < hosts
    go None h = cc
    go (Some z) h = number_is hosts z root h

-- a machine has no root
machine_rooted : (hosts : ℕ) (read : Result tree.Machine MachineFault) (protocol : Protocol) → protocol_from read ≡ Ok protocol → HasRoot hosts protocol
machine_rooted hosts (Ok machine) protocol e = let is : Machine machine ≡ protocol = cc in subst (HasRoot hosts) is tt
machine_rooted hosts (Err fault) protocol e = cc

-- the protocol of a name with a root that its key gives
protocol_rooted : (hosts : ℕ) (found : Option Data) (name : ProtocolName) (root : ℕ) (text : List ℕ) (protocol : Protocol)
    → root_at name hosts found ≡ Ok root → protocol_of name root text ≡ Ok protocol → HasRoot hosts protocol
protocol_rooted hosts found known.Sum root text protocol given e = let is : Sum ≡ protocol = cc in subst (HasRoot hosts) is tt
protocol_rooted hosts found known.Flood root text protocol given e = let is : Flood ≡ protocol = cc in subst (HasRoot hosts) is tt
protocol_rooted hosts found known.Route root text protocol given e = let is : Route ≡ protocol = cc in subst (HasRoot hosts) is tt
protocol_rooted hosts found known.Tree root text protocol given e =
    let is : Tree root ≡ protocol = cc in subst (HasRoot hosts) is (root_is hosts found root given)
protocol_rooted hosts found known.Machine root text protocol given e = machine_rooted hosts (machine_of text) protocol e

-- what is said has the root of its keys
said_rooted : (keys : Result AllKeys Refusal) (said : Said) (found : Option Data)
    → ((k : AllKeys) → keys ≡ Ok k → root_at k.system.name k.system.hosts found ≡ Ok k.system.root)
    → after keys (λ k. after (protocol_of k.system.name k.system.root k.system.machine) (λ protocol. Ok (said_with k protocol))) ≡ Ok said
    → HasRoot said.system.hosts said.system.protocol
said_rooted (Err refusal) said found given e = cc
said_rooted (Ok k) said found given e = go (protocol_of k.system.name k.system.root k.system.machine) refl e
  where
    go : (r : Result Protocol Refusal) → protocol_of k.system.name k.system.root k.system.machine ≡ r
        → after r (λ protocol. Ok (said_with k protocol)) ≡ Ok said → HasRoot said.system.hosts said.system.protocol
    go (Err refusal) of h = cc
    go (Ok protocol) of h =
        let is : said_with k protocol ≡ said = cc in
        subst (λ (s : Said). HasRoot s.system.hosts s.system.protocol) is
        (protocol_rooted k.system.hosts found k.system.name k.system.root k.system.machine protocol (given k refl) of)

-- so is that of a document
pub scenario_rooted : (needs : Needs) (table : Members) (said : Said) → scenario_of needs table ≡ Ok said → HasRoot said.system.hosts said.system.protocol
unfolding system_of scenario_of root_for
scenario_rooted needs table said e =
    said_rooted (keys_of needs table) said (get_member (codes "root") table) (λ keys given.
    let system = system_from (system_of table) (texts_of table) (λ hosts. guarded_of needs hosts table) (unknown_key table) keys given in
    (system_parts (number_of 1 MAX_HOSTS (codes "hosts") table) (λ hosts. links_of hosts table) (name_of table)
    (λ name. text_for name table) (λ name hosts. root_for name hosts table)
    (codes "hosts") (codes "links") (codes "protocol") (codes "machine") (codes "root") keys.system system).2) e

-- A document says of no more hosts than there may be.
use Rattle.std.proofs.Common.{◌≡◌, ◌≤◌, ◌&&◌, ℕ, ℤ, Bool, true, false, List, codes, Option, Some, None, Result, Ok, Err, refl, ap, subst}
use Rattle.std.specs.Prelude.{pos, negsuc, nat_le}
use Rattle.std.proofs.lemmas.Bool.{and_parts, leb-true}
use Rattle.nys_hosts.specs.declared.limits.TheConstants.{MAX_HOSTS}
use Rattle.toml.specs.Data.{Data, Members, as_integer, get_member}
use Rattle.nys_scenario.specs.Document.{AllKeys, Guarded, Said, SystemKeys, Texts, all_known, answer_from, answer_to, document_of, guarded_of, keys_of, said_with, scenario_of, system_of, texts_of, unknown_key}
use Rattle.nys_scenario.specs.Keys.{Refusal, after, named}
use Rattle.nys_scenario.specs.Hosts.{root_for}
use Rattle.nys_scenario.specs.Links.{links_of}
use Rattle.nys_scenario.specs.Protocol.{Protocol, protocol_of}
use Rattle.nys_scenario.specs.Values.{in_range, name_of, number_of, required, text_for, typed}
use Rattle.nys_scenario.specs.declared.fault.KeyKind.{KeyKind}
use Rattle.nys_scenario.specs.declared.fault.KeyKind.TheVariants.{Range}
use Rattle.nys_scenario.specs.declared.needs.Needs.{Needs}
use Rattle.nys_scenario.specs.declared.protocol.ProtocolName.{ProtocolName}

-- a number of a range is at most its greatest
range_most : (least most : ℕ) (z : ℤ) (n : ℕ) → in_range least most z ≡ Ok n → n ≤ most
range_most least most (pos m) n e = go (nat_le least m && nat_le m most) refl
  where
    go : (b : Bool) → (nat_le least m && nat_le m most) ≡ b → n ≤ most
    go true inside =
        let same : ◌≡◌ {A = Result ℕ KeyKind} (Ok m) (Ok n) = rw inside at e in
        let is : m ≡ n = cc in
        rw (← is) (leb-true m most (and_parts (nat_le least m) (nat_le m most) inside).1)
    go false outside = let none : ◌≡◌ {A = Result ℕ KeyKind} (Err Range) (Ok n) = rw outside at e in cc
range_most least most (negsuc m) n e = cc

-- so is the number of a key
number_most : (least most : ℕ) (found : Option Data) (n : ℕ) → required (λ value. typed (in_range least most) (as_integer value)) found ≡ Ok n → n ≤ most
number_most least most None n e = cc
number_most least most (Some value) n e = go (as_integer value) e
  where
    go : (o : Option ℤ) → typed (in_range least most) o ≡ Ok n → n ≤ most
    go None h = cc
    go (Some z) h = range_most least most z n h

-- the hosts, the links and the root are those that their keys give
pub system_parts : (hosts : Result ℕ KeyKind) (links : ℕ → Result (ℕ → ℕ → Bool) KeyKind) (name : Result ProtocolName KeyKind)
    (machine : ProtocolName → Result (List ℕ) KeyKind) (root : ProtocolName → ℕ → Result ℕ KeyKind)
    (first second third fourth fifth : List ℕ) (system : SystemKeys)
    → after (named first hosts) (λ hosts. after (named second (links hosts)) (λ linked. after (named third name) (λ name.
    after (named fourth (machine name)) (λ machine. after (named fifth (root name hosts)) (λ root.
    Ok (record { hosts = hosts; linked = linked; name = name; machine = machine; root = root })))))) ≡ Ok system
    → (hosts ≡ Ok system.hosts) × (links system.hosts ≡ Ok system.linked) × (root system.name system.hosts ≡ Ok system.root)
system_parts (Err k) links name machine root first second third fourth fifth system e = cc
system_parts (Ok n) links (Err k) machine root first second third fourth fifth system e = go (links n) e
  where
    go : (r : Result (ℕ → ℕ → Bool) KeyKind)
        → after (named second r) (λ linked. after (named {A = ProtocolName} third (Err k)) (λ name. after (named fourth (machine name)) (λ machine.
        after (named fifth (root name n)) (λ root. Ok (record { hosts = n; linked = linked; name = name; machine = machine; root = root }))))) ≡ Ok system
        → (◌≡◌ {A = Result ℕ KeyKind} (Ok n) (Ok system.hosts)) × (links system.hosts ≡ Ok system.linked) × (root system.name system.hosts ≡ Ok system.root)
    go (Err x) h = cc
    go (Ok linked) h = cc
system_parts (Ok n) links (Ok name) machine root first second third fourth fifth system e = go (links n) refl (machine name) (root name n) refl e
  where
    go : (r : Result (ℕ → ℕ → Bool) KeyKind) → links n ≡ r → (m : Result (List ℕ) KeyKind) (t : Result ℕ KeyKind) → root name n ≡ t
        → after (named second r) (λ linked. after (named fourth m) (λ machine. after (named fifth t) (λ root.
        Ok (record { hosts = n; linked = linked; name = name; machine = machine; root = root })))) ≡ Ok system
        → (◌≡◌ {A = Result ℕ KeyKind} (Ok n) (Ok system.hosts)) × (links system.hosts ≡ Ok system.linked) × (root system.name system.hosts ≡ Ok system.root)
    go (Err x) joins m t given h = cc
    go (Ok linked) joins (Err x) t given h = cc
    go (Ok linked) joins (Ok text) (Err x) given h = cc
    go (Ok linked) joins (Ok text) (Ok r) given h =
        let is : record { hosts = n; linked = linked; name = name; machine = text; root = r } ≡ system = cc in
        (ap (λ (s : SystemKeys). Ok s.hosts) is, subst (λ (s : SystemKeys). links s.hosts ≡ Ok s.linked) is joins, subst (λ (s : SystemKeys). root s.name s.hosts ≡ Ok s.root) is given)

-- the first part of the keys is what its keys give
pub system_from : (system : Result SystemKeys Refusal) (texts : Result Texts Refusal) (guarded : ℕ → Result Guarded Refusal)
    (unknown : Option (List ℕ)) (keys : AllKeys)
    → after system (λ s. after texts (λ x. after (guarded s.hosts) (λ g. all_known (record { system = s; texts = x; guarded = g }) unknown))) ≡ Ok keys
    → system ≡ Ok keys.system
system_from (Err k) texts guarded unknown keys e = cc
system_from (Ok s) (Err k) guarded unknown keys e = cc
system_from (Ok s) (Ok x) guarded unknown keys e = go (guarded s.hosts) unknown e
  where
    go : (r : Result Guarded Refusal) (o : Option (List ℕ))
        → after r (λ g. all_known (record { system = s; texts = x; guarded = g }) o) ≡ Ok keys → ◌≡◌ {A = Result SystemKeys Refusal} (Ok s) (Ok keys.system)
    go (Err k) o h = cc
    go (Ok g) (Some key) h = cc
    go (Ok g) None h =
        let is : record { system = s; texts = x; guarded = g } ≡ keys = cc in
        ap (λ (y : AllKeys). Ok y.system) is

-- what is said has as many hosts as the keys give
said_hosts : (keys : Result AllKeys Refusal) (said : Said)
    → after keys (λ k. after (protocol_of k.system.name k.system.root k.system.machine) (λ protocol. Ok (said_with k protocol))) ≡ Ok said
    → ((k : AllKeys) → keys ≡ Ok k → k.system.hosts ≤ MAX_HOSTS) → said.system.hosts ≤ MAX_HOSTS
said_hosts (Err refusal) said e few = cc
said_hosts (Ok k) said e few = go (protocol_of k.system.name k.system.root k.system.machine) e
  where
    go : (r : Result Protocol Refusal) → after r (λ protocol. Ok (said_with k protocol)) ≡ Ok said → said.system.hosts ≤ MAX_HOSTS
    go (Err refusal) h = cc
    go (Ok protocol) h =
        let is : said_with k protocol ≡ said = cc in
        let same : k.system.hosts ≡ said.system.hosts = ap (λ (s : Said). s.system.hosts) is in
        rw (← same) (few k refl)

-- the hosts of a table are so few
scenario_hosts : (needs : Needs) (table : Members) (said : Said) → scenario_of needs table ≡ Ok said → said.system.hosts ≤ MAX_HOSTS
unfolding system_of scenario_of number_of
scenario_hosts needs table said e = said_hosts (keys_of needs table) said e (λ keys given.
    let system = system_from (system_of table) (texts_of table) (λ hosts. guarded_of needs hosts table) (unknown_key table) keys given in
    let parts = system_parts (number_of 1 MAX_HOSTS (codes "hosts") table) (λ hosts. links_of hosts table) (name_of table)
    (λ name. text_for name table) (λ name hosts. root_for name hosts table)
    (codes "hosts") (codes "links") (codes "protocol") (codes "machine") (codes "root") keys.system system in
    number_most 1 MAX_HOSTS (get_member (codes "hosts") table) keys.system.hosts parts.0)

-- a document says of no more hosts than there may be
pub few_hosts : (needs : Needs) (bytes : List ℕ) (said : Said) → answer_to needs bytes ≡ Ok said → said.system.hosts ≤ MAX_HOSTS
few_hosts needs bytes said e = go (document_of bytes) e
  where
    go : (o : Option Members) → answer_from needs o ≡ Ok said → said.system.hosts ≤ MAX_HOSTS
    go None h = cc
    go (Some table) h = scenario_hosts needs table said h

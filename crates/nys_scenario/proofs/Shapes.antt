-- The links that a document says are those of a graph.
use Rattle.std.proofs.Common.{◌≡◌, ℕ, ℤ, zero, suc, ◌+◌, ◌<◌, ◌≤◌, ◌&&◌, ◌||◌, Bool, true, false, List, [], take, get_or, length, codes, if◌then◌else◌, is_some, Option, Some, None, Result, Ok, Err, refl, sym, ap, ◌∙◌, subst, inl, inr, arith}
use Rattle.std.specs.Prelude.{pos, negsuc, nat_le}
use Rattle.std.proofs.lemmas.Bool.{and_parts, cases_lt, leb-true, or_parts}
use Rattle.std.proofs.lemmas.List.{take_all}
use Rattle.nys_graph.proofs.LinkLemmas.{fault_at-within, joined-more, no_links-shape, shape-join, taken}
use Rattle.nys_graph.specs.Faults.{fault_at}
use Rattle.nys_graph.specs.Links.{IsGraph, joined}
use Rattle.nys_graph.specs.declared.fault.GraphFault.{GraphFault}
use Rattle.nys_hosts.specs.declared.limits.TheConstants.{MAX_HOSTS}
use Rattle.toml.specs.Data.{Data, Items, Members, as_array, as_integer, get_member}
use Rattle.nys_scenario.specs.Document.{AllKeys, Said, answer_from, answer_to, document_of, guarded_of, keys_of, said_with, scenario_of, system_of, texts_of, unknown_key}
use Rattle.nys_scenario.specs.Hosts.{root_for}
use Rattle.nys_scenario.specs.Keys.{Refusal, after}
use Rattle.nys_scenario.specs.Links.{are_pairs, graph_from, graph_of, has_fault_before, link_in, links_listed, links_of}
use Rattle.nys_scenario.specs.Protocol.{Protocol, protocol_of}
use Rattle.nys_scenario.specs.Values.{in_range, name_of, number_of, required, text_for, typed, values_after}
use Rattle.nys_scenario.specs.declared.fault.KeyKind.{KeyKind}
use Rattle.nys_scenario.specs.declared.fault.KeyKind.TheVariants.{Kind, Range}
use Rattle.nys_scenario.specs.declared.needs.Needs.{Needs}
use Rattle.nys_scenario.proofs.Counted.{few_hosts, system_from, system_parts}

-- where none of the first links has a fault, no such link has one
none_faulty : (hosts : ℕ) (links : List (ℕ × ℕ)) (n : ℕ) → has_fault_before hosts links n ≡ false → (k : ℕ) → k < n → fault_at hosts links k ≡ None
unfolding has_fault_before
none_faulty hosts links zero e k less = absurd (omega (arith, less))
none_faulty hosts links (suc n) e k less =
    let parts = or_parts (has_fault_before hosts links n) (is_some (fault_at hosts links n)) e in
    elim (cases_lt k n) [
      | inl below ↦ none_faulty hosts links n parts.0 k below
      | inr last ↦
          let same : n ≡ k = omega (arith, last, less) in
          subst (λ m. fault_at hosts links m ≡ None) same (is_none (fault_at hosts links n) parts.1)
    ]
  where
    is_none : (o : Option GraphFault) → is_some o ≡ false → o ≡ None
    is_none None none = refl
    is_none (Some x) none = cc

-- the first links of a list without faults make a graph
first_shape : (hosts : ℕ) (links : List (ℕ × ℕ)) → 1 ≤ hosts → hosts ≤ 32 → ((k : ℕ) → k < length links → fault_at hosts links k ≡ None)
    → (n : ℕ) → n ≤ length links → IsGraph hosts (joined (take n links))
unfolding joined
first_shape hosts links some few good zero short = no_links-shape hosts (joined []) some few (λ a b. refl)
first_shape hosts links some few good (suc n) short =
    let old = joined (take n links) in
    let link = get_or links n (0, 0) in
    let next : n + 1 ≡ suc n = omega arith in
    let allowed = sym (fault_at-within hosts links old n short (λ a b. refl)) ∙ good n short in
    shape-join hosts (joined (take n links)) (joined (take (suc n) links)) (get_or links n (0, 0))
    (first_shape hosts links some few good n (omega (arith, short)))
    (taken hosts (joined (take n links)) n (get_or links n (0, 0)) allowed)
    (λ a b. ap (λ m. joined (take m links) a b) (sym next) ∙ joined-more links n a b short)

-- so do all of them
links_shape : (hosts : ℕ) (links : List (ℕ × ℕ)) (linked : ℕ → ℕ → Bool) → 1 ≤ hosts → hosts ≤ 32 → graph_of hosts links ≡ Ok linked → IsGraph hosts linked
links_shape hosts links linked some few e = go (has_fault_before hosts links (length links)) refl e
  where
    go : (b : Bool) → has_fault_before hosts links (length links) ≡ b → (if b then Err Range else Ok (joined links)) ≡ Ok linked → IsGraph hosts linked
    go true faulty h = cc
    go false good h =
        let is : joined links ≡ linked = cc in
        let all = take_all (length links) links (omega arith) in
        subst (IsGraph hosts) (ap joined all ∙ is)
        (first_shape hosts links some few (none_faulty hosts links (length links) good) (length links) (omega arith))

-- so do those of an array
listed_shape : (hosts : ℕ) (linked : ℕ → ℕ → Bool) (o : Option (List (ℕ × ℕ))) → 1 ≤ hosts → hosts ≤ 32 → graph_from hosts o ≡ Ok linked → IsGraph hosts linked
listed_shape hosts linked None some few e = cc
listed_shape hosts linked (Some links) some few e = links_shape hosts links linked some few e

items_shape : (hosts : ℕ) (linked : ℕ → ℕ → Bool) (items : Items) (b : Bool) → 1 ≤ hosts → hosts ≤ 32
    → (if b then graph_from hosts (values_after (link_in hosts) (Some []) items) else Err Kind) ≡ Ok linked → IsGraph hosts linked
items_shape hosts linked items true some few e = listed_shape hosts linked (values_after (link_in hosts) (Some []) items) some few e
items_shape hosts linked items false some few e = cc

array_shape : (hosts : ℕ) (linked : ℕ → ℕ → Bool) (o : Option Items) → 1 ≤ hosts → hosts ≤ 32 → typed (links_listed hosts) o ≡ Ok linked → IsGraph hosts linked
array_shape hosts linked None some few e = cc
array_shape hosts linked (Some items) some few e = items_shape hosts linked items (are_pairs items) some few e

key_shape : (hosts : ℕ) (linked : ℕ → ℕ → Bool) (o : Option Data) → 1 ≤ hosts → hosts ≤ 32
    → required (λ found. typed (links_listed hosts) (as_array found)) o ≡ Ok linked → IsGraph hosts linked
key_shape hosts linked None some few e = cc
key_shape hosts linked (Some value) some few e = array_shape hosts linked (as_array value) some few e

-- a number of a range is at least its least
range_least : (least most : ℕ) (z : ℤ) (n : ℕ) → in_range least most z ≡ Ok n → least ≤ n
range_least least most (pos m) n e = go (nat_le least m && nat_le m most) refl
  where
    go : (b : Bool) → (nat_le least m && nat_le m most) ≡ b → least ≤ n
    go true inside =
        let same : ◌≡◌ {A = Result ℕ KeyKind} (Ok m) (Ok n) = rw inside at e in
        let is : m ≡ n = cc in
        rw (← is) (leb-true least m (and_parts (nat_le least m) (nat_le m most) inside).0)
    go false outside = let none : ◌≡◌ {A = Result ℕ KeyKind} (Err Range) (Ok n) = rw outside at e in cc
range_least least most (negsuc m) n e = cc

number_least : (least most : ℕ) (found : Option Data) (n : ℕ) → required (λ value. typed (in_range least most) (as_integer value)) found ≡ Ok n → least ≤ n
number_least least most None n e = cc
number_least least most (Some value) n e = go (as_integer value) e
  where
    go : (o : Option ℤ) → typed (in_range least most) o ≡ Ok n → least ≤ n
    go None h = cc
    go (Some z) h = range_least least most z n h

-- what is said has the graph of its keys
said_shape : (keys : Result AllKeys Refusal) (said : Said)
    → after keys (λ k. after (protocol_of k.system.name k.system.root k.system.machine) (λ protocol. Ok (said_with k protocol))) ≡ Ok said
    → ((k : AllKeys) → keys ≡ Ok k → k.system.hosts ≤ 32 → IsGraph k.system.hosts k.system.linked) → said.system.hosts ≤ 32
    → IsGraph said.system.hosts said.system.linked
said_shape (Err refusal) said e shape few = cc
said_shape (Ok k) said e shape few = go (protocol_of k.system.name k.system.root k.system.machine) e
  where
    go : (r : Result Protocol Refusal) → after r (λ protocol. Ok (said_with k protocol)) ≡ Ok said → IsGraph said.system.hosts said.system.linked
    go (Err refusal) h = cc
    go (Ok protocol) h =
        let is : said_with k protocol ≡ said = cc in
        let same : said.system.hosts ≡ k.system.hosts = ap (λ (s : Said). s.system.hosts) (sym is) in
        subst (λ (s : Said). IsGraph s.system.hosts s.system.linked) is (shape k refl (subst (λ n. n ≤ 32) same few))

-- the links of a table make a graph
scenario_shape : (needs : Needs) (table : Members) (said : Said) → scenario_of needs table ≡ Ok said → said.system.hosts ≤ 32
    → IsGraph said.system.hosts said.system.linked
unfolding system_of scenario_of number_of links_of
scenario_shape needs table said e few = said_shape (keys_of needs table) said e (λ keys given small.
    let system = system_from (system_of table) (texts_of table) (λ hosts. guarded_of needs hosts table) (unknown_key table) keys given in
    let parts = system_parts (number_of 1 MAX_HOSTS (codes "hosts") table) (λ hosts. links_of hosts table) (name_of table)
    (λ name. text_for name table) (λ name hosts. root_for name hosts table)
    (codes "hosts") (codes "links") (codes "protocol") (codes "machine") (codes "root") keys.system system in
    key_shape keys.system.hosts keys.system.linked (get_member (codes "links") table)
    (number_least 1 MAX_HOSTS (get_member (codes "hosts") table) keys.system.hosts parts.0) small parts.1) few

-- the links that a document says make a graph of its hosts
pub document_shape : (needs : Needs) (bytes : List ℕ) (said : Said) → answer_to needs bytes ≡ Ok said → IsGraph said.system.hosts said.system.linked
document_shape needs bytes said e = go (document_of bytes) e (few_hosts needs bytes said e)
  where
    go : (o : Option Members) → answer_from needs o ≡ Ok said → said.system.hosts ≤ 32 → IsGraph said.system.hosts said.system.linked
    go None h few = cc
    go (Some table) h few = scenario_shape needs table said h few

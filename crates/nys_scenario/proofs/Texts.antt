-- The texts of a document are no longer than the document.
use Rattle.std.proofs.Common.{◌≡◌, ℕ, ◌≤◌, Bool, true, false, List, [], length, codes, if◌then◌else◌, Option, Some, None, Result, Ok, Err, refl, ap, subst, arith}
use Rattle.std.specs.Str.{is_utf8}
use Rattle.toml.specs.Data.{Data, string, integer, float, boolean, datetime, array, table, Members, get_member}
use Rattle.toml.specs.Parse.{parse_document}
use Rattle.nys_scenario.specs.Document.{AllKeys, Guarded, Said, SystemKeys, Texts, all_known, answer_from, answer_to, document_of, guarded_of, keys_of, said_with, scenario_of, system_of, texts_of, unknown_key}
use Rattle.nys_scenario.specs.Keys.{Refusal, after, named}
use Rattle.nys_scenario.specs.Protocol.{Protocol, protocol_of}
use Rattle.nys_scenario.specs.Values.{optional, text_in, text_of}
use Rattle.nys_scenario.specs.declared.fault.KeyKind.{KeyKind}
use Rattle.nys_scenario.specs.declared.needs.Needs.{Needs}
use Rattle.nys_scenario.proofs.StringTables.{FitsMembers, FitsTable, FitsValue, document_fits, member_fits}

-- a text that is read from a value
value_fits : (n : ℕ) (o : Option Data) (text : List ℕ) → FitsValue n o → optional [] text_in o ≡ Ok text → length text ≤ n
value_fits n None text fits e = let is : [] ≡ text = cc in subst (λ (t : List ℕ). length t ≤ n) is (omega arith)
value_fits n (Some (string s)) text fits e = let is : s ≡ text = cc in subst (λ (t : List ℕ). length t ≤ n) is fits
value_fits n (Some (integer z)) text fits e = cc
value_fits n (Some (float x)) text fits e = cc
value_fits n (Some (boolean b)) text fits e = cc
value_fits n (Some (datetime dt)) text fits e = cc
value_fits n (Some (array ds)) text fits e = cc
value_fits n (Some (table ms)) text fits e = cc

-- a text that stands under a key
text_fits : (n : ℕ) (key : List ℕ) (ms : Members) (text : List ℕ) → FitsMembers n ms → text_of key ms ≡ Ok text → length text ≤ n
unfolding text_of
text_fits n key ms text all e = value_fits n (get_member key ms) text (member_fits n key ms all) e

-- the two texts are what their keys give
texts_from : (first second : Result (List ℕ) KeyKind) (k l : List ℕ) (texts : Texts)
    → after (named k first) (λ schedule. after (named l second) (λ run. Ok (record { schedule = schedule; run = run }))) ≡ Ok texts
    → (first ≡ Ok texts.schedule) × (second ≡ Ok texts.run)
texts_from (Err x) second k l texts e = cc
texts_from (Ok schedule) (Err x) k l texts e = cc
texts_from (Ok schedule) (Ok run) k l texts e =
    let is : record { schedule = schedule; run = run } ≡ texts = cc in
    (ap (λ (x : Texts). Ok x.schedule) is, ap (λ (x : Texts). Ok x.run) is)

-- the second part is what its keys give
keys_texts : (system : Result SystemKeys Refusal) (texts : Result Texts Refusal) (guarded : ℕ → Result Guarded Refusal)
    (unknown : Option (List ℕ)) (said : AllKeys)
    → after system (λ s. after texts (λ x. after (guarded s.hosts) (λ g. all_known (record { system = s; texts = x; guarded = g }) unknown))) ≡ Ok said
    → texts ≡ Ok said.texts
keys_texts (Err k) texts guarded unknown said e = cc
keys_texts (Ok s) (Err k) guarded unknown said e = cc
keys_texts (Ok s) (Ok x) guarded unknown said e = go (guarded s.hosts) unknown e
  where
    go : (r : Result Guarded Refusal) (o : Option (List ℕ))
        → after r (λ g. all_known (record { system = s; texts = x; guarded = g }) o) ≡ Ok said
        → ◌≡◌ {A = Result Texts Refusal} (Ok x) (Ok said.texts)
    go (Err k) o h = cc
    go (Ok g) (Some key) h = cc
    go (Ok g) None h =
        let is : record { system = s; texts = x; guarded = g } ≡ said = cc in
        ap (λ (y : AllKeys). Ok y.texts) is

-- what is said has the second part of the keys, whatever the hosts run
said_texts : (texts : Result Texts Refusal) (keys : Result AllKeys Refusal) (said : Said)
    → ((k : AllKeys) → keys ≡ Ok k → texts ≡ Ok k.texts)
    → after keys (λ k. after (protocol_of k.system.name k.system.root k.system.machine) (λ protocol. Ok (said_with k protocol))) ≡ Ok said
    → texts ≡ Ok said.texts
said_texts texts (Err refusal) said given e = cc
said_texts texts (Ok k) said given e = go (protocol_of k.system.name k.system.root k.system.machine) e
  where
    go : (r : Result Protocol Refusal) → after r (λ protocol. Ok (said_with k protocol)) ≡ Ok said → texts ≡ Ok said.texts
    go (Err refusal) h = cc
    go (Ok protocol) h =
        let is : said_with k protocol ≡ said = cc in
        subst (λ (y : Said). texts ≡ Ok y.texts) is (given k refl)

-- the texts of a table of which each string has at most so many bytes
table_texts : (needs : Needs) (n : ℕ) (ms : Members) (said : Said) → FitsMembers n ms → scenario_of needs ms ≡ Ok said
    → (length said.texts.schedule ≤ n) × (length said.texts.run ≤ n)
unfolding scenario_of texts_of
table_texts needs n ms said all e =
    let given = said_texts (texts_of ms) (keys_of needs ms) said
    (λ keys same. keys_texts (system_of ms) (texts_of ms) (λ hosts. guarded_of needs hosts ms) (unknown_key ms) keys same) e in
    let parts = texts_from (text_of (codes "schedule") ms) (text_of (codes "run") ms) (codes "schedule") (codes "run") said.texts given in
    (text_fits n (codes "schedule") ms said.texts.schedule all parts.0, text_fits n (codes "run") ms said.texts.run all parts.1)

-- the table of a document
document_table : (n : ℕ) (b : Bool) (o : Option Members) → FitsTable n o → FitsTable n (if b then o else None)
document_table n true o fits = fits
document_table n false o fits = tt

-- the texts of a document are no longer than it
pub texts_within : (needs : Needs) (bytes : List ℕ) (said : Said) → answer_to needs bytes ≡ Ok said
    → (length said.texts.schedule ≤ length bytes) × (length said.texts.run ≤ length bytes)
texts_within needs bytes said e =
    go (document_of bytes) (document_table (length bytes) (is_utf8 bytes) (parse_document bytes) (document_fits bytes)) e
  where
    go : (o : Option Members) → FitsTable (length bytes) o → answer_from needs o ≡ Ok said
        → (length said.texts.schedule ≤ length bytes) × (length said.texts.run ≤ length bytes)
    go None fits h = cc
    go (Some ms) fits h = table_texts needs (length bytes) ms said fits h

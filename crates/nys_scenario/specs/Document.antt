-- What the bytes of a document say, by the table of keys.
use Rattle.std.specs.Prelude.{ℕ, Bool, List, codes, map, if◌then◌else◌, Option, Some, None, Result, Ok, Err, option_and_then}
use Rattle.std.specs.Str.{is_utf8}
use Rattle.toml.specs.Data.{Data, Members, as_array, get_member}
use Rattle.toml.specs.Parse.{parse_document}
use Rattle.nys_graph.specs.Links.{linked_in}
use Rattle.nys_hosts.specs.Sets.{has}
use Rattle.nys_hosts.specs.declared.limits.TheConstants.{MAX_HOSTS}
use Rattle.nys_scenario.specs.Epochs.{Epoch, epoch_seen, epochs_of}
use Rattle.nys_scenario.specs.Hosts.{Hosts, liars_of, root_for}
use Rattle.nys_scenario.specs.Keys.{Refusal, named, after}
use Rattle.nys_scenario.specs.Keys.Refusal.{AtKey}
use Rattle.nys_scenario.specs.Links.{links_of}
use Rattle.nys_scenario.specs.Protocol.{Protocol, protocol_by, protocol_of}
use Rattle.nys_scenario.specs.Unknown.{first_unknown, is_top_key, or_else, unknown_from}
use Rattle.nys_scenario.specs.Values.{master_of, name_of, number_of, text_for, text_of}
use Rattle.nys_scenario.specs.declared.fault.KeyKind.TheVariants.{Syntax, Unknown}
use Rattle.nys_scenario.specs.declared.needs.Needs.{Needs}
use Rattle.nys_scenario.specs.declared.protocol.ProtocolName.{ProtocolName}
use Rattle.nys_scenario.specs.declared.scenario.Scenario.{Scenario}

-- the hosts, their links and what they run
pub record System : Type 0 where
  pub hosts : ℕ
  pub linked : ℕ → ℕ → Bool
  pub protocol : Protocol

-- what the keys say of it, a machine by its text; 0 stands for a root that is left out
pub record SystemKeys : Type 0 where
  pub hosts : ℕ
  pub linked : ℕ → ℕ → Bool
  pub name : ProtocolName
  pub machine : List ℕ
  pub root : ℕ

-- the schedule and the run, as they stand
pub record Texts : Type 0 where
  pub schedule : List ℕ
  pub run : List ℕ

-- what only guarded hosts have
pub record Guarded : Type 0 where
  pub master : List ℕ
  pub liars : Hosts
  pub epochs : List Epoch

-- what a document says
pub record Said : Type 0 where
  pub system : System
  pub texts : Texts
  pub guarded : Guarded

-- what the keys of a document say, before the text of a machine is read
pub record AllKeys : Type 0 where
  pub system : SystemKeys
  pub texts : Texts
  pub guarded : Guarded

-- the keys `hosts`, `links`, `protocol`, `machine` and `root`
unfoldable pub system_of : Members → Result SystemKeys Refusal
system_of table =
    after (named (codes "hosts") (number_of 1 MAX_HOSTS (codes "hosts") table)) (λ hosts.
    after (named (codes "links") (links_of hosts table)) (λ linked.
    after (named (codes "protocol") (name_of table)) (λ name.
    after (named (codes "machine") (text_for name table)) (λ machine.
    after (named (codes "root") (root_for name hosts table)) (λ root.
    Ok (record { hosts = hosts; linked = linked; name = name; machine = machine; root = root }))))))

-- the keys `schedule` and `run`
unfoldable pub texts_of : Members → Result Texts Refusal
texts_of table =
    after (named (codes "schedule") (text_of (codes "schedule") table)) (λ schedule.
    after (named (codes "run") (text_of (codes "run") table)) (λ run.
    Ok (record { schedule = schedule; run = run })))

-- the keys `master`, `liars` and `epoch`, with the keys of each epoch
unfoldable pub guarded_of : Needs → ℕ → Members → Result Guarded Refusal
guarded_of needs hosts table =
    after (named (codes "master") (master_of needs.master table)) (λ master.
    after (named (codes "liars") (liars_of hosts table)) (λ liars.
    after (epochs_of hosts needs.epochs table) (λ epochs.
    Ok (record { master = master; liars = liars; epochs = epochs }))))

-- the first unknown key of the epochs
abbrev pub unknown_in_epochs : Option Data → Option (List ℕ)
unknown_in_epochs found = option_and_then (unknown_from 0) (option_and_then as_array found)

-- the unknown key that is named: the least of the top table, else the least of the first epoch with one
unfoldable pub unknown_key : Members → Option (List ℕ)
unknown_key table = or_else (first_unknown is_top_key table)
    (unknown_in_epochs (get_member (codes "epoch") table))

-- what is said, where every key is known
abbrev pub all_known : {A : Type 0} → A → Option (List ℕ) → Result A Refusal
all_known said None = Ok said
all_known said (Some key) = Err (AtKey key Unknown)

-- what the keys say, or the first that is at fault
abbrev pub keys_of : Needs → Members → Result AllKeys Refusal
keys_of needs table =
    after (system_of table) (λ system.
    after (texts_of table) (λ texts.
    after (guarded_of needs system.hosts table) (λ guarded.
    all_known (record { system = system; texts = texts; guarded = guarded }) (unknown_key table))))

-- what is said by keys that name this protocol
abbrev pub said_with : AllKeys → Protocol → Said
said_with keys protocol = record {
  system = record { hosts = keys.system.hosts; linked = keys.system.linked; protocol = protocol };
  texts = keys.texts;
  guarded = keys.guarded;
}

-- what the table of a document says, or its first fault: a machine is read after all keys are tested
unfoldable pub scenario_of : Needs → Members → Result Said Refusal
scenario_of needs table =
    after (keys_of needs table) (λ keys.
    after (protocol_of keys.system.name keys.system.root keys.system.machine) (λ protocol. Ok (said_with keys protocol)))

-- the table of a document, where the bytes are one
abbrev pub document_of : List ℕ → Option Members
document_of bytes = if is_utf8 bytes then parse_document bytes else None

-- what the table says, where there is one
abbrev pub answer_from : Needs → Option Members → Result Said Refusal
answer_from needs None = Err (AtKey (codes "document") Syntax)
answer_from needs (Some table) = scenario_of needs table

-- what the bytes of a document say, or their first fault
abbrev pub answer_to : Needs → List ℕ → Result Said Refusal
answer_to needs bytes = answer_from needs (document_of bytes)

-- a scenario, as what a document says
abbrev pub said_by : Scenario → Said
said_by scenario = record {
  system = record {
    hosts = scenario.graph.hosts;
    linked = linked_in scenario.graph.rows;
    protocol = protocol_by scenario.choice;
  };
  texts = record { schedule = scenario.schedule; run = scenario.run };
  guarded = record {
    master = scenario.master;
    liars = has scenario.liars;
    epochs = map epoch_seen scenario.epochs.items;
  };
}

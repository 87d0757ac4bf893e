-- The epochs of a document.
use Rattle.std.specs.Prelude.{ℕ, ℤ, pos, negsuc, ◌+◌, ◌-◌, ◌==◌, ◌&&◌, Bool, true, false, List, [], ◌∷◌, ◌++◌, length, map, replicate, codes, decimal, nat_le, is_some, if◌then◌else◌, Option, Some, None, Result, Ok, Err, option_map, option_and_then}
use Rattle.std.specs.Option.{option_map_or}
use Rattle.toml.specs.Data.{Data, Items, no_items, item, Members, as_array, as_integer, as_table, get_member}
use Rattle.nys_hosts.specs.Sets.{has}
use Rattle.nys_hosts.specs.declared.limits.TheConstants.{MAX_CREDIT, MAX_EPOCHS, MAX_HOSTS, MAX_T}
use Rattle.nys_scenario.specs.Hosts.{Hosts, are_integers, hosts_after, nobody, or_range}
use Rattle.nys_scenario.specs.Keys.{Refusal, named, after}
use Rattle.nys_scenario.specs.Keys.Refusal.{AtKey}
use Rattle.nys_scenario.specs.Values.{all_items, number_of, optional, typed, values_after}
use Rattle.nys_scenario.specs.declared.epoch.EpochText.{EpochText}
use Rattle.nys_scenario.specs.declared.fault.KeyKind.{KeyKind}
use Rattle.nys_scenario.specs.declared.fault.KeyKind.TheVariants.{Missing, Kind, Range}

-- what a document says of an epoch
pub record Epoch : Type 0 where
  pub t : ℕ
  pub credit : ℕ
  -- for each of `MAX_HOSTS` numbers the threshold of that host, 0 past the last host; None where it is `t` for each host
  pub thresholds : Option (List ℕ)
  -- for each of `MAX_HOSTS` numbers the guards of that host, nobody past the last host; None where they are to be planned
  pub guards : Option (List Hosts)

-- an epoch of a scenario, as what is said of it
abbrev pub epoch_seen : EpochText → Epoch
epoch_seen epoch = record {
  t = epoch.t;
  credit = epoch.credit;
  thresholds = epoch.thresholds;
  guards = option_map (map has) epoch.guards;
}

-- how many members an array has
unfoldable pub count_of : Items → ℕ
count_of no_items = 0
count_of (item first rest) = count_of rest + 1

-- the values of all hosts, and this one for the numbers past the last
abbrev pub padded : {A : Type 0} → A → List A → List A
padded last values = values ++ replicate (MAX_HOSTS - length values) last

-- one value for each host, and this one past the last; out of range where a member gives none
abbrev pub for_hosts : {A : Type 0} → ℕ → A → (Data → Option A) → Items → Result (Option (List A)) KeyKind
for_hosts hosts last give found = if count_of found == hosts
    then or_range (option_map (λ values. Some (padded last values)) (values_after give (Some []) found))
    else Err Range

-- the threshold that a number is, where it is at most t
abbrev pub threshold_of : ℕ → ℤ → Option ℕ
threshold_of t (pos n) = if nat_le n t then Some n else None
threshold_of t (negsuc n) = None

-- the threshold that a value is
abbrev pub threshold_in : ℕ → Data → Option ℕ
threshold_in t found = option_and_then (threshold_of t) (as_integer found)

-- one threshold for each host
abbrev pub thresholds_listed : ℕ → ℕ → Items → Result (Option (List ℕ)) KeyKind
thresholds_listed hosts t found =
    if are_integers found then for_hosts hosts 0 (threshold_in t) found else Err Kind

-- the key `thresholds` of an epoch
unfoldable pub thresholds_of : ℕ → ℕ → Members → Result (Option (List ℕ)) KeyKind
thresholds_of hosts t table = optional None (λ found. typed (thresholds_listed hosts t) (as_array found))
    (get_member (codes "thresholds") table)

-- each member is an array of integers
abbrev pub are_lists : Items → Bool
are_lists found = all_items (λ value. option_map_or are_integers (as_array value) false) found

-- the hosts in an array, where each member is one and none stands twice
abbrev pub set_in : ℕ → Option Items → Option Hosts
set_in hosts None = None
set_in hosts (Some found) = hosts_after hosts (Some nobody) found

-- the hosts that a value lists, where they are distinct
abbrev pub row_in : ℕ → Data → Option Hosts
row_in hosts found = set_in hosts (as_array found)

-- one list of guards for each host
abbrev pub guards_listed : ℕ → Items → Result (Option (List Hosts)) KeyKind
guards_listed hosts found =
    if are_lists found then for_hosts hosts nobody (row_in hosts) found else Err Kind

-- the key `guards` of an epoch
unfoldable pub guards_of : ℕ → Members → Result (Option (List Hosts)) KeyKind
guards_of hosts table = optional None (λ found. typed (guards_listed hosts) (as_array found))
    (get_member (codes "guards") table)

-- a key of epoch i as it is printed
abbrev pub epoch_key : ℕ → List ℕ → List ℕ
epoch_key i key = codes "epoch[" ++ (decimal i ++ (codes "]." ++ key))

-- what the table of epoch i says: `t`, then `credit`, then `thresholds`, then `guards`
unfoldable pub epoch_of : ℕ → ℕ → Members → Result Epoch Refusal
epoch_of hosts i table =
    after (named (epoch_key i (codes "t")) (number_of 0 MAX_T (codes "t") table)) (λ t.
    after (named (epoch_key i (codes "credit")) (number_of 1 MAX_CREDIT (codes "credit") table)) (λ credit.
    after (named (epoch_key i (codes "thresholds")) (thresholds_of hosts t table)) (λ thresholds.
    after (named (epoch_key i (codes "guards")) (guards_of hosts table)) (λ guards.
    Ok (record { t = t; credit = credit; thresholds = thresholds; guards = guards })))))

-- what epoch i says; a member that is no table is of another type
abbrev pub epoch_at : ℕ → ℕ → Option Members → Result Epoch Refusal
epoch_at hosts i None = Err (AtKey (codes "epoch") Kind)
epoch_at hosts i (Some table) = epoch_of hosts i table

-- the epochs so far and one more
abbrev pub with_epoch : List Epoch → Result Epoch Refusal → Result (List Epoch) Refusal
with_epoch before (Ok epoch) = Ok (before ++ epoch ∷ [])
with_epoch before (Err refusal) = Err refusal

-- the epochs before an array and those in it, or the first refusal
abbrev pub epochs_after : ℕ → Result (List Epoch) Refusal → Items → Result (List Epoch) Refusal
epochs_after hosts (Err refusal) more = Err refusal
epochs_after hosts (Ok before) no_items = Ok before
epochs_after hosts (Ok before) (item first rest) =
    epochs_after hosts (with_epoch before (epoch_at hosts (length before) (as_table first))) rest

-- each member is a table
abbrev pub are_tables : Items → Bool
are_tables found = all_items (λ value. is_some (as_table value)) found

-- an array of 1 to `MAX_EPOCHS` tables
abbrev pub tables_listed : Items → Result (Option Items) KeyKind
tables_listed found = if are_tables found
    then (if nat_le 1 (count_of found) && nat_le (count_of found) MAX_EPOCHS then Ok (Some found) else Err Range)
    else Err Kind

-- tables of epochs, which may be left out where none is needed
abbrev pub tables_at : Bool → Option Data → Result (Option Items) KeyKind
tables_at true None = Err Missing
tables_at false None = Ok None
tables_at needed (Some found) = typed tables_listed (as_array found)

-- the key `epoch`, as the tables under it
unfoldable pub tables_of : Bool → Members → Result (Option Items) KeyKind
tables_of needed table = tables_at needed (get_member (codes "epoch") table)

-- the epochs of the tables that stand under the key
abbrev pub epochs_in : ℕ → Option Items → Result (List Epoch) Refusal
epochs_in hosts None = Ok []
epochs_in hosts (Some tables) = epochs_after hosts (Ok []) tables

-- the epochs of a document
unfoldable pub epochs_of : ℕ → Bool → Members → Result (List Epoch) Refusal
epochs_of hosts needed table =
    after (named (codes "epoch") (tables_of needed table)) (epochs_in hosts)

-- When a replica stands for a log, and what may be asked of one that does.
use Rattle.std.specs.Prelude.{◌≡◌, ℕ, ◌+◌, ◌<◌, ◌≤◌, List, drop, length}
use Rattle.nys_bytes.specs.declared.content.Content.{Content}
use Rattle.nys_source.specs.Tables.{at_each, lists_at}
use Rattle.nys_source.specs.Rules.{Rules}
use Rattle.nys_source.specs.Source.{Source}
use Rattle.nys_agreement.specs.Alone.{alone, Fits}
use Rattle.nys_replica.specs.Packing.{IsPacked}
use Rattle.nys_replica.specs.declared.replica.Replica.{Replica}
use Rattle.nys_hosts.specs.declared.limits.TheConstants.{MAX_SLOTS}

-- the slot from which on a replica keeps the entries of the log
abbrev pub kept_from : {P S : Type 0} → Replica P S → ℕ
kept_from replica = replica.entries.first

-- the entries that it keeps, oldest first
abbrev pub entries_of : {P S : Type 0} → Replica P S → List Content
entries_of replica = replica.entries.entries

-- how many entries the log has, with those that the replica has forgotten
abbrev pub entry_count : {P S : Type 0} → Replica P S → ℕ
entry_count replica = kept_from replica + length (entries_of replica)

-- the replica holds what the system holds of host h, its state as the bytes of the numbers that show it
pub record Holds {P S : Type 0} (rules : Rules S) (h : ℕ) (replica : Replica P S)
    (system : Source S) : Type 0 where
  pub host : replica.h ≡ h
  pub state : IsPacked replica.packed.items (rules.view (system.state h))
  pub outs : replica.outs.items ≡ system.outs h
  pub sent : lists_at replica.sent ≡ system.sent h
  pub received : (p : ℕ) → at_each (λ _. 0) replica.received p ≡ system.received p h

-- the replica stands for this log of host h
pub record StandsFor {P S : Type 0} (rules : Rules S) (h : ℕ) (replica : Replica P S) (log : List Content) : Type 0 where
  pub inside : h < rules.hosts
  -- it has as many entries as a log may have, or fewer
  pub short : length log ≤ MAX_SLOTS
  -- it has as many entries as the log, and keeps those from a slot on
  pub count : entry_count replica ≡ length log
  pub entries : entries_of replica ≡ drop (kept_from replica) log
  -- state, outputs, sent lists and numbers taken are those that the log gives
  pub holds : Holds rules h replica (alone rules h log)

-- the replica stands for some log
pub record IsReplica {P S : Type 0} (rules : Rules S) (replica : Replica P S) : Type 0 where
  pub h : ℕ
  pub log : List Content
  pub stands : StandsFor rules h replica log

-- the replica stands for some log that has room, and in which the content comes next
pub record CanTake {P S : Type 0} (rules : Rules S) (replica : Replica P S) (content : Content) : Type 0 where
  pub h : ℕ
  pub log : List Content
  pub stands : StandsFor rules h replica log
  pub room : length log < MAX_SLOTS
  pub fits : Fits rules h log content

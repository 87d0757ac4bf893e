-- The parties that a record is for, and what each of them gets.
use Rattle.std.specs.Prelude.{ℕ, ◌<◌, ◌≤◌, List, [], ◌∷◌, map, All, AllPairs}
use Rattle.nys_hosts.specs.declared.limits.TheConstants.{MAX_HOSTS}
use Rattle.nys_mac.specs.Tags.{tag_of}
use Rattle.nys_stmt.specs.declared.records.Record.{Record}
use Rattle.nys_stmt.specs.declared.statement.Statement.{Statement}
use Rattle.nys_rules.specs.Packets.{Acts, Sent}
use Rattle.nys_rules.specs.Sending.{others, packet, to_each}

-- receivers rise, and each is a party
pub record AreReceivers (receivers : List ℕ) : Type 0 where
  pub rising : AllPairs (λ a b. a < b) receivers
  pub parties : All (λ g. g ≤ MAX_HOSTS) receivers

-- a receiver with the maker's tag for it on these bytes
abbrev pub tagged : (keys : List ℕ) → ℕ → List ℕ → ℕ → ℕ × List ℕ
tagged keys maker bytes g = (g, tag_of keys maker g bytes)

-- the packet with these bytes
abbrev pub framed : ℕ → List ℕ → ℕ → Sent
framed from frame to = record { from = from; to = to; frame = frame }

-- the record with one maker and its tags
abbrev pub record_with : (maker : ℕ) → Statement → List (ℕ × List ℕ) → Record
record_with maker statement tags = record { statement = statement; makers = record { maker = maker; tags = tags } ∷ [] }

-- the party sends a record to others, and makes no statement
unfoldable pub sent_others : (me : ℕ) → Record → List ℕ → Acts
sent_others me r receivers = record { made = []; packets = to_each me r (others me receivers); grew = [] }

-- the party makes a statement with these tags, and sends it to others
unfoldable pub made_with : (maker : ℕ) → Statement → List (ℕ × List ℕ) → (sent_to : List ℕ) → Acts
made_with maker statement tags sent_to = record {
  made = statement ∷ [];
  packets = to_each maker (record_with maker statement tags) (others maker sent_to);
  grew = [];
}

-- records go to one party, in this order; no statement is made
unfoldable pub replied : (from to : ℕ) → List Record → Acts
replied from to records = record { made = []; packets = map (packet from to) records; grew = [] }

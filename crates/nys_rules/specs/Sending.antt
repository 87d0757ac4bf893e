-- The records and packets of a party's own statements. A party tags a statement for each of its
-- receivers but itself, and one record with all these tags goes to each of them, rising.
use Rattle.std.specs.Prelude.{ℕ, ◌==◌, not, List, [], ◌∷◌, map, filter}
use Rattle.nys_stmt.specs.declared.records.Record.{Record}
use Rattle.nys_stmt.specs.declared.statement.Body.{Body}
use Rattle.nys_stmt.specs.declared.statement.Statement.{Statement}
use Rattle.nys_stmt.specs.declared.tags.Tags.{Tags}
use Rattle.nys_stmt.specs.Records.{record_spelling}
use Rattle.nys_rules.specs.Packets.{Acts, Sent}
use Rattle.nys_rules.specs.Scope.{guards_of, olympus, Scope}
use Rattle.nys_rules.specs.View.{View}

-- a statement of an epoch
abbrev pub said_in : ℕ → Body → Statement
said_in epoch body = record { epoch = epoch; body = body }

-- the receivers but the party itself
abbrev pub others : ℕ → List ℕ → List ℕ
others me receivers = filter (λ g. not (g == me)) receivers

-- the tags of a party on its statement, one for each receiver
unfoldable pub tags_for : {S : Type 0} → Scope S → ℕ → Statement → List ℕ → List (ℕ × List ℕ)
tags_for scope maker statement receivers = map (λ g. (g, scope.tag maker g statement)) (others maker receivers)

-- the record with the party alone as maker
unfoldable pub own_record : {S : Type 0} → Scope S → ℕ → Statement → List ℕ → Record
own_record scope maker statement receivers = record {
  statement = statement;
  makers = record { maker = maker; tags = tags_for scope maker statement receivers } ∷ [];
}

-- the packet with a record
abbrev pub packet : (from to : ℕ) → Record → Sent
packet from to r = record { from = from; to = to; frame = record_spelling r }

-- a record to each receiver, in this order
unfoldable pub to_each : ℕ → Record → List ℕ → List Sent
to_each from r receivers = map (λ g. packet from g r) receivers

-- the party makes a statement, tagged for the receivers, and sends it to some of them
unfoldable pub made_for : {S : Type 0} → Scope S → ℕ → Statement → (receivers sent_to : List ℕ) → Acts
made_for scope maker statement receivers sent_to = record {
  made = statement ∷ [];
  packets = to_each maker (own_record scope maker statement receivers) (others maker sent_to);
  grew = [];
}

-- the party makes a statement and sends it to all receivers
abbrev pub announced : {S : Type 0} → Scope S → ℕ → Statement → List ℕ → Acts
announced scope maker statement receivers = made_for scope maker statement receivers receivers

-- the guards of a host in the epoch of the node
abbrev pub guards_at : {S : Type 0} → Scope S → View → ℕ → List ℕ
guards_at scope v h = guards_of scope v.epoch h

-- the node makes a statement of its epoch to the guards of a host
abbrev pub to_guards : {S : Type 0} → Scope S → View → ℕ → Body → Acts
to_guards scope v h body = announced scope v.me (said_in v.epoch body) (guards_at scope v h)

-- the record in which it did so
abbrev pub record_of : {S : Type 0} → Scope S → View → ℕ → Body → Record
record_of scope v h body = own_record scope v.me (said_in v.epoch body) (guards_at scope v h)

-- the node makes a statement of its epoch to the Olympus
abbrev pub to_olympus : {S : Type 0} → Scope S → View → Body → Acts
to_olympus scope v body = announced scope v.me (said_in v.epoch body) (olympus ∷ [])

-- What parties send and make, as plain data.
use Rattle.std.specs.Prelude.{ℕ, Bool, List, [], ◌++◌, Option, fold}
use Rattle.nys_stmt.specs.declared.statement.Statement.{Statement}
use Rattle.nys_rules.specs.declared.cause.DropCause.{DropCause}

-- a packet: its sender, the party that it is for, and its bytes
pub record Sent : Type 0 where
  pub from : ℕ
  pub to : ℕ
  pub frame : List ℕ

-- bytes that an event gave to a party
pub record Given : Type 0 where
  pub event : ℕ
  pub to : ℕ
  pub frame : List ℕ

-- what a party does: statements that it makes, packets that it sends, entries that it logs, in order
pub record Acts : Type 0 where
  pub made : List Statement
  pub packets : List Sent
  -- each host and slot that it logged
  pub grew : List (ℕ × ℕ)

-- nothing is done
abbrev pub nothing : Acts
nothing = record { made = []; packets = []; grew = [] }

-- the one, then the other
abbrev pub joined : Acts → Acts → Acts
joined a b = record {
  made = a.made ++ b.made;
  packets = a.packets ++ b.packets;
  grew = a.grew ++ b.grew;
}

-- all of them, one after another
abbrev pub all_joined : List Acts → Acts
all_joined parts = fold joined nothing parts

-- what a party did in one call, and what became of the record that it was given
pub record Done : Type 0 where
  pub acts : Acts
  -- the statement of a record that wasn't dropped
  pub statement : Option Statement
  -- the hosts whose tags were accepted, rising, and whether the Olympus's was
  pub accepted : List ℕ
  pub olympus : Bool
  -- why the record was dropped, if it was
  pub dropped : Option DropCause

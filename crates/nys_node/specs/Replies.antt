-- What a node sends to one asker, piece by piece.
use Rattle.std.specs.Prelude.{ℕ, ◌≤◌, ◌==◌, List, ◌++◌, filter, length, map}
use Rattle.nys_stmt.specs.declared.records.Record.{Record}
use Rattle.nys_stmt.specs.declared.statement.Body.TheVariants as body
use Rattle.nys_stmt.specs.declared.statement.FilledKind.TheVariants as kind
use Rattle.nys_rules.specs.Asking.{attest_records, slot_records, window_records}
use Rattle.nys_rules.specs.Scope.{guards_of, Scope}
use Rattle.nys_rules.specs.Sending.{others, said_in}
use Rattle.nys_rules.specs.View.{View}
use Rattle.nys_rules.specs.declared.kept.Kept.{Kept}
use Rattle.nys_node.specs.declared.node.Node.{Node}

-- the host has another guard, whom the node can tell something
abbrev pub CanTell : {P S : Type 0} → Scope S → Node P S → ℕ → Type 0
CanTell scope node h = 1 ≤ length (others node.me (guards_of scope node.epoch h))

-- the record of the Deliver votes that are kept of a slot
abbrev pub kept_record : (epoch h slot : ℕ) → Kept → Record
kept_record epoch h slot kept = record {
  statement = said_in epoch (body.Filled kind.Deliver h slot kept.content);
  makers = kept.makers;
}

-- the records of the slot among these
abbrev pub kept_among : (epoch h slot : ℕ) → List Kept → List Record
kept_among epoch h slot kept = map (kept_record epoch h slot) (filter (λ k. k.slot == slot) kept)

-- all that goes to one asker about a slot
abbrev pub answer_records : {S : Type 0} → Scope S → View → (h slot asker : ℕ) → List Record
answer_records scope v h slot asker = slot_records scope v h slot asker ++ attest_records scope v h

-- its attestations of the numbers of a link that are in the window
unfoldable pub window_of : {S : Type 0} → Scope S → View → (h p : ℕ) → List Record
window_of scope v h p = window_records scope v h p

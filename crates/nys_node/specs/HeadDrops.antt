-- The table of drops, as far as the head of a statement tells.
use Rattle.std.specs.Prelude.{ℕ, ◌==◌, nat_lt, Bool, ◌&&◌, true, false, Option, Some, None}
use Rattle.nys_rules.specs.Dropping.{ask_drop, attest_drop, if_current, inherit_drop, unless, vote_drop}
use Rattle.nys_rules.specs.Scope.{Scope}
use Rattle.nys_rules.specs.View.{View}
use Rattle.nys_rules.specs.declared.cause.DropCause.{DropCause}
use Rattle.nys_rules.specs.declared.cause.DropCause.TheVariants as drop
use Rattle.nys_stmt.specs.declared.statement.FilledKind.{FilledKind}
use Rattle.nys_stmt.specs.declared.statement.FilledKind.TheVariants.{Report, Inherit}
use Rattle.nys_wire.specs.declared.head.Head.{Head}
use Rattle.nys_wire.specs.declared.kind.Kind.{Kind}
use Rattle.nys_wire.specs.declared.kind.Kind.TheVariants as kind

-- an Open of so many lengths: its epoch is a later one of the scenario, and it has one length a host
abbrev pub counted_drop : {S : Type 0} → Scope S → View → (epoch count : ℕ) → Option DropCause
counted_drop scope v epoch count =
    unless (nat_lt v.epoch epoch && nat_lt epoch scope.epochs) drop.Epoch
    (unless (count == scope.rules.hosts) drop.NotGuard None)

-- the first test that a statement of the kind fails before its makers are looked at, and for an Inherit
-- before its content is
abbrev pub kind_drop : {S : Type 0} → Scope S → View → (epoch p h at : ℕ) → Kind → Option DropCause
kind_drop scope v e p h at (kind.Filled Report) = Some drop.NotMine
kind_drop scope v e p h at (kind.Filled Inherit) = if_current v e (inherit_drop scope v h at true)
kind_drop scope v e p h at (kind.Filled _) = if_current v e (vote_drop scope v h at)
kind_drop scope v e p h at kind.Attest = if_current v e (attest_drop scope v p h at)
kind_drop scope v e p h at kind.Ask = if_current v e (ask_drop scope v h at)
kind_drop scope v e p h at kind.Wedge = if_current v e None
kind_drop scope v e p h at kind.Frozen = Some drop.NotMine
kind_drop scope v e p h at kind.Open = counted_drop scope v e at

-- the same of a head
abbrev pub head_drop : {S : Type 0} → Scope S → View → Head → Option DropCause
head_drop scope v head = kind_drop scope v head.epoch head.p head.h head.at head.kind

-- what is said of a content is what the Olympus hands over
abbrev pub is_entry : FilledKind → Bool
is_entry Inherit = true
is_entry _ = false

-- the kind is that of an Inherit
abbrev pub is_inherit : Kind → Bool
is_inherit (kind.Filled filled) = is_entry filled
is_inherit _ = false

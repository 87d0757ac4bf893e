-- The Olympus's table of drops, by the head of a statement, which tells all that is tested before the makers.
use Rattle.std.specs.Prelude.{ℕ, nat_le, Option, Some, None}
use Rattle.nys_rules.specs.Dropping.{unless}
use Rattle.nys_rules.specs.Olympus.{OlympusView, testimony_drop}
use Rattle.nys_rules.specs.Scope.{Scope}
use Rattle.nys_rules.specs.declared.cause.DropCause.{DropCause}
use Rattle.nys_rules.specs.declared.cause.DropCause.TheVariants as drop
use Rattle.nys_stmt.specs.declared.statement.FilledKind.TheVariants.{Report}
use Rattle.nys_wire.specs.declared.head.Head.{Head}
use Rattle.nys_wire.specs.declared.kind.Kind.{Kind}
use Rattle.nys_wire.specs.declared.kind.Kind.TheVariants as kind

-- the first test that a statement of the kind fails before its makers are looked at
abbrev pub kind_drop : {S : Type 0} → Scope S → OlympusView → (epoch h at : ℕ) → Kind → Option DropCause
kind_drop scope o e h at (kind.Filled Report) =
    testimony_drop scope o e h (unless (nat_le (o.base h) at) drop.Slot None)
kind_drop scope o e h at kind.Frozen = testimony_drop scope o e h None
kind_drop scope o e h at _ = Some drop.NotMine

-- the same of a head
abbrev pub head_drop : {S : Type 0} → Scope S → OlympusView → Head → Option DropCause
head_drop scope o head = kind_drop scope o head.epoch head.h head.at head.kind

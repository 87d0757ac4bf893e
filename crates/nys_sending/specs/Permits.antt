-- Whom the kind of a statement permits as a maker, by its head.
use Rattle.std.specs.Prelude.{ℕ, ◌==◌, Bool, ◌&&◌}
use Rattle.nys_rules.specs.Scope.{olympus, Scope}
use Rattle.nys_stmt.specs.declared.statement.FilledKind.TheVariants.{Offer, Inherit}
use Rattle.nys_wire.specs.declared.head.Head.{Head}
use Rattle.nys_wire.specs.declared.kind.Kind.{Kind}
use Rattle.nys_wire.specs.declared.kind.Kind.TheVariants.{Filled, Attest, Ask, Wedge, Frozen, Open}

-- the kind permits the maker in an epoch, where the statement is of h, and for an Attest of p too
abbrev pub permits_kind : {S : Type 0} → Scope S → (epoch p h : ℕ) → Kind → ℕ → Bool
permits_kind scope e p h (Filled Offer) m = m == h
permits_kind scope e p h (Filled Inherit) m = m == olympus
permits_kind scope e p h (Filled _) m = scope.guards e h m
permits_kind scope e p h Attest m = scope.guards e p m && scope.guards e h m
permits_kind scope e p h Ask m = scope.guards e h m
permits_kind scope e p h Wedge m = m == olympus
permits_kind scope e p h Frozen m = scope.guards e h m
permits_kind scope e p h Open m = m == olympus

-- the same of a head
abbrev pub permits_head : {S : Type 0} → Scope S → Head → ℕ → Bool
permits_head scope head m = permits_kind scope head.epoch head.p head.h head.kind m

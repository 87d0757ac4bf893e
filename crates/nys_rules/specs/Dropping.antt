-- Which records a node drops, and why: the first test that fails, in the order of the table.
use Rattle.std.specs.Prelude.{ℕ, ◌+◌, ◌==◌, nat_lt, nat_le, Bool, ◌&&◌, ◌||◌, not, if◌then◌else◌, List, length, filter, Option, Some, None, bytes_eq}
use Rattle.std.specs.List.{list_any}
use Rattle.std.specs.Option.{option_or}
use Rattle.nys_rules.specs.declared.limits.TheConstants.{WINDOW}
use Rattle.nys_stmt.specs.declared.records.Record.{Record}
use Rattle.nys_stmt.specs.declared.statement.Body.{Body}
use Rattle.nys_stmt.specs.declared.statement.Body.TheVariants.{Filled, Attest, Ask, Wedge, Frozen, Open}
use Rattle.nys_stmt.specs.declared.statement.FilledKind.TheVariants.{Offer, Report, Inherit}
use Rattle.nys_stmt.specs.declared.statement.Statement.{Statement}
use Rattle.nys_stmt.specs.declared.tags.Tags.{Tags}
use Rattle.nys_rules.specs.declared.cause.DropCause.{DropCause}
use Rattle.nys_rules.specs.declared.cause.DropCause.TheVariants as drop
use Rattle.nys_rules.specs.Logging.{fits}
use Rattle.nys_rules.specs.Scope.{olympus, Scope}
use Rattle.nys_rules.specs.View.{has_reached, is_live, is_open, length_of, next_number, View}

-- whom the kind permits as a maker: for an Offer the host; for an Order, a Deliver, an Ask, a Report or a
-- Frozen a guard of the host; for an Attest a guard of both; for the rest the Olympus
abbrev pub permits : {S : Type 0} → Scope S → (epoch : ℕ) → Body → ℕ → Bool
permits scope e (Filled Offer h slot content) m = m == h
permits scope e (Filled Inherit h slot content) m = m == olympus
permits scope e (Filled _ h slot content) m = scope.guards e h m
permits scope e (Attest p h k payload) m = scope.guards e p m && scope.guards e h m
permits scope e (Ask h slot) m = scope.guards e h m
permits scope e (Frozen h slot) m = scope.guards e h m
permits scope e _ m = m == olympus

-- the tags have the right one for the taker
abbrev pub verifies : {S : Type 0} → Scope S → (taker : ℕ) → Statement → Tags → Bool
verifies scope taker statement tags =
    list_any (λ t. t.0 == taker && bytes_eq t.1 (scope.tag tags.maker taker statement)) tags.tags

-- the taker accepts the maker: it isn't the taker itself, the kind permits it, and its tag verifies
unfoldable pub accepts : {S : Type 0} → Scope S → (epoch taker : ℕ) → Statement → Tags → Bool
accepts scope e taker statement tags =
    not (tags.maker == taker) && (permits scope e statement.body tags.maker && verifies scope taker statement tags)

-- the makers of a record that the taker accepts, with all their tags
unfoldable pub accepted : {S : Type 0} → Scope S → (epoch taker : ℕ) → Record → List Tags
accepted scope e taker r = filter (accepts scope e taker r.statement) r.makers

-- the cause where the test fails, else what the tests after it say
abbrev pub unless : Bool → DropCause → Option DropCause → Option DropCause
unless passed cause rest = if passed then rest else Some cause

-- the tests of every kind but Open: the epoch is the node's, and the node isn't wedged
abbrev pub if_current : View → ℕ → Option DropCause → Option DropCause
if_current v epoch rest = unless (epoch == v.epoch) drop.Epoch (unless (not v.wedged) drop.Wedged rest)

-- an Offer, Order or Deliver: the host is live, and the slot is its open one
abbrev pub vote_drop : {S : Type 0} → Scope S → View → (h slot : ℕ) → Option DropCause
vote_drop scope v h slot =
    unless (is_live scope v h) drop.NotGuard
    (unless (is_open scope v h && slot == length_of v h) drop.Slot None)

-- an Attest: the host is live, the sender is one of its neighbours and not retired, and the number is in
-- the window
abbrev pub attest_drop : {S : Type 0} → Scope S → View → (p h k : ℕ) → Option DropCause
attest_drop scope v p h k =
    unless (is_live scope v h) drop.NotGuard
    (unless (nat_lt p scope.rules.hosts && (not (v.retired p) && scope.rules.linked p h)) drop.NotGuard
    (unless (nat_le (next_number scope v p h) k && nat_lt k (next_number scope v p h + WINDOW)) drop.Slot None))

-- an Ask: the host is live, and the slot isn't past the node's log
abbrev pub ask_drop : {S : Type 0} → Scope S → View → (h slot : ℕ) → Option DropCause
ask_drop scope v h slot =
    unless (is_live scope v h) drop.NotGuard (unless (nat_le slot (length_of v h)) drop.Slot None)

-- an Open: its epoch is a later one of the scenario, and it has one length a host
abbrev pub open_drop : {S : Type 0} → Scope S → View → (epoch : ℕ) → List (Option ℕ) → Option DropCause
open_drop scope v epoch lengths =
    unless (nat_lt v.epoch epoch && nat_lt epoch scope.epochs) drop.Epoch
    (unless (length lengths == scope.rules.hosts) drop.NotGuard None)

-- an Inherit: the host is live, the entry is the next one of its log, below the base, and it fits
abbrev pub inherit_drop : {S : Type 0} → Scope S → View → (h slot : ℕ) → Bool → Option DropCause
inherit_drop scope v h slot fit =
    unless (is_live scope v h) drop.NotGuard
    (unless ((slot == length_of v h && not (has_reached v h)) && fit) drop.Slot None)

-- the first test that a statement fails at a node, before its makers are looked at
abbrev pub misplaced_body : {S : Type 0} → Scope S → View → (epoch : ℕ) → Body → Option DropCause
misplaced_body scope v e (Filled Report h slot content) = Some drop.NotMine
misplaced_body scope v e (Filled Inherit h slot content) =
    if_current v e (inherit_drop scope v h slot (fits scope v h content))
misplaced_body scope v e (Filled _ h slot content) = if_current v e (vote_drop scope v h slot)
misplaced_body scope v e (Attest p h k payload) = if_current v e (attest_drop scope v p h k)
misplaced_body scope v e (Ask h slot) = if_current v e (ask_drop scope v h slot)
misplaced_body scope v e Wedge = if_current v e None
misplaced_body scope v e (Frozen h slot) = Some drop.NotMine
misplaced_body scope v e (Open lengths) = open_drop scope v e lengths

-- the same of a statement
unfoldable pub misplaced : {S : Type 0} → Scope S → View → Statement → Option DropCause
misplaced scope v statement = misplaced_body scope v statement.epoch statement.body

-- the last test: some maker is accepted
abbrev pub untagged : List Tags → Option DropCause
untagged makers = unless (nat_lt 0 (length makers)) drop.NoTag None

-- why a node drops a record, if it does
unfoldable pub verdict : {S : Type 0} → Scope S → View → Record → Option DropCause
verdict scope v r = option_or (misplaced scope v r.statement) (untagged (accepted scope r.statement.epoch v.me r))

-- The replica stands for the log, and what it has forgotten is at hand in the statement.
use Rattle.std.proofs.Common.{◌∙◌, ap, sym, arith, inl, inr}
use Rattle.std.specs.Prelude.{slice_get}
use Rattle.std.proofs.lemmas.Option.{slice_get_past}
use Rattle.nys_node.proofs.Knows.{no_log, replica_keeps, replica_stands}
use Rattle.nys_world.proofs.acting.entry_of.Goals as goal

-- the node has forgotten the entry, so the statement hands it over
pub returns-then-slot-kept_from-clause-entry : goal.returns-then-slot-kept_from-clause-entry
returns-then-slot-kept_from-clause-entry g c = λ scope v is hand.
    let keeps = replica_keeps scope c.args.node.now v is.means c.args.h _ c.in-Some.ensures.some in
    elim hand [
      | inl kept ↦ absurd (omega (arith, kept, keeps, c.kept_from.ensures.kept, c.if-slot-kept_from.true))
      | inr told ↦ c.inherited.ensures ∙ told
    ]

-- the entry of the slot
pub returns-then-slot-len-clause-entry : goal.returns-then-slot-len-clause-entry
returns-then-slot-len-clause-entry g c = λ scope v is hand.
    sym (c.entry.ensures.entry scope.rules c.args.h (v.logs c.args.h)
    (replica_stands scope c.args.node.now v is.means c.args.h _ c.in-Some.ensures.some))

-- the slot is behind the log
pub returns-else-slot-len-clause-entry : goal.returns-else-slot-len-clause-entry
returns-else-slot-len-clause-entry g c = λ scope v is hand.
    let stands = replica_stands scope c.args.node.now v is.means c.args.h _ c.in-Some.ensures.some in
    let count = c.len.ensures.count scope.rules c.args.h (v.logs c.args.h) stands in
    sym (slice_get_past (v.logs c.args.h) c.args.slot (omega (arith, c.if-slot-len.false, count)))

-- no replica, no log
pub returns-in-None-clause-entry : goal.returns-in-None-clause-entry
returns-in-None-clause-entry g c = λ scope v is hand.
    sym (ap (λ log. slice_get log c.args.slot) (no_log scope c.args.node.now v is.means c.args.h c.requires.host c.in-None.ensures.none))

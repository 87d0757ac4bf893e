use Rattle.std.proofs.Common.{◌≡◌, Some, drop}
use Rattle.nys_meaning.specs.Exprs as m
use Rattle.nys_places.specs.Cells.{place_reads}
use Rattle.nys_walk.proofs.walk.+walk.Given as goal

-- what is left of a level, from the value so far, gives what the whole level gives
abbrev pub invariant-both-loop-next : goal.invariant-both-loop-next
invariant-both-loop-next l = m.chain (λ a. m.and_on place_reads l.here l.cells (m.neg place_reads l.here a)) (Some l.value) (drop l.next-index l.next-items) ≡ m.both place_reads l.fn.here l.fn.e l.fn.cells l.fn.left

abbrev pub invariant-expr-loop-next : goal.invariant-expr-loop-next
invariant-expr-loop-next l = m.chain (λ a. m.or_on place_reads l.here l.cells (m.both place_reads l.here a)) (Some l.value) (drop l.next-index l.next-items) ≡ m.expr place_reads l.fn.here l.fn.e l.fn.cells l.fn.left

abbrev pub invariant-sum-loop-next : goal.invariant-sum-loop-next
invariant-sum-loop-next l = m.chain (λ a. m.tail place_reads l.here a l.cells) (Some l.value) (drop l.next-index l.next-items) ≡ m.sum place_reads l.fn.here l.fn.e l.fn.cells l.fn.left

abbrev pub invariant-term-loop-next : goal.invariant-term-loop-next
invariant-term-loop-next l = m.chain (λ a. m.term_tail place_reads l.here a l.cells) (Some l.value) (drop l.next-index l.next-items) ≡ m.term place_reads l.fn.here l.fn.e l.fn.cells l.fn.left

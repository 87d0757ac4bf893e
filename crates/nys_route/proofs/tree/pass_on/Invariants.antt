-- the effects so far are the output and the sends to the children below `q`
use Rattle.std.proofs.Common.{◌≡◌, ◌++◌, ◌∷◌, None}
use Rattle.std.specs.Prelude.{slice_index_or}
use Rattle.nys_graph.specs.Links.{linked_in}
use Rattle.nys_source.specs.declared.effect.Effect.TheVariants.{Out}
use Rattle.nys_route.specs.Sends.{sends_where}
use Rattle.nys_route.specs.Trees.{is_child}
use Rattle.nys_route.proofs.tree.pass_on.Given as goal

abbrev pub invariant-loop-q : goal.invariant-loop-q
invariant-loop-q l =
    l.effects.items ≡ l.fn.effects.items ++ (Out l.payload ∷ sends_where l.q (is_child (linked_in l.graph.rows) (λ r. slice_index_or l.parents r None) l.h) l.payload)

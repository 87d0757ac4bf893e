-- The effects grow by the send to one host more, if that is a child.
use Rattle.std.proofs.Common.{◌++◌, ◌∷◌, [], if◌then◌else◌, None, ap, sym, ◌∙◌, append_assoc}
use Rattle.std.specs.Prelude.{slice_index_or}
use Rattle.nys_graph.specs.Links.{linked_in}
use Rattle.nys_source.specs.declared.effect.Effect.TheVariants.{Out, Send}
use Rattle.nys_route.specs.Sends.{sends_where}
use Rattle.nys_route.specs.Trees.{is_child}
use Rattle.nys_route.proofs.SendLemmas.{sends_more}
use Rattle.nys_route.proofs.tree.pass_on.Goals as goal

pub loop-q-preserved : goal.loop-q-preserved
loop-q-preserved c =
    let test = is_child (linked_in c.args.graph.now.rows) (λ r. slice_index_or c.args.parents.now r None) c.args.h in
    let q = c.loop-q.q in
    let payload = c.args.payload.now in
    let below = sends_where q test payload in
    let here = if test q then Send q payload ∷ [] else [] in
    c.in_ok-send_if.ensures
    ∙ ap (λ b. c.loop-q.effects.items ++ (if b then Send q payload ∷ [] else [])) c.is_child-passes.ensures
    ∙ ap (λ effects. effects ++ here) c.loop-q.invariant
    ∙ append_assoc c.args.effects.now.items (Out payload ∷ below) here
    ∙ ap (λ sends. c.args.effects.now.items ++ (Out payload ∷ sends)) (sym (sends_more test payload q))

-- The effects grow by the send to one host more, if that passes.
use Rattle.std.proofs.Common.{◌++◌, ◌∷◌, [], if◌then◌else◌, ap, sym, ◌∙◌, append_assoc}
use Rattle.nys_graph.specs.Links.{linked_in}
use Rattle.nys_source.specs.declared.effect.Effect.TheVariants.{Send}
use Rattle.nys_route.specs.Sends.{is_other, sends_where}
use Rattle.nys_route.proofs.SendLemmas.{sends_more}
use Rattle.nys_route.proofs.sends.send_others.Goals as goal

pub loop-q-preserved : goal.loop-q-preserved
loop-q-preserved c =
    let test = is_other (linked_in c.args.graph.now.rows) c.args.h c.args.from in
    let q = c.loop-q.q in
    let payload = c.args.payload.now in
    let below = sends_where q test payload in
    let here = if test q then Send q payload ∷ [] else [] in
    c.in_ok-send_if.ensures
    ∙ ap (λ b. c.loop-q.effects.items ++ (if b then Send q payload ∷ [] else [])) c.is_other-passes.ensures
    ∙ ap (λ effects. effects ++ here) c.loop-q.invariant
    ∙ append_assoc c.args.effects.now.items below here
    ∙ ap (λ sends. c.args.effects.now.items ++ sends) (sym (sends_more test payload q))

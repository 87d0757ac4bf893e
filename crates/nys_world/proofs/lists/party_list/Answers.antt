-- One party more.
use Rattle.std.proofs.Common.{[], ◌∷◌, ◌++◌, ◌∙◌, ap, sym}
use Rattle.nys_olympus.proofs.Supporting.{take_next}
use Rattle.nys_world.proofs.lists.party_list.Goals as goal

pub loop-i-preserved : goal.loop-i-preserved
loop-i-preserved c = c.in_ok-push.ensures.items
    ∙ ap (λ parties. parties ++ c.get.result ∷ []) c.loop-i.invariant
    ∙ sym (take_next c.args.to.now c.loop-i.i c.get.result c.get.ensures.member)

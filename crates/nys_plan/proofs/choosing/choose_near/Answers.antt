-- Each host of the component is chosen while more are needed.
use Rattle.std.proofs.Common.{[], arith, sym, ap, subst, ◌∙◌, inl, inr}
use Rattle.nys_hosts.specs.Sets.{has}
use Rattle.nys_plan.specs.Planned.{IsFirst}
use Rattle.nys_plan.proofs.ChoosingLemmas.{different_near, first_none, first_step, hosts_passing-zero}
use Rattle.nys_plan.proofs.choosing.choose_near.Goals as goal
use Rattle.nys_plan.proofs.choosing.choose_near.Goals.{then-contains, else-contains}

pub loop-g-init : goal.loop-g-init
loop-g-init c =
    subst (λ xs. IsFirst c.args.need xs (has c.empty-chosen.result))
    (sym (hosts_passing-zero (has c.args.near.now)))
    (first_none c.args.need (has c.empty-chosen.result) c.empty-chosen.ensures)

pub loop-g-preserved : goal.loop-g-preserved
loop-g-preserved c =
    let near = has c.args.near.now in
    let step = first_step near c.args.need c.loop-g.g [] (has c.loop-g.chosen)
    (has c.if-contains.chosen)
    (different_near near c.loop-g.g (omega arith)) c.loop-g.invariant in
    elim c.if-contains.branch [
      | then-contains w ↦ step (inl (
        sym c.contains.ensures ∙ w.if-contains.true,
        λ k. ap (λ set. has set k) w.chosen-is ∙ w.choose-chosen.ensures k,
      ))
      | else-contains w ↦ step (inr (
        sym c.contains.ensures
            ∙ w.if-contains.false,
        λ k. ap (λ set. has set k) w.chosen-is,
      ))
    ]

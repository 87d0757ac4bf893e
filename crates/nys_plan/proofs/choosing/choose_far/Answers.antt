-- Each host of no component is chosen while more are needed.
use Rattle.std.proofs.Common.{◌++◌, append-nil, not, arith, sym, ap, subst, ◌∙◌, inl, inr}
use Rattle.nys_hosts.specs.Sets.{has}
use Rattle.nys_plan.specs.Planned.{hosts_passing, IsFirst}
use Rattle.nys_plan.proofs.ChoosingLemmas.{different, first_step, hosts_passing-zero}
use Rattle.nys_plan.proofs.choosing.choose_far.Goals as goal
use Rattle.nys_plan.proofs.choosing.choose_far.Goals.{then-not-contains, else-not-contains}

pub loop-g-init : goal.loop-g-init
loop-g-init c =
    let near = has c.args.near.now in
    subst (λ xs. IsFirst c.args.need xs (has c.args.chosen))
    (sym (ap (λ xs. hosts_passing near c.args.n ++ xs) (hosts_passing-zero (λ h. not (near h)))
    ∙ append-nil (hosts_passing near c.args.n)))
    c.requires.before

pub loop-g-preserved : goal.loop-g-preserved
loop-g-preserved c =
    let near = has c.args.near.now in
    let step = first_step (λ h. not (near h)) c.args.need c.loop-g.g (hosts_passing near c.args.n)
    (has c.loop-g.chosen)
    (has c.if-not-contains.chosen) (different near c.args.n c.loop-g.g c.requires.few
    (omega arith)) c.loop-g.invariant in
    elim c.if-not-contains.branch [
      | then-not-contains w ↦ step (inl (
        ap not (sym c.contains.ensures ∙ w.if-not-contains.true),
        λ k. ap (λ set. has set k) w.chosen-is ∙ w.choose-chosen.ensures k,
      ))
      | else-not-contains w ↦ step (inr (
        ap not (sym c.contains.ensures ∙ w.if-not-contains.false),
        λ k. ap (λ set. has set k) w.chosen-is,
      ))
    ]

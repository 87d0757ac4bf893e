-- The greater of the greatest so far and of the next member's threshold; a set has hosts below 32 alone.
use Rattle.std.proofs.Common.{◌≡◌, true, false, ◌+◌, arith, refl, slice_index_or, sym, subst, ◌∙◌}
use Rattle.nys_hosts.specs.Sets.{has}
use Rattle.nys_guards.specs.Good.{threshold_in}
use Rattle.nys_plan.proofs.GreatestLemmas.{IsGreatestSoFar, greatest_all, greatest_first, greatest_more, greatest_past, member_below}
use Rattle.nys_plan.proofs.greatest.greatest_in.Goals as goal
use Rattle.nys_plan.proofs.greatest.greatest_in.Goals.{then-contains, else-contains}

pub loop-g-init : goal.loop-g-init
unfolding threshold_in
loop-g-init c =
    greatest_first (threshold_in c.args.t.now) (λ g. has c.args.set.now g ≡ true) c.args.h
    (slice_index_or c.args.t.now c.args.h 0) c.requires.member refl

pub loop-g-preserved : goal.loop-g-preserved
unfolding threshold_in
loop-g-preserved c =
    let t = threshold_in c.args.t.now in
    elim c.if-contains.branch [
      | then-contains w ↦ greatest_more t (λ g. has c.args.set.now g ≡ true) c.loop-g.g c.loop-g.greatest
          c.if-contains.greatest c.loop-g.invariant (sym c.contains.ensures ∙ w.if-contains.true)
          (w.greatest-is ∙ w.max-greatest.ensures)
      | else-contains w ↦ subst (λ m. IsGreatestSoFar t (λ g. has c.args.set.now g ≡ true) (c.loop-g.g + 1) m)
          (sym w.greatest-is)
          (greatest_past t (λ g. has c.args.set.now g ≡ true) c.loop-g.g c.loop-g.greatest c.loop-g.invariant
          (λ e. absurd (let no : true ≡ false = sym e ∙ sym c.contains.ensures ∙ w.if-contains.false in cc)))
    ]

pub returns-clause-most : goal.returns-clause-most
returns-clause-most c =
    greatest_all (threshold_in c.args.t.now) (λ g. has c.args.set.now g ≡ true) c.loop-g.g c.loop-g.greatest
    (λ g e. omega (arith, c.loop-g-test.false, member_below c.args.set.now g e)) c.loop-g.invariant

pub returns-clause-small : goal.returns-clause-small
returns-clause-small c =
    omega (arith, c.loop-g.invariant.same, c.requires.small c.loop-g.invariant.host)

use Rattle.std.proofs.Common.{ℕ, List, ◌++◌, ap, ◌∙◌, arith}
use Rattle.std.specs.Prelude.{Option}
use Rattle.nys_stmt.specs.Lists.{IsLength}
use Rattle.nys_wire.proofs.Places.{all_taken, at_next, each_next, next_there, one_more}
use Rattle.nys_wire.proofs.opening.LengthsRef.owned.Goals as goal

pub loop-member-init : goal.loop-member-init
loop-member-init c =
    ap (λ (l : List (Option ℕ)). l ++ c.into_iter-member-iterator.result) c.new-lengths.ensures
    ∙ c.into_iter-member-iterator.ensures.into_iter_gives ∙ c.again-member-items.ensures.same

pub push-requires-clause-room : goal.push-requires-clause-room
push-requires-clause-room c =
    let there = next_there c.loop-member.lengths c.in-Some.member _ _ (at_next _ _ _ _ _ c.in-Some.ensures.steps c.loop-member.invariant) in
    omega (arith, there.within, c.again-member-items.ensures.rule.few)

pub push-requires-clause-member : goal.push-requires-clause-member
push-requires-clause-member c =
    each_next IsLength c.loop-member.lengths c.in-Some.member _ _ (at_next _ _ _ _ _ c.in-Some.ensures.steps c.loop-member.invariant) c.again-member-items.ensures.rule.each

pub loop-member-preserved : goal.loop-member-preserved
loop-member-preserved c =
    ap (λ (l : List (Option ℕ)). l ++ c.next.new.self) c.in_ok-push.ensures.ok ∙ one_more c.loop-member.lengths c.in-Some.member _ _ _ c.in-Some.ensures.steps c.loop-member.invariant

pub returns : goal.returns
returns c = all_taken _ _ _ c.in-None.ensures.steps.0 c.loop-member.invariant

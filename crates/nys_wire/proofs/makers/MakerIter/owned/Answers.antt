use Rattle.std.proofs.Common.{◌≤◌, List, [], ◌∷◌, ◌++◌, ap, ◌∙◌}
use Rattle.nys_mac.specs.declared.keys.TheConstants.{LAST_PARTY}
use Rattle.nys_stmt.specs.declared.tags.Tags.{Tags}
use Rattle.nys_wire.proofs.Places.{all_taken, at_next, below_next, each_next, one_more}
use Rattle.nys_wire.proofs.makers.MakerIter.owned.Goals as goal

pub loop-maker-init : goal.loop-maker-init
loop-maker-init c =
    ap (λ (l : List Tags). l ++ c.into_iter-maker-iterator.result) c.new-makers.ensures
    ∙ c.into_iter-maker-iterator.ensures.into_iter_gives ∙ c.again-maker-items.ensures.same

pub push-requires-clause-party : goal.push-requires-clause-party
push-requires-clause-party c =
    rw c.in_ok-tags.ensures (each_next (λ (t : Tags). t.maker ≤ LAST_PARTY) c.loop-maker.makers c.in-Some.maker _ _ (at_next _ _ _ _ _ c.in-Some.ensures.steps c.loop-maker.invariant) c.again-maker-items.ensures.rule.parties)

-- makers rise
pub push-requires-clause-above : goal.push-requires-clause-above
push-requires-clause-above c =
    rw c.in_ok-tags.ensures (below_next (λ (t : Tags). t.maker) c.loop-maker.makers c.in-Some.maker _ _ (at_next _ _ _ _ _ c.in-Some.ensures.steps c.loop-maker.invariant) c.again-maker-items.ensures.rule.rising)

pub loop-maker-preserved : goal.loop-maker-preserved
loop-maker-preserved c =
    ap (λ (l : List Tags). l ++ c.next.new.self) (c.in_ok-push.ensures.ok ∙ ap (λ (t : Tags). c.loop-maker.makers ++ (t ∷ [])) c.in_ok-tags.ensures)
    ∙ one_more c.loop-maker.makers c.in-Some.maker _ _ _ c.in-Some.ensures.steps c.loop-maker.invariant

pub returns : goal.returns
returns c = all_taken _ _ _ c.in-None.ensures.steps.0 c.loop-maker.invariant

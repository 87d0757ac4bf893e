use Rattle.std.proofs.Common.{ℕ, ◌≤◌, List, ◌++◌, ap, subst, ◌∙◌}
use Rattle.nys_mac.specs.declared.keys.TheConstants.{LAST_PARTY}
use Rattle.nys_stmt.specs.declared.tags.Tags.{Tags}
use Rattle.nys_stmt.specs.Lists.{AreTags}
use Rattle.nys_wire.proofs.Places.{all_taken, at_next, below_next, each_next, one_more}
use Rattle.nys_wire.proofs.makers.MakerRef.tags.Goals as goal

pub loop-receiver-init : goal.loop-receiver-init
loop-receiver-init c =
    ap (λ (l : List (ℕ × List ℕ)). l ++ c.into_iter-receiver-iterator.result) c.new-tags.ensures
    ∙ c.into_iter-receiver-iterator.ensures.into_iter_gives ∙ c.again-receiver-items.ensures.same ∙ ap (λ (t : Tags). t.tags) c.self.view_is

pub push-requires-clause-party : goal.push-requires-clause-party
push-requires-clause-party c =
    let rule : AreTags c.args.self.now.tags = subst (λ (t : Tags). AreTags t.tags) c.self.view_is c.again-receiver-items.ensures.rule in
    each_next (λ (t : ℕ × List ℕ). t.0 ≤ LAST_PARTY) c.loop-receiver.tags (c.in-Some.receiver, c.in-Some.tag.now) _ _ (at_next _ _ _ _ _ c.in-Some.ensures.steps c.loop-receiver.invariant) rule.parties

-- receivers rise
pub push-requires-clause-above : goal.push-requires-clause-above
push-requires-clause-above c =
    let rule : AreTags c.args.self.now.tags = subst (λ (t : Tags). AreTags t.tags) c.self.view_is c.again-receiver-items.ensures.rule in
    below_next (λ (t : ℕ × List ℕ). t.0) c.loop-receiver.tags (c.in-Some.receiver, c.in-Some.tag.now) _ _ (at_next _ _ _ _ _ c.in-Some.ensures.steps c.loop-receiver.invariant) rule.rising

pub loop-receiver-preserved : goal.loop-receiver-preserved
loop-receiver-preserved c =
    let x : ℕ × List ℕ = (c.in-Some.receiver, c.in-Some.tag.now) in
    ap (λ (l : List (ℕ × List ℕ)). l ++ c.next.new.self) c.in_ok-push.ensures.ok ∙ one_more c.loop-receiver.tags x _ _ _ c.in-Some.ensures.steps c.loop-receiver.invariant

pub returns : goal.returns
returns c = all_taken _ _ _ c.in-None.ensures.steps.0 c.loop-receiver.invariant

use Rattle.std.proofs.Common.{ℕ, List, [], ◌∷◌, ◌++◌, length, All, refl, ap, subst, ◌∙◌}
use Rattle.std.specs.Prelude.{◌≢◌}
use Rattle.std.proofs.lemmas.List.Elements.{All-nil, All-push}
use Rattle.nys_stmt.specs.declared.tags.Tags.{Tags}
use Rattle.nys_wire.proofs.Places.{all_taken, at_next, each_next, next_there, one_more}
use Rattle.nys_wire.proofs.makers.MakerRef.tag_for.Goals as goal

pub loop-to-init : goal.loop-to-init
loop-to-init c = ([], c.into_iter-to-iterator.ensures.into_iter_gives ∙ c.again-to-items.ensures.same ∙ ap (λ (t : Tags). t.tags) c.self.view_is, All-nil _)

-- the one that was found is one of all
pub returns-then-to-receiver-clause-some : goal.returns-then-to-receiver-clause-some
returns-then-to-receiver-clause-some c =
    let there = next_there c.loop-to.invariant.0 (c.in-Some.to, c.in-Some.tag.now) _ _ (at_next _ _ _ _ _ c.in-Some.ensures.steps c.loop-to.invariant.1) in
    rw (← c.if-to-receiver.true) (length c.loop-to.invariant.0, there.within, there.is)

pub returns-then-to-receiver-clause-none : goal.returns-then-to-receiver-clause-none
returns-then-to-receiver-clause-none c = (
  λ e. absurd (let no = e in cc),
  λ each. absurd (each_next (λ (t : ℕ × List ℕ). t.0 ≢ c.args.receiver) c.loop-to.invariant.0 (c.in-Some.to, c.in-Some.tag.now) _ _ (at_next _ _ _ _ _ c.in-Some.ensures.steps c.loop-to.invariant.1) each c.if-to-receiver.true),
)

pub loop-to-preserved : goal.loop-to-preserved
loop-to-preserved c =
    let x : ℕ × List ℕ = (c.in-Some.to, c.in-Some.tag.now) in (
      c.loop-to.invariant.0 ++ (x ∷ []),
      one_more c.loop-to.invariant.0 x _ _ _ c.in-Some.ensures.steps c.loop-to.invariant.1,
      All-push (λ (t : ℕ × List ℕ). t.0 ≢ c.args.receiver) c.loop-to.invariant.0 x c.loop-to.invariant.2 c.if-to-receiver.false,
    )

pub returns-clause-none : goal.returns-clause-none
returns-clause-none c = (
  λ e. subst (λ (l : List (ℕ × List ℕ)). All (λ (t : ℕ × List ℕ). t.0 ≢ c.args.receiver) l) (all_taken _ _ _ c.in-None.ensures.steps.0 c.loop-to.invariant.1) c.loop-to.invariant.2,
  λ each. refl,
)

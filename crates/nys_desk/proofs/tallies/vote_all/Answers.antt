use Rattle.std.proofs.Common.{◌≡◌, ◌∷◌, ◌∙◌, ap, sym, subst}
use Rattle.std.specs.Prelude.{All}
use Rattle.std.specs.Vec.Iter.{into_iter_items}
use Rattle.std.proofs.lemmas.List.Elements.{All-tail}
use Rattle.nys_desk.specs.Makers.{IsHost}
use Rattle.nys_desk.specs.Seated.{seats_of}
use Rattle.nys_rules.specs.Noting.{voted}
use Rattle.nys_desk.proofs.tallies.vote_all.Goals as goal

-- the next maker's vote is kept, and the rest is left
pub loop-tags-preserved : goal.loop-tags-preserved
loop-tags-preserved c =
    let content = c.args.content.now in
    let left = into_iter_items c.loop-tags.tags-iterator in
    let rest = into_iter_items c.next.new.self in
    let first : left ≡ c.in-Some.tags ∷ rest = c.in-Some.ensures.steps.0 in (
      ap (λ votes. voted content rest votes) c.in_ok-vote_one.ensures
          ∙ ap (λ makers. voted content makers (seats_of c.loop-tags.votes)) (sym first) ∙ c.loop-tags.invariant.0,
      All-tail IsHost c.in-Some.tags rest (subst (λ makers. All IsHost makers) first c.loop-tags.invariant.1),
    )

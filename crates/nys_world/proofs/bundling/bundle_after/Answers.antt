-- The makers of the first record, then those of the other packets.
use Rattle.std.proofs.Common.{◌≡◌, ◌∙◌, List, ℕ, ap, length, subst, sym, arith}
use Rattle.std.specs.Prelude.{fold}
use Rattle.std.proofs.lemmas.Slice.{between_to_end}
use Rattle.nys_stmt.specs.Records.{IsWhole}
use Rattle.nys_stmt.specs.declared.tags.Tags.{Tags}
use Rattle.nys_votes.specs.Ordered.{makers_of}
use Rattle.nys_world.proofs.BundleLemmas.{bundle_is, gathered, joining}
use Rattle.nys_world.proofs.SeatLemmas.{seated_whole}
use Rattle.nys_world.proofs.bundling.bundle_after.Goals as goal

-- they are the makers of the bundle
pub returns-clause-value : goal.returns-clause-value
returns-clause-value c = λ w same.
    let packets = c.args.packets.now in
    let begun = c.in_ok-seats.seats.items in
    let seats = c.join_all.new.seats.items in
    let made : c.in_ok-makers.makers ≡ makers_of seats = c.in_ok-makers.ensures ∙ ap makers_of c.as_slice.ensures.value in
    let joined = c.in_ok-join_all.ensures.value w same
    ∙ ap (λ (ks : List ℕ). fold (joining w c.args.first.statement) begun ks) (between_to_end packets 1 (length packets) (omega arith)) in
    ap (λ (makers : List Tags). gathered c.args.first.statement makers) made
    ∙ bundle_is w packets c.args.first begun seats c.requires.some (c.requires.first w same) c.in_ok-seats.ensures.value joined

-- one of them is there, and each has tags
pub returns-clause-whole : goal.returns-clause-whole
returns-clause-whole c =
    let seats = c.join_all.new.seats.items in
    let made : c.in_ok-makers.makers ≡ makers_of seats = c.in_ok-makers.ensures ∙ ap makers_of c.as_slice.ensures.value in
    subst (λ (makers : List Tags). IsWhole (gathered c.args.first.statement makers)) (sym made)
    (seated_whole c.args.first.statement seats c.requires.well.statement.range c.in_ok-join_all.ensures.rule)

use Rattle.std.proofs.Common.{◌∙◌, length, refl}
use Rattle.std.proofs.lemmas.Option.{slice_get_read}
use Rattle.nys_node.proofs.HearLemmas.{frame_on, rest_on}
use Rattle.nys_node.proofs.attest.hear_all.Goals as goal

-- one maker more is heard
pub loop-tags-preserved : goal.loop-tags-preserved
loop-tags-preserved c = record {
  next = λ q. c.hear_one.ensures.next q ∙ c.loop-tags.invariant.next q;
  frame = frame_on c.args.table.now c.loop-tags.table c.hear_one.new.table c.args.p c.args.k _ c.loop-tags.invariant.frame c.in_ok-hear_one.ensures.seats;
  rest = rest_on c.loop-tags.table c.hear_one.new.table c.args.p c.args.k c.loop-tags.tags-index c.args.payload.now c.args.makers.now c.tags-item.result
      (slice_get_read c.args.makers.now (length c.args.makers.now) c.loop-tags.tags-index c.tags-item.result refl c.loop-tags-test.true c.tags-item.is) c.in_ok-hear_one.ensures.seats ∙ c.loop-tags.invariant.rest;
}

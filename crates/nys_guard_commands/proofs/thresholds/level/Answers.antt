-- Each host's place is set, and the others stay.
use Rattle.std.proofs.Common.{refl, arith, ◌∙◌, length-set}
use Rattle.nys_guard_commands.proofs.ThresholdLemmas.{level_more, level_none}
use Rattle.nys_guard_commands.proofs.thresholds.level.Goals as goal

pub loop-h-init : goal.loop-h-init
loop-h-init c = record {
  long = refl;
  same = level_none c.args.t;
}

pub loop-h-preserved : goal.loop-h-preserved
loop-h-preserved c = record {
  long = length-set c.loop-h.table c.loop-h.h c.args.t ∙ c.loop-h.invariant.long;
  same = level_more c.loop-h.table c.args.t c.loop-h.h
      (omega (arith, c.loop-h.invariant.long, c.loop-h-test.true, c.requires)) c.loop-h.invariant.same;
}

use Rattle.std.proofs.Common.{sym}
use Rattle.std.proofs.lemmas.Option.{get_or_from_slice_get, slice_get_within}
use Rattle.nys_stmt.specs.Spelling.{length_bytes}
use Rattle.nys_stmt.proofs.Written.{one_more_written}
use Rattle.nys_stmt.proofs.spelling.put_each_length.Goals as goal

pub loop-i-preserved : goal.loop-i-preserved
loop-i-preserved c =
    let member = c.get.result.now in
    one_more_written length_bytes c.args.lengths.now c.loop-i.i member member c.loop-i.out c.put_length.new.out _
    (slice_get_within c.args.lengths.now c.loop-i.i member c.get.ensures.member)
    (sym (get_or_from_slice_get c.args.lengths.now c.loop-i.i member member c.get.ensures.member))
    c.in_ok-put_length.ensures c.loop-i.invariant

use Rattle.std.proofs.Common.{rules, get_or, w64, pos, to_z, of_z}
use Rattle.std.specs.Prelude.{FitsSigned}
use Rattle.std.proofs.lemmas.Int.{to_z-of_z}
use Rattle.nys_stmt.specs.Spelling.{number_bytes}
use Rattle.nys_stmt.proofs.Written.{one_more_written}
use Rattle.nys_stmt.proofs.spelling.put_numbers.Goals as goal

pub loop-number-preserved : goal.loop-number-preserved
loop-number-preserved c =
    let number = get_or c.args.numbers.now c.loop-number.number-index (pos 0) in
    let fits : FitsSigned w64 number = search rules in
    one_more_written number_bytes c.args.numbers.now c.loop-number.number-index (pos 0) (to_z w64 (of_z w64 number)) c.loop-number.out c.put_number.new.out _
    c.loop-number-test.true (to_z-of_z w64 number fits) c.in_ok-put_number.ensures c.loop-number.invariant

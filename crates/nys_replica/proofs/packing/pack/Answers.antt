-- one number more is packed, until all are
use Rattle.std.proofs.Common.{rules, ◌≤◌, length, get_or, w64, pos, to_z, of_z, subst, arith}
use Rattle.std.specs.Prelude.{FitsSigned}
use Rattle.std.proofs.lemmas.Int.{to_z-of_z}
use Rattle.std.proofs.lemmas.List.{take_all}
use Rattle.nys_replica.specs.Packing.{IsPacked}
use Rattle.nys_replica.proofs.PackLemmas.{none_packed, one_more_packed}
use Rattle.nys_replica.proofs.packing.pack.Goals as goal

pub loop-number-init : goal.loop-number-init
loop-number-init c = none_packed c.new-out.result c.args.numbers.now c.new-out.ensures

pub loop-number-preserved : goal.loop-number-preserved
loop-number-preserved c =
    let number = get_or c.args.numbers.now c.loop-number.number-index (pos 0) in
    let fits : FitsSigned w64 number = search rules in
    one_more_packed c.args.numbers.now c.loop-number.number-index (pos 0) (to_z w64 (of_z w64 number)) c.loop-number.out c.put_number.new.out
    c.loop-number-test.true (to_z-of_z w64 number fits) fits c.in_ok-put_number.ensures c.loop-number.invariant

pub returns : goal.returns
returns c =
    let past : length c.args.numbers.now ≤ c.loop-number.number-index = omega (arith, c.loop-number-test.false) in
    rw c.into_bytes.ensures (subst (IsPacked c.loop-number.out) (take_all c.loop-number.number-index c.args.numbers.now past) c.loop-number.invariant)

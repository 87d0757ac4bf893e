-- the entries of one host are counted, and the others are left
use Rattle.std.proofs.Common.{◌≡◌, ◌-◌, ap, arith}
use Rattle.std.specs.List.{range_with_len}
use Rattle.nys_rules.specs.View.{length_of}
use Rattle.nys_workload_command.specs.Logged.{entries_in}
use Rattle.nys_workload_command.proofs.SumLemmas.{picked_on}
use Rattle.nys_workload_command.proofs.logged.entries.Goals as goal

pub loop-h-preserved : goal.loop-h-preserved
loop-h-preserved g c =
    let bound = c.entries_of-sum.ensures.bound in
    let few = c.loop-h.invariant.bound in
    record {
      sum = λ scope v means.
          let one = c.entries_of-sum.ensures.sum scope v means in
          let all = c.loop-h.invariant.sum scope v means in
          let on = picked_on (length_of v) v.known c.loop-h.h c.args.hosts c.loop-h.sum c.loop-h-test.true in
          omega (arith, one, all, on);
      bound = omega (arith, bound, few);
    }

pub returns-clause-sum : goal.returns-clause-sum
returns-clause-sum g c = λ scope v means.
    let all = c.loop-h.invariant.sum scope v means in
    let end = c.loop-h-test.false in
    let none : c.args.hosts - c.loop-h.h ≡ 0 = omega (arith, end) in
    let empty : entries_in v (range_with_len c.loop-h.h (c.args.hosts - c.loop-h.h)) ≡ 0 =
    ap (λ n. entries_in v (range_with_len c.loop-h.h n)) none in
    omega (arith, all, empty)

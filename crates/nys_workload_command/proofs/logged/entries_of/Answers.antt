-- a replica has the entries of its log, and a host without one isn't known
use Rattle.std.proofs.Common.{None, Some, sym, ◌∙◌, arith}
use Rattle.nys_rules.specs.View.{length_of}
use Rattle.nys_workload_command.proofs.SumLemmas.{sum_one, sum_other}
use Rattle.nys_workload_command.proofs.logged.entries_of.Goals as goal

pub returns-in-Some-clause-sum : goal.returns-in-Some-clause-sum
returns-in-Some-clause-sum g c = λ scope v means.
    let at = means.replicas c.args.h (Some c.in-Some.replica.now) c.in-Some.ensures.some in
    c.len.ensures.count scope.rules c.args.h (v.logs c.args.h) at.0 ∙ sym (sum_one (length_of v) v.known c.args.h at.1)

pub returns-in-Some-clause-bound : goal.returns-in-Some-clause-bound
returns-in-Some-clause-bound g c =
    let meant = c.requires.meant in
    let at = meant.means.replicas c.args.h (Some c.in-Some.replica.now) c.in-Some.ensures.some in
    let is = c.len.ensures.count meant.scope.rules c.args.h (meant.view.logs c.args.h) at.0 in
    let short = at.0.short in
    omega (arith, is, short)

pub returns-in-None-clause-sum : goal.returns-in-None-clause-sum
returns-in-None-clause-sum g c = λ scope v means.
    let rows = means.rows in
    let none = c.in-None.ensures.none (omega (arith, rows, c.requires.host)) in
    sym (sum_other (length_of v) v.known c.args.h (means.replicas c.args.h None none).1)

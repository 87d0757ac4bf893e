-- Each epoch is tested behind those before it.
use Rattle.std.proofs.Common.{[], get_or, refl}
use Rattle.std.proofs.lemmas.Result.{err_from_is_err_and}
use Rattle.nys_guards.specs.declared.table.GuardGraph.{GuardGraph}
use Rattle.nys_hosts.specs.Sets.{has}
use Rattle.nys_guard_commands.specs.Liars.{Stands}
use Rattle.nys_guard_commands.proofs.LiarsLemmas.{all_more, all_taken, lied_at}
use Rattle.nys_guard_commands.proofs.liars.stand_liars.Goals as goal

-- what stands for a guard graph past the last
abbrev no_guards : GuardGraph
no_guards = record { t = []; credit = 0; guards = [] }

pub returns-in_err-stands_at-clause-refused : goal.returns-in_err-stands_at-clause-refused
returns-in_err-stands_at-clause-refused c =
    let same = err_from_is_err_and c.from_residual.result c.from_residual.ensures.1 in
    rw (same.1, same.2)
    (lied_at c.args.graph.now.hosts (has c.args.liars) c.args.graphs.now c.loop-e.e
    (get_or c.args.graphs.now c.loop-e.e no_guards) no_guards c.in_err-stands_at.field-0.0 c.loop-e-test.true refl
    c.loop-e.invariant c.in_err-stands_at.ensures.refused)

pub loop-e-preserved : goal.loop-e-preserved
loop-e-preserved c =
    all_more (Stands c.args.graph.now.hosts (has c.args.liars)) c.args.graphs.now c.loop-e.e no_guards c.loop-e-test.true
    c.loop-e.invariant c.in_ok-stands_at.ensures.stand

pub returns-clause-stand : goal.returns-clause-stand
returns-clause-stand c =
    all_taken (Stands c.args.graph.now.hosts (has c.args.liars)) c.args.graphs.now c.loop-e.e c.loop-e-test.false
    c.loop-e.invariant

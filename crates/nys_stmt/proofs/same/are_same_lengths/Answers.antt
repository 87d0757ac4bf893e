-- The rests go on being equal exactly where all is, as long as their firsts are the same.
use Rattle.std.proofs.Common.{rules, ◌≡◌}
use Rattle.nys_stmt.proofs.Rests.{rest_same}
use Rattle.nys_stmt.proofs.same.are_same_lengths.Goals as goal

pub loop-i-preserved : goal.loop-i-preserved
loop-i-preserved c =
    let same : c.get.result.now ≡ c.get-in-loop-i.result.now = search rules in
    let rest = rest_same c.args.a.now c.args.b.now c.loop-i.i _ _ c.get.ensures.member c.get-in-loop-i.ensures.member same in
    let all = c.loop-i.invariant.0 in
    (((λ e. all.0 (rest.0 e)), (λ e. rest.1 (all.1 e))), c.loop-i.invariant.1)

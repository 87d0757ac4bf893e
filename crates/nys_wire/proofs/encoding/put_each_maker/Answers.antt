use Rattle.std.proofs.Common.{◌≡◌, ◌≤◌, ◌<◌, length, get_or, All, sym, subst, arith}
use Rattle.std.proofs.lemmas.List.{take_all}
use Rattle.std.proofs.lemmas.List.Elements.{All-more}
use Rattle.std.proofs.lemmas.Option.{get_or_from_slice_get, slice_get_within}
use Rattle.nys_stmt.specs.Records.{IsMaker, maker_bytes}
use Rattle.nys_stmt.proofs.Written.{one_more_written}
use Rattle.nys_wire.proofs.encoding.put_each_maker.Goals as goal

pub loop-i-preserved : goal.loop-i-preserved
loop-i-preserved c =
    let makers = c.args.makers.now in
    let member = c.get.result.now in
    let lt : c.loop-i.i < length makers = slice_get_within makers c.loop-i.i member c.get.ensures.member in
    let is : get_or makers c.loop-i.i member ≡ member = get_or_from_slice_get makers c.loop-i.i member member c.get.ensures.member in (
      one_more_written maker_bytes makers c.loop-i.i member member c.loop-i.out c.put_maker.new.out _ lt (sym is) c.in_ok-put_maker.ensures.ok c.loop-i.invariant.0,
      All-more IsMaker makers c.loop-i.i member lt c.loop-i.invariant.1 (subst IsMaker (sym is) c.in_ok-put_maker.ensures.maker),
    )

-- all of them were written
pub returns-clause-each : goal.returns-clause-each
returns-clause-each c =
    let makers = c.args.makers.now in
    let past : length makers ≤ c.loop-i.i = omega (arith, c.loop-i-test.false, c.len-i-end.ensures.size) in
    subst (λ ts. All IsMaker ts) (take_all c.loop-i.i makers past) c.loop-i.invariant.1

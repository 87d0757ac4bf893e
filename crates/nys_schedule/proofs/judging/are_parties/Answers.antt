use Rattle.std.proofs.Common.{◌≡◌, true, false, sym, ◌∙◌}
use Rattle.nys_schedule.specs.Judging.{is_party}
use Rattle.nys_schedule.proofs.TestLemmas.{fails_at, passes_at}
use Rattle.nys_schedule.proofs.judging.are_parties.Goals as goal

-- a number that is no party decides of all
pub returns-then-not-is_party : goal.returns-then-not-is_party
returns-then-not-is_party c =
    let fails : is_party c.args.hosts c.get.result ≡ false =
    sym c.is_party.ensures ∙ c.if-not-is_party.true in
    sym (fails_at (is_party c.args.hosts) c.args.to.now c.loop-i.i c.get.result c.get.ensures.member fails) ∙ c.loop-i.invariant

-- a party leaves it to those behind it
pub loop-i-preserved : goal.loop-i-preserved
loop-i-preserved c =
    let passes : is_party c.args.hosts c.get.result ≡ true =
    sym c.is_party.ensures ∙ c.if-not-is_party.false in
    sym (passes_at (is_party c.args.hosts) c.args.to.now c.loop-i.i c.get.result c.get.ensures.member passes) ∙ c.loop-i.invariant

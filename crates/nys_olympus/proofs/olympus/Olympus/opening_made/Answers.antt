use Rattle.std.proofs.Common.{◌∙◌}
use Rattle.nys_config.specs.Scopes.{scope_of}
use Rattle.nys_olympus.proofs.NextEpoch.{opening_is}
use Rattle.nys_olympus.proofs.olympus.Olympus.opening_made.Goals as goal

-- an Open, then all that is handed over
pub returns : goal.returns
returns g c = λ o view.
    opening_is (scope_of (g.P.Protocol.rules c.args.cx.now.protocol) c.args.cx.now) o c.args.epoch c.in_ok-lengths.lengths c.as_slice.result.now c.new-out.result c.proclaim.new.out c.hand_over_all.new.out
    (c.in_ok-lengths.ensures.value o view) (c.as_slice.ensures.value ∙ c.in_ok-list.ensures.value) c.new-out.ensures c.in_ok-proclaim.ensures (c.in_ok-hand_over_all.ensures o view)

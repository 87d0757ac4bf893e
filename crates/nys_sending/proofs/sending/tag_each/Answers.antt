use Rattle.std.proofs.Common.{subst, sym, ◌<◌}
use Rattle.std.specs.Prelude.{All, slice_index_or}
use Rattle.nys_sending.proofs.ReceiverLemmas.{tagged_below}
use Rattle.nys_sending.proofs.sending.tag_each.Goals as goal

-- the receivers rise
pub push-requires-clause-above : goal.push-requires-clause-above
push-requires-clause-above c =
    subst (λ tags. All (λ t. t.0 < slice_index_or c.args.receivers.now c.loop-receiver.receiver-index 0) tags) (sym c.loop-receiver.invariant)
    (tagged_below c.args.keys.now c.args.bytes.now c.args.maker c.args.receivers.now c.loop-receiver.receiver-index c.loop-receiver-test.true c.requires.rule.rising)

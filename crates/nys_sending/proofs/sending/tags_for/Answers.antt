use Rattle.std.proofs.Common.{rules, ◌≡◌, subst, sym}
use Rattle.nys_sending.specs.Receivers.{AreReceivers}
use Rattle.nys_sending.proofs.ReceiverLemmas.{others_rule}
use Rattle.nys_rules.specs.Sending.{others}
use Rattle.nys_sending.proofs.sending.tags_for.Goals as goal

-- the others of receivers are receivers
pub tag_each-requires-clause-rule : goal.tag_each-requires-clause-rule
tag_each-requires-clause-rule g c =
    let same : c.as_slice-2.result.now ≡ others c.args.maker c.args.receivers.now = search rules in
    subst AreReceivers (sym same) (others_rule c.args.maker c.args.receivers.now c.requires.rule)

use Rattle.nys_config.specs.Scopes.{scope_of}
use Rattle.nys_sending.proofs.OwnLemmas.{tags_some}
use Rattle.nys_sending.proofs.outbox.Outbox.make.Goals as goal

-- where there are other receivers there are tags
pub make_with-requires-clause-some : goal.make_with-requires-clause-some
make_with-requires-clause-some g c = λ sent.
    tags_some (scope_of (g.P.Protocol.rules c.args.cx.now.protocol) c.args.cx.now) c.args.maker c.args.statement c.args.receivers.now _ c.in_ok-tags.ensures (c.requires.some sent)

use Rattle.std.proofs.Common.{◌++◌, [], ◌∷◌, ◌∙◌, ap, sym}
use Rattle.std.specs.Prelude.{filter}
use Rattle.nys_hosts.specs.Sets.{has}
use Rattle.nys_sending.proofs.ReceiverLemmas.{filter_more}
use Rattle.nys_sending.proofs.sending.members.Goals as goal

-- one host more was looked at
pub loop-h-preserved : goal.loop-h-preserved
loop-h-preserved c = c.in_ok-keep_member.ensures
    ∙ ap (λ hosts. hosts ++ filter (has c.args.set.now) (c.loop-h.h ∷ [])) c.loop-h.invariant
    ∙ sym (filter_more (has c.args.set.now) c.loop-h.h)

use Rattle.std.proofs.Common.{◌++◌, [], ◌∷◌, ◌∙◌, ap, sym, subst, arith}
use Rattle.nys_sending.specs.Receivers.{AreReceivers}
use Rattle.nys_olympus.proofs.Listing.{range_next, range_rule}
use Rattle.nys_olympus.proofs.opening.host_list.Goals as goal

-- one host more
pub loop-h-preserved : goal.loop-h-preserved
loop-h-preserved g c = c.in_ok-push.ensures.items ∙ ap (λ l. l ++ c.loop-h.h ∷ []) c.loop-h.invariant ∙ sym (range_next c.loop-h.h)

-- hosts are receivers
pub returns-clause-rule : goal.returns-clause-rule
returns-clause-rule g c = subst AreReceivers (sym c.loop-h.invariant) (range_rule c.loop-h.h (omega (arith, c.loop-h.auto.h-end, c.hosts-h-end.ensures.few)))

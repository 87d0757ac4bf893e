use Rattle.std.proofs.Common.{◌∙◌, ap, sym}
use Rattle.nys_votes.specs.Ordered.{makers_of}
use Rattle.nys_desk.specs.Seated.{orders_of}
use Rattle.nys_desk.proofs.desk.Desk.orderers.Goals as goal

-- empty seats have no maker
pub returns-in-None : goal.returns-in-None
unfolding makers_of
returns-in-None c = c.new.ensures ∙ ap (λ own. makers_of (orders_of own)) (sym c.in-None.is) ∙ ap (λ d. makers_of d.orders) c.self.view_is

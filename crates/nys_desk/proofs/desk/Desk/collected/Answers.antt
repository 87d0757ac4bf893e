use Rattle.std.proofs.Common.{◌∙◌, ap, sym}
use Rattle.nys_votes.specs.Seats.{count_all, count_seats}
use Rattle.nys_desk.specs.Seated.{orders_of}
use Rattle.nys_desk.proofs.desk.Desk.collected.Goals as goal

-- of empty seats none is taken
pub returns-in-None-clause-count : goal.returns-in-None-clause-count
unfolding count_seats
returns-in-None-clause-count c = ap (λ own. count_all (orders_of own)) (sym c.in-None.is) ∙ ap (λ d. count_all d.orders) c.self.view_is

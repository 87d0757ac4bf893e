-- The window of the link is another, and no other changes.
use Rattle.std.proofs.Common.{◌<◌, length, arith}
use Rattle.nys_attest.proofs.TableLemmas.{next_changed, seats_restarted}
use Rattle.nys_attest.proofs.table.AttestTable.restart.Goals as goal

pub returns-clause-next : goal.returns-clause-next
returns-clause-next c q =
    let inside : c.args.p < length c.self.inside.links.items = omega (arith, c.requires.link, c.self.invariant) in
    rw (← c.self.view_is)
    (next_changed c.self.inside.links.items c.args.p c.restart.new.self c.args.next inside c.restart.ensures.next q)

pub returns-clause-seats : goal.returns-clause-seats
returns-clause-seats c q l =
    let inside : c.args.p < length c.self.inside.links.items = omega (arith, c.requires.link, c.self.invariant) in
    rw (← c.self.view_is)
    (seats_restarted c.self.inside.links.items c.args.p c.restart.new.self inside c.restart.ensures.seats q l)

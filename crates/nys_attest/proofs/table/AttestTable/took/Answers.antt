-- The window of the link moves, and no other.
use Rattle.std.proofs.Common.{◌≡◌, ◌<◌, length, ℕ, ◌+◌, subst, ap, sym, ◌∙◌, arith}
use Rattle.nys_source.specs.Tables.{put}
use Rattle.nys_votes.specs.Seats.{no_seats}
use Rattle.nys_attest.specs.Windows.{next_of, seats_at, seats_of}
use Rattle.nys_attest.proofs.TableLemmas.{held, next_changed, seats_changed}
use Rattle.nys_attest.proofs.table.AttestTable.took.Goals as goal

pub took-requires : goal.took-requires
unfolding next_of
took-requires c =
    let inside : c.args.p < length c.self.inside.links.items = omega (arith, c.requires.link, c.self.invariant) in
    let is = held c.self.inside.links.items c.args.p c.index_mut.result.now c.index_mut.ensures.value inside in
    record { next = omega (arith, c.requires.next, ap (λ t. next_of t c.args.p) (sym c.self.view_is) ∙ ap (λ w. w.next) (sym is)) }

pub returns-clause-next : goal.returns-clause-next
unfolding next_of
returns-clause-next c q =
    let inside : c.args.p < length c.self.inside.links.items = omega (arith, c.requires.link, c.self.invariant) in
    let is = held c.self.inside.links.items c.args.p c.index_mut.result.now c.index_mut.ensures.value inside in
    rw (← c.self.view_is)
    (next_changed c.self.inside.links.items c.args.p c.took.new.self (next_of c.self.inside.links.items c.args.p + 1)
    inside (c.took.ensures.next ∙ ap (λ w. w.next + 1) is) q)

pub returns-clause-seats : goal.returns-clause-seats
unfolding next_of seats_at
returns-clause-seats c q l =
    let inside : c.args.p < length c.self.inside.links.items = omega (arith, c.requires.link, c.self.invariant) in
    let is = held c.self.inside.links.items c.args.p c.index_mut.result.now c.index_mut.ensures.value inside in
    rw (← c.self.view_is)
    (seats_changed c.self.inside.links.items c.args.p c.took.new.self (next_of c.self.inside.links.items c.args.p) no_seats
    inside
    (subst (λ w. (i : ℕ) → seats_of c.took.new.self i ≡ put (seats_of w) w.next no_seats i) is c.took.ensures.seats) q l)

-- The window of the link changes, and no other.
use Rattle.std.proofs.Common.{◌≡◌, ◌<◌, length, ℕ, subst, ap, ◌∙◌, arith}
use Rattle.std.specs.Prelude.{IfOk}
use Rattle.nys_source.specs.Tables.{put}
use Rattle.nys_votes.specs.Seats.{with_seat}
use Rattle.nys_attest.specs.Windows.{next_of, recorded, seats_at, seats_of}
use Rattle.nys_attest.proofs.TableLemmas.{held, next_kept, seats_changed, seats_kept}
use Rattle.nys_attest.proofs.table.AttestTable.note.Goals as goal

pub returns-clause-answer : goal.returns-clause-answer
unfolding next_of seats_at
returns-clause-answer c =
    let inside : c.args.p < length c.self.inside.links.items = omega (arith, c.requires.link, c.self.invariant) in
    let is = held c.self.inside.links.items c.args.p c.index_mut.result.now c.index_mut.ensures.value inside in
    rw (← c.self.view_is)
    (subst (λ w. IfOk c.note.result (λ answer. answer ≡ recorded w.next c.args.k (seats_of w c.args.k) c.args.maker c.args.payload.now))
    is c.note.ensures.answer)

pub returns-clause-next : goal.returns-clause-next
unfolding next_of
returns-clause-next c q =
    let inside : c.args.p < length c.self.inside.links.items = omega (arith, c.requires.link, c.self.invariant) in
    let is = held c.self.inside.links.items c.args.p c.index_mut.result.now c.index_mut.ensures.value inside in
    rw (← c.self.view_is)
    (next_kept c.self.inside.links.items c.args.p c.note.new.self inside
    (c.note.ensures.next ∙ ap (λ w. w.next) is) q)

pub returns-clause-kept : goal.returns-clause-kept
unfolding seats_at
returns-clause-kept c new q l =
    let inside : c.args.p < length c.self.inside.links.items = omega (arith, c.requires.link, c.self.invariant) in
    let is = held c.self.inside.links.items c.args.p c.index_mut.result.now c.index_mut.ensures.value inside in
    rw (← c.self.view_is)
    (seats_changed c.self.inside.links.items c.args.p c.note.new.self c.args.k
    (with_seat c.args.maker c.args.payload.now (seats_at c.self.inside.links.items c.args.p c.args.k))
    inside
    (subst (λ w. (i : ℕ) → seats_of c.note.new.self i
    ≡ put (seats_of w) c.args.k (with_seat c.args.maker c.args.payload.now (seats_of w c.args.k)) i) is (c.note.ensures.kept new)) q l)

pub returns-clause-same : goal.returns-clause-same
unfolding seats_at
returns-clause-same c other q l =
    let inside : c.args.p < length c.self.inside.links.items = omega (arith, c.requires.link, c.self.invariant) in
    let is = held c.self.inside.links.items c.args.p c.index_mut.result.now c.index_mut.ensures.value inside in
    rw (← c.self.view_is)
    (seats_kept c.self.inside.links.items c.args.p c.note.new.self inside
    (λ i. c.note.ensures.same other i ∙ ap (λ w. seats_of w i) is) q l)

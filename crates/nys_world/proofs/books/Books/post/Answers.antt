-- One packet after another.
use Rattle.std.proofs.Common.{◌≡◌, [], ◌∷◌, ap, sym, ◌∙◌, rules}
use Rattle.std.proofs.lemmas.List.{nil_from_length}
use Rattle.std.proofs.lemmas.Result.{err_from_is_err_and}
use Rattle.std.specs.Vec.Iter.{into_iter_items}
use Rattle.nys_rules.specs.World.{with_packets, World}
use Rattle.nys_world.specs.Shows.{Keeps}
use Rattle.nys_world.proofs.BooksHappen.{ended_so}
use Rattle.nys_world.proofs.BooksPool.{goes_on, stops_at}
use Rattle.nys_world.proofs.books.Books.post.Goals as goal

-- all packets are left
pub loop-packet-init : goal.loop-packet-init
loop-packet-init c =
    let same : into_iter_items c.into_iter-packet-iterator.result ≡ c.args.packets.items = search rules in
    λ w k. (w, k, ap (λ ps. with_packets ps w) same)

-- the books keep a world still
pub post_one-requires : goal.post_one-requires
post_one-requires c = let x = c.loop-packet.invariant c.requires.0 c.requires.1 in (x.0, x.1)

-- one packet more has joined
pub loop-packet-preserved : goal.loop-packet-preserved
loop-packet-preserved c = λ w k.
    let x = c.loop-packet.invariant w k in
    let y = c.in_ok-post_one.ensures x.0 x.1 in
    let rest = into_iter_items c.next.new.self in
    let first : into_iter_items c.loop-packet.packet-iterator ≡ c.in-Some.packet ∷ rest = c.in-Some.ensures.steps.0 in
    (y.0, y.2, goes_on c.in-Some.packet rest x.0 y.0 y.1 ∙ sym (ap (λ ps. with_packets ps x.0) first) ∙ x.2)

-- the packet has no room
pub returns-in_err-post_one : goal.returns-in_err-post_one
returns-in_err-post_one c = λ w k.
    let p = err_from_is_err_and c.from_residual.result c.from_residual.ensures.1 in
    let x = c.loop-packet.invariant w k in
    let rest = into_iter_items c.next.new.self in
    let first : into_iter_items c.loop-packet.packet-iterator ≡ c.in-Some.packet ∷ rest = c.in-Some.ensures.steps.0 in
    let Has : Unit {0} → World → Type 0 = λ _ next. Keeps c.post_one.new.self next in
    rw (p.1, p.2) (ended_so Has Has (λ r. r ≡ with_packets (c.in-Some.packet ∷ []) x.0) (λ r. r ≡ with_packets c.args.packets.items w)
    c.in_err-post_one.field-0.0
    (λ e. stops_at c.in-Some.packet rest x.0 c.in_err-post_one.field-0.0 e ∙ sym (ap (λ ps. with_packets ps x.0) first) ∙ x.2)
    (c.in_err-post_one.ensures x.0 x.1))

-- all packets have joined
pub returns : goal.returns
returns c = λ w k.
    let x = c.loop-packet.invariant w k in
    let none = nil_from_length (into_iter_items c.loop-packet.packet-iterator)
    (sym c.loop-packet.packet-iterator.rest.ok.0 ∙ c.in-None.ensures.steps.0) in
    (x.0, ap (λ ps. with_packets ps x.0) (sym none) ∙ x.2, x.1)

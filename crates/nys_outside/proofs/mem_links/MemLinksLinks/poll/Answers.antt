use Rattle.std.proofs.Common.{◌<◌, ◌≡◌, ◌∙◌, ap, get_or, length, refl, rules}
use Rattle.nys_outside.specs.Counts.{RoseOnce}
use Rattle.nys_outside.specs.Frames.{AreLinked}
use Rattle.nys_outside.specs.Ways.{no_way, place_of, GaveFront}
use Rattle.nys_outside.specs.declared.got.Got.TheVariants as got
use Rattle.nys_outside.proofs.WayLemmas.{linked_place, found_way}
use Rattle.nys_outside.proofs.NetworkLemmas.{kept, moved, open_still, polled}
use Rattle.nys_outside.proofs.mem_links.MemLinksLinks.poll.Goals as goal

-- the direction of two connected hosts has its place
pub index_mut-way-requires : goal.index_mut-way-requires
index_mut-way-requires c =
    let linked : AreLinked c.self.inside.hosts c.args.from c.args.to = rw (← c.self.view_is) at c.requires.linked in
    let room : place_of c.args.from c.args.to < length c.self.inside.ways.items =
    linked_place c.self.inside.hosts c.args.from c.args.to (length c.self.inside.ways.items) linked c.self.invariant in
    rw c.place.ensures (search rules)

-- the poll is counted, and the oldest frame of its direction was given if one waited
pub returns-in-Ok-clause-frames : goal.returns-in-Ok-clause-frames
returns-in-Ok-clause-frames c =
    let linked : AreLinked c.self.inside.hosts c.args.from c.args.to = rw (← c.self.view_is) at c.requires.linked in
    let room : place_of c.args.from c.args.to < length c.self.inside.ways.items =
    linked_place c.self.inside.hosts c.args.from c.args.to (length c.self.inside.ways.items) linked c.self.invariant in
    let found : c.index_mut-way.result.now ≡ get_or c.self.inside.ways.items (place_of c.args.from c.args.to) no_way =
    found_way c.self.inside.ways.items c.place.result (place_of c.args.from c.args.to) c.index_mut-way.result.now c.index_mut-way.ensures.value c.place.ensures room in
    let front : GaveFront c.args.from c.args.to c.give.result c.give.new.buf.items
    (get_or c.self.inside.ways.items (place_of c.args.from c.args.to) no_way).waiting c.give.new.self.waiting
    c.self.inside.given.items c.give.new.given.items =
    rw (c.count.ensures.waiting, found) at c.give.ensures.front in
    let rose : RoseOnce (get_or c.self.inside.ways.items (place_of c.args.from c.args.to) no_way).polls c.give.new.self.polls =
    rw (c.give.ensures.polls, ← found) c.count.ensures.counted in
    rw (← c.self.view_is, c.place.ensures)
    (polled c.give.result c.self.inside.hosts c.self.inside.ways.items c.self.inside.given.items c.give.new.given.items c.self.inside.calls c.begin-begun.new.self
    c.args.from c.args.to c.give.new.buf.items c.give.new.self room rose
    (open_still c.give.result c.args.from c.args.to c.give.new.buf.items _ _ _ _ front)
    (moved c.give.result c.self.inside.hosts c.self.inside.ways.items c.self.inside.given.items c.give.new.given.items c.self.inside.calls c.begin-begun.new.self
    c.args.from c.args.to c.give.new.buf.items c.give.new.self room front))

-- a poll that fails is counted, and changes nothing else
pub returns-in-Err-clause-frames : goal.returns-in-Err-clause-frames
returns-in-Err-clause-frames c =
    let linked : AreLinked c.self.inside.hosts c.args.from c.args.to = rw (← c.self.view_is) at c.requires.linked in
    let room : place_of c.args.from c.args.to < length c.self.inside.ways.items =
    linked_place c.self.inside.hosts c.args.from c.args.to (length c.self.inside.ways.items) linked c.self.invariant in
    let found : c.index_mut-way.result.now ≡ get_or c.self.inside.ways.items (place_of c.args.from c.args.to) no_way =
    found_way c.self.inside.ways.items c.place.result (place_of c.args.from c.args.to) c.index_mut-way.result.now c.index_mut-way.ensures.value c.place.ensures room in
    let rose : RoseOnce (get_or c.self.inside.ways.items (place_of c.args.from c.args.to) no_way).polls c.count.new.self.polls =
    rw (← found) c.count.ensures.counted in
    rw (← c.self.view_is, c.place.ensures)
    (polled got.Failed c.self.inside.hosts c.self.inside.ways.items c.self.inside.given.items c.self.inside.given.items c.self.inside.calls c.begin-begun.new.self
    c.args.from c.args.to c.args.buf.now.items c.count.new.self room rose refl
    (kept c.self.inside.hosts c.self.inside.ways.items c.self.inside.given.items c.self.inside.given.items c.self.inside.calls c.begin-begun.new.self
    c.args.from c.args.to c.count.new.self (c.count.ensures.waiting ∙ ap (λ way. way.waiting) found) refl))

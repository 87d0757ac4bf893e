use Rattle.std.proofs.Common.{◌<◌, ◌≡◌, ◌∙◌, ◌++◌, ◌∷◌, [], ap, get_or, length, rules}
use Rattle.nys_outside.specs.Frames.{AreLinked}
use Rattle.nys_outside.specs.Ways.{no_way, place_of}
use Rattle.nys_outside.proofs.WayLemmas.{linked_place, found_way}
use Rattle.nys_outside.proofs.NetworkLemmas.{sent}
use Rattle.nys_outside.proofs.mem_links.MemLinksLinks.send.Goals as goal

-- the direction of two connected hosts has its place
pub index_mut-requires : goal.index_mut-requires
index_mut-requires c =
    let linked : AreLinked c.self.inside.hosts c.args.from c.args.to = rw (← c.self.view_is) at c.requires.linked in
    let room : place_of c.args.from c.args.to < length c.self.inside.ways.items =
    linked_place c.self.inside.hosts c.args.from c.args.to (length c.self.inside.ways.items) linked c.self.invariant in
    rw c.place.ensures (search rules)

-- the frame waits behind the others of its direction, and nothing else changed
pub returns-clause-frames : goal.returns-clause-frames
returns-clause-frames c =
    let linked : AreLinked c.self.inside.hosts c.args.from c.args.to = rw (← c.self.view_is) at c.requires.linked in
    let room : place_of c.args.from c.args.to < length c.self.inside.ways.items =
    linked_place c.self.inside.hosts c.args.from c.args.to (length c.self.inside.ways.items) linked c.self.invariant in
    let found : c.index_mut.result.now ≡ get_or c.self.inside.ways.items (place_of c.args.from c.args.to) no_way =
    found_way c.self.inside.ways.items c.place.result (place_of c.args.from c.args.to) c.index_mut.result.now c.index_mut.ensures.value c.place.ensures room in
    rw (← c.self.view_is, c.place.ensures)
    (sent _ c.self.inside.hosts c.self.inside.ways.items c.self.inside.given.items c.self.inside.calls c.begin.new.self
    c.args.from c.args.to c.args.frame.now c.put.new.self room
    (c.in_ok-put.ensures.ok ∙ ap (λ way. way.waiting ++ c.in_ok-copy.copy ∷ []) found
    ∙ ap (λ frame. (get_or c.self.inside.ways.items (place_of c.args.from c.args.to) no_way).waiting ++ frame ∷ []) c.in_ok-copy.ensures)
    (c.in_ok-put.ensures.polls ∙ ap (λ way. way.polls) found))

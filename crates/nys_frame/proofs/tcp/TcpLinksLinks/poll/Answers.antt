use Rattle.std.proofs.Common.{◌<◌, length, rules}
use Rattle.nys_outside.specs.Frames.{AreLinked}
use Rattle.nys_frame.specs.Pairs.{place_of}
use Rattle.nys_frame.proofs.PairLemmas.{linked_pair}
use Rattle.nys_frame.proofs.tcp.TcpLinksLinks.poll.Goals as goal

-- the pair of two connected hosts has its place
pub index_mut-requires : goal.index_mut-requires
index_mut-requires g c =
    let linked : AreLinked c.self.inside.hosts c.args.from c.args.to = rw (← c.self.view_is) at c.requires.linked in
    let room : place_of c.args.from c.args.to < length c.self.inside.pairs.items =
    linked_pair c.self.inside.hosts c.args.from c.args.to (length c.self.inside.pairs.items) linked c.self.invariant in
    rw c.place.ensures (search rules)

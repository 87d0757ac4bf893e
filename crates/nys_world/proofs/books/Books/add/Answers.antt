-- The packet, its head, and that it was never given.
use Rattle.std.proofs.Common.{[], ◌∷◌, ◌++◌, ◌∙◌, ap, refl}
use Rattle.nys_rules.specs.Packets.{Sent}
use Rattle.nys_wire.specs.Heads.{head_in}
use Rattle.nys_world.proofs.BooksKeep.{keeps_packet}
use Rattle.nys_world.proofs.books.Books.add.Goals as goal

pub returns : goal.returns
returns c = λ w k.
    let old = c.args.self.now in
    keeps_packet old _ w c.args.packet c.args.size k c.requires.size c.requires.few c.requires.light c.in_ok-push.ensures.items
    c.in_ok-push-3.ensures.items
    (c.in_ok-push-2.ensures.items ∙ ap (λ head. old.heads.items ++ head ∷ []) (c.head_in-head.ensures ∙ ap head_in c.as_slice.ensures.value ∙ ap (λ (q : Sent). head_in q.frame) c.packet.view_is))
    refl refl refl refl refl refl refl

-- What the Olympus made joins the ledger, then its packets the pool.
use Rattle.std.proofs.Common.{◌≡◌, ◌∙◌, ap}
use Rattle.nys_rules.specs.Forged.{with_made}
use Rattle.nys_rules.specs.Packets.{Done}
use Rattle.nys_rules.specs.Scope.{olympus}
use Rattle.nys_rules.specs.World.{after_olympus, with_packets}
use Rattle.nys_world.specs.Shows.{Keeps}
use Rattle.nys_world.proofs.BooksHappen.{happened_so}
use Rattle.nys_world.proofs.BooksKeep.{keeps_beside}
use Rattle.nys_world.proofs.BooksTake.{acted_olympus}
use Rattle.nys_world.proofs.books.Books.olympus_acted.Goals as goal

pub returns : goal.returns
returns c = λ w o k.
    let made : c.as_slice.result.now ≡ c.args.handled.acts.made
    = c.as_slice.ensures.value ∙ ap (λ (d : Done). d.acts.made) c.handled.view_is in
    let packets : c.handled.inside.packets.items ≡ c.args.handled.acts.packets = ap (λ (d : Done). d.acts.packets) c.handled.view_is in
    let before = record w { olympus = o } in
    let later = record before { ledger = with_made olympus c.as_slice.result.now w.ledger } in
    happened_so (λ _ next. Keeps c.post.new.self next) (λ r. r ≡ with_packets c.handled.inside.packets.items later)
    (λ r. r ≡ after_olympus o c.args.handled w) c.post.result
    (λ r e. e ∙ acted_olympus o c.args.handled w c.as_slice.result.now c.handled.inside.packets.items made packets)
    (c.post.ensures later (c.in_ok-made.ensures before (keeps_beside c.args.self.now w w.nodes o k)))

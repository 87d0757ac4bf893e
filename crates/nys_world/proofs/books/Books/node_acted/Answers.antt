-- What the node made joins the ledger, then what it logged the run, then its packets the pool.
use Rattle.std.proofs.Common.{◌≡◌, ◌∙◌, ap, sym}
use Rattle.nys_source.specs.Tables.{put}
use Rattle.nys_rules.specs.Forged.{with_made}
use Rattle.nys_rules.specs.Packets.{Done}
use Rattle.nys_rules.specs.World.{after_node, with_grown, with_packets}
use Rattle.nys_world.specs.Shows.{Keeps}
use Rattle.nys_world.proofs.AtHand.{told_at_hand}
use Rattle.nys_world.proofs.BooksHappen.{happened_so}
use Rattle.nys_world.proofs.BooksKeep.{keeps_beside}
use Rattle.nys_world.proofs.BooksTake.{acted_node}
use Rattle.nys_world.proofs.books.Books.node_acted.Goals as goal

-- the node has a view
pub grew-requires-clause-view : goal.grew-requires-clause-view
grew-requires-clause-view g c = let view = c.requires.view in (view.0, (view.1, view.2))

-- the books keep a world still
pub post-requires : goal.post-requires
post-requires g c =
    let scope = c.requires.view.0 in
    let v = c.requires.view.1 in
    let w = c.requires.kept.0 in
    let later = record w { ledger = with_made c.args.g c.as_slice.result.now w.ledger } in (
      with_grown v c.as_slice-2.result.now later,
      c.in_ok-grew.ensures scope v c.requires.view.2
          (told_at_hand v c.args.handled c.handled.inside.statement c.as_slice-2.result.now (sym (ap (λ (d : Done). d.statement) c.handled.view_is))
          (sym (c.as_slice-2.ensures.value ∙ ap (λ (d : Done). d.acts.grew) c.handled.view_is)) c.requires.view.3)
          later (c.in_ok-made.ensures w c.requires.kept.1),
    )

-- the world is the one that the node leaves
pub returns : goal.returns
returns g c = λ scope w v k is hand.
    let made : c.as_slice.result.now ≡ c.args.handled.acts.made
    = c.as_slice.ensures.value ∙ ap (λ (d : Done). d.acts.made) c.handled.view_is in
    let grew : c.as_slice-2.result.now ≡ c.args.handled.acts.grew
    = c.as_slice-2.ensures.value ∙ ap (λ (d : Done). d.acts.grew) c.handled.view_is in
    let packets : c.handled.inside.packets.items ≡ c.args.handled.acts.packets = ap (λ (d : Done). d.acts.packets) c.handled.view_is in
    let before = record w { nodes = put w.nodes c.args.g v } in
    let later = record before { ledger = with_made c.args.g c.as_slice.result.now w.ledger } in
    happened_so (λ _ next. Keeps c.post.new.self next) (λ r. r ≡ with_packets c.handled.inside.packets.items (with_grown v c.as_slice-2.result.now later))
    (λ r. r ≡ after_node c.args.g v c.args.handled w) c.post.result
    (λ r e. e ∙ acted_node c.args.g v c.args.handled w c.as_slice.result.now c.as_slice-2.result.now c.handled.inside.packets.items made grew packets)
    (c.post.ensures (with_grown v c.as_slice-2.result.now later)
    (c.in_ok-grew.ensures scope v is
    (told_at_hand v c.args.handled c.handled.inside.statement c.as_slice-2.result.now (sym (ap (λ (d : Done). d.statement) c.handled.view_is)) (sym grew) hand)
    later
    (c.in_ok-made.ensures before (keeps_beside c.args.self.now w (put w.nodes c.args.g v) w.olympus k))))

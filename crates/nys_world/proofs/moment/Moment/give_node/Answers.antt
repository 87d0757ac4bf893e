-- The node in its place takes the bytes, and what it did joins the books.
use Rattle.std.proofs.Common.{Some, arith, ap, refl, subst, sym, ◌∙◌}
use Rattle.std.proofs.lemmas.Option.{slice_get_read}
use Rattle.std.proofs.lemmas.Result.{err_from_is_err_and}
use Rattle.nys_rules.specs.Forged.{makers_told}
use Rattle.nys_rules.specs.Handling.{Handles}
use Rattle.nys_rules.specs.Happening.{NodeTakes, UnlessForged, with_take}
use Rattle.nys_rules.specs.Packets.{Done}
use Rattle.nys_rules.specs.World.{after_node, World}
use Rattle.nys_world.specs.Given.{bytes_given}
use Rattle.nys_world.specs.Shows.{Keeps, setting_of, ShowsOn}
use Rattle.nys_world.proofs.BooksKeep.{keeps_taken}
use Rattle.nys_world.proofs.BooksTake.{unless_taken}
use Rattle.nys_node.proofs.Knows.{kept_within}
use Rattle.nys_world.proofs.AtHand.{handles_at_hand}
use Rattle.nys_world.proofs.GoingLemmas.{happened_on}
use Rattle.nys_world.proofs.GrownHosts.{handles_hosts}
use Rattle.nys_world.proofs.PlaceLemmas.{node_there, place_empty, shows_put, took_frame}
use Rattle.nys_world.proofs.TakingLemmas.{takes_told}
use Rattle.nys_world.proofs.moment.Moment.give_node.Goals as goal

-- each host has a place
pub index_mut-requires : goal.index_mut-requires
index_mut-requires g c = omega (arith, c.requires.shown.1.nodes.size, c.requires.host)

-- its node means a view
pub handle-requires-clause-means : goal.handle-requires-clause-means
handle-requires-clause-means g c =
    let rules = g.P.Protocol.rules c.args.stage.now.cx.protocol in
    let stage = c.args.stage.now in
    let setting = setting_of rules stage in
    let h = c.args.g in
    let before = c.args.self.now in
    let node = c.in-Some.node in
    let at = slice_get_read before.nodes.items 32 h c.index_mut.result.now (sym c.requires.shown.1.nodes.size) c.requires.host c.index_mut.ensures.value
    ∙ ap Some c.in-Some.is in
    let shown = c.requires.shown in
    (shown.0.nodes h, node_there setting before.nodes.items shown.0 h node shown.1.nodes at)

-- there was no memory to take it
pub returns-in_err-handled-in-Some : goal.returns-in_err-handled-in-Some
returns-in_err-handled-in-Some g c = λ w s.
    let p = err_from_is_err_and c.from_residual.result c.from_residual.ensures.1 in rw (p.1, p.2) tt

-- or to tell of it
pub returns-in_err-keep_take-in-Some : goal.returns-in_err-keep_take-in-Some
returns-in_err-keep_take-in-Some g c = λ w s.
    let p = err_from_is_err_and c.from_residual-in_err-keep_take-in-Some.result c.from_residual-in_err-keep_take-in-Some.ensures.1 in rw (p.1, p.2) tt

-- the books are those of a world
pub node_took-requires-clause-kept : goal.node_took-requires-clause-kept
node_took-requires-clause-kept g c = let shown = c.requires.shown in (shown.0, shown.1.books)

-- the node has a view then, and what it logged is at hand
pub node_took-requires-clause-view : goal.node_took-requires-clause-view
node_took-requires-clause-view g c =
    let rules = g.P.Protocol.rules c.args.stage.now.cx.protocol in
    let stage = c.args.stage.now in
    let setting = setting_of rules stage in
    let h = c.args.g in
    let before = c.args.self.now in
    let node = c.in-Some.node in
    let at = slice_get_read before.nodes.items 32 h c.index_mut.result.now (sym c.requires.shown.1.nodes.size) c.requires.host c.index_mut.ensures.value
    ∙ ap Some c.in-Some.is in
    let shown = c.requires.shown in
    let is = node_there setting before.nodes.items shown.0 h node shown.1.nodes at in
    let t = c.in_ok-handled-in-Some.ensures.handles (shown.0.nodes h) is in
    (t.0, t.1, handles_at_hand setting.scope (shown.0.nodes h) t.0 c.bytes_given.result.now c.in_ok-handled-in-Some.handled (kept_within setting.scope node (shown.0.nodes h) is.means) t.2)

-- what it logged is in logs of hosts
pub node_took-requires-clause-hosts : goal.node_took-requires-clause-hosts
node_took-requires-clause-hosts g c =
    let rules = g.P.Protocol.rules c.args.stage.now.cx.protocol in
    let stage = c.args.stage.now in
    let setting = setting_of rules stage in
    let h = c.args.g in
    let before = c.args.self.now in
    let node = c.in-Some.node in
    let at = slice_get_read before.nodes.items 32 h c.index_mut.result.now (sym c.requires.shown.1.nodes.size) c.requires.host c.index_mut.ensures.value
    ∙ ap Some c.in-Some.is in
    let shown = c.requires.shown in
    let is = node_there setting before.nodes.items shown.0 h node shown.1.nodes at in
    let t = c.in_ok-handled-in-Some.ensures.handles (shown.0.nodes h) is in
    handles_hosts setting.scope (shown.0.nodes h) t.0 c.bytes_given.result.now c.in_ok-handled-in-Some.handled is.means.few t.2

-- the node took it
pub returns-in_ok-keep_take-in-Some : goal.returns-in_ok-keep_take-in-Some
returns-in_ok-keep_take-in-Some g c = λ w s.
    let rules = g.P.Protocol.rules c.args.stage.now.cx.protocol in
    let stage = c.args.stage.now in
    let setting = setting_of rules stage in
    let h = c.args.g in
    let before = c.args.self.now in
    let node = c.in-Some.node in
    let at = slice_get_read before.nodes.items 32 h c.index_mut.result.now (sym c.requires.shown.1.nodes.size) c.requires.host c.index_mut.ensures.value
    ∙ ap Some c.in-Some.is in
    let packet = c.args.packet in
    let done = c.in_ok-handled-in-Some.handled in
    let told = with_take h packet c.handled.inside.dropped w in
    let books = c.node_took.new.self in
    let t = c.in_ok-handled-in-Some.ensures.handles (w.nodes h) (node_there setting before.nodes.items w h node s.nodes at) in
    happened_on (λ (_ : Unit {0}) (next : World). Keeps books next) (λ (_ : Unit {0}) (next : World). ShowsOn rules stage _ next)
    (UnlessForged setting told h done.statement (makers_told done) (after_node h t.0 done told))
    (NodeTakes setting w h packet (bytes_given w packet)) c.node_took.result
    (λ r ends. record {
      after = t.0;
      done = done;
      handles = subst (λ frame. Handles setting.scope (w.nodes h) frame t.0 done) (c.bytes_given.ensures w s.books) t.2;
      ends = subst (λ (d : Done). UnlessForged setting w h done.statement (makers_told done) (after_node h t.0 done (with_take h packet d.dropped w)) r)
          c.handled.view_is (unless_taken setting w told.takes h done.statement (makers_told done) _ r ends);
    })
    (λ _ next ends keeps. shows_put setting stage.traced before _ h c.handle.new.self t.0 w told next c.requires.host c.requires.honest t.1 refl refl
    (took_frame setting h t.0 done told next done.statement (makers_told done) ends) refl refl keeps
    (takes_told stage.traced _ w before.books.events h packet c.handled.inside.dropped s.books.events (c.in_ok-keep_take-in-Some.ensures w.takes s.takes)) s)
    (c.node_took.ensures told t.0 (keeps_taken before.books w told.takes s.books) t.1
    (handles_at_hand setting.scope (w.nodes h) t.0 c.bytes_given.result.now done (kept_within setting.scope node (w.nodes h) (node_there setting before.nodes.items w h node s.nodes at).means) t.2))

-- its place isn't empty
pub returns-in-None : goal.returns-in-None
returns-in-None g c = λ w s.
    let rules = g.P.Protocol.rules c.args.stage.now.cx.protocol in
    let nodes = c.args.self.now.nodes.items in
    let at = slice_get_read nodes 32 c.args.g c.index_mut.result.now (sym s.nodes.size) c.requires.host c.index_mut.ensures.value ∙ ap Some c.in-None.is in
    absurd (place_empty (setting_of rules c.args.stage.now) nodes w c.args.g s.nodes c.requires.honest at)

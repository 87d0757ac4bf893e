-- The node in its place asks, and what it did joins the books.
use Rattle.std.proofs.Common.{◌≡◌, Some, arith, ap, refl, sym, ◌∙◌}
use Rattle.std.proofs.lemmas.Option.{slice_get_read}
use Rattle.std.proofs.lemmas.Result.{err_from_is_err_and}
use Rattle.nys_rules.specs.Happening.{NodeAsks}
use Rattle.nys_rules.specs.World.{after_node, World}
use Rattle.nys_world.specs.Shows.{Keeps, setting_of, ShowsOn}
use Rattle.nys_node.proofs.Knows.{kept_within}
use Rattle.nys_world.proofs.AtHand.{asks_at_hand}
use Rattle.nys_world.proofs.GoingLemmas.{happened_on}
use Rattle.nys_world.proofs.GrownHosts.{asks_hosts}
use Rattle.nys_world.proofs.PlaceLemmas.{acted_frame, node_there, place_empty, shows_put}
use Rattle.nys_world.proofs.moment.Moment.tell_to_ask.Goals as goal

-- each host has a place
pub index_mut-requires : goal.index_mut-requires
index_mut-requires g c = omega (arith, c.requires.shown.1.nodes.size, c.requires.host)

-- its node means a view
pub ask-requires-clause-means : goal.ask-requires-clause-means
ask-requires-clause-means g c =
    let rules = g.P.Protocol.rules c.args.stage.now.cx.protocol in
    let stage = c.args.stage.now in
    let setting = setting_of rules stage in
    let h = c.args.h in
    let before = c.args.self.now in
    let node = c.in-Some.node in
    let at = slice_get_read before.nodes.items 32 h c.index_mut.result.now (sym c.requires.shown.1.nodes.size) c.requires.host c.index_mut.ensures.value
    ∙ ap Some c.in-Some.is in
    let shown = c.requires.shown in
    (shown.0.nodes h, node_there setting before.nodes.items shown.0 h node shown.1.nodes at)

-- there was no memory to ask
pub returns-in_err-handled-in-Some : goal.returns-in_err-handled-in-Some
returns-in_err-handled-in-Some g c = λ w s.
    let p = err_from_is_err_and c.from_residual.result c.from_residual.ensures.1 in rw (p.1, p.2) tt

-- the node has a view then, and what it logged is at hand
pub node_acted-requires-clause-view : goal.node_acted-requires-clause-view
node_acted-requires-clause-view g c =
    let rules = g.P.Protocol.rules c.args.stage.now.cx.protocol in
    let stage = c.args.stage.now in
    let setting = setting_of rules stage in
    let h = c.args.h in
    let before = c.args.self.now in
    let node = c.in-Some.node in
    let at = slice_get_read before.nodes.items 32 h c.index_mut.result.now (sym c.requires.shown.1.nodes.size) c.requires.host c.index_mut.ensures.value
    ∙ ap Some c.in-Some.is in
    let shown = c.requires.shown in
    let is = node_there setting before.nodes.items shown.0 h node shown.1.nodes at in
    let t = c.in_ok-handled-in-Some.ensures.asks (shown.0.nodes h) is in
    (setting.scope, t.0, t.1, asks_at_hand setting.scope (shown.0.nodes h) t.0 c.in_ok-handled-in-Some.handled (kept_within setting.scope node (shown.0.nodes h) is.means) t.2)

-- what it logged is in logs of hosts
pub node_acted-requires-clause-hosts : goal.node_acted-requires-clause-hosts
node_acted-requires-clause-hosts g c =
    let rules = g.P.Protocol.rules c.args.stage.now.cx.protocol in
    let stage = c.args.stage.now in
    let setting = setting_of rules stage in
    let h = c.args.h in
    let before = c.args.self.now in
    let node = c.in-Some.node in
    let at = slice_get_read before.nodes.items 32 h c.index_mut.result.now (sym c.requires.shown.1.nodes.size) c.requires.host c.index_mut.ensures.value
    ∙ ap Some c.in-Some.is in
    let shown = c.requires.shown in
    let t = c.in_ok-handled-in-Some.ensures.asks (shown.0.nodes h) (node_there setting before.nodes.items shown.0 h node shown.1.nodes at) in
    asks_hosts setting.scope (shown.0.nodes h) t.0 c.in_ok-handled-in-Some.handled t.2

-- it asked
pub returns-in_ok-handled-in-Some : goal.returns-in_ok-handled-in-Some
returns-in_ok-handled-in-Some g c = λ w s.
    let rules = g.P.Protocol.rules c.args.stage.now.cx.protocol in
    let stage = c.args.stage.now in
    let setting = setting_of rules stage in
    let h = c.args.h in
    let before = c.args.self.now in
    let node = c.in-Some.node in
    let at = slice_get_read before.nodes.items 32 h c.index_mut.result.now (sym c.requires.shown.1.nodes.size) c.requires.host c.index_mut.ensures.value
    ∙ ap Some c.in-Some.is in
    let done = c.in_ok-handled-in-Some.handled in
    let books = c.node_acted.new.self in
    let t = c.in_ok-handled-in-Some.ensures.asks (w.nodes h) (node_there setting before.nodes.items w h node s.nodes at) in
    happened_on (λ (_ : Unit {0}) (next : World). Keeps books next) (λ (_ : Unit {0}) (next : World). ShowsOn rules stage _ next)
    (λ r. r ≡ after_node h t.0 done w) (NodeAsks setting w h) c.node_acted.result
    (λ r e. record { after = t.0; done = done; asks = t.2; result_is = e })
    (λ _ next e keeps. shows_put setting stage.traced before _ h c.ask.new.self t.0 w w next c.requires.host c.requires.honest t.1 refl refl
    (acted_frame h t.0 done w next e) refl refl keeps s.takes s)
    (c.node_acted.ensures setting.scope w t.0 s.books t.1
    (asks_at_hand setting.scope (w.nodes h) t.0 done (kept_within setting.scope node (w.nodes h) (node_there setting before.nodes.items w h node s.nodes at).means) t.2))

-- its place isn't empty
pub returns-in-None : goal.returns-in-None
returns-in-None g c = λ w s.
    let rules = g.P.Protocol.rules c.args.stage.now.cx.protocol in
    let nodes = c.args.self.now.nodes.items in
    let at = slice_get_read nodes 32 c.args.h c.index_mut.result.now (sym s.nodes.size) c.requires.host c.index_mut.ensures.value ∙ ap Some c.in-None.is in
    absurd (place_empty (setting_of rules c.args.stage.now) nodes w c.args.h s.nodes c.requires.honest at)

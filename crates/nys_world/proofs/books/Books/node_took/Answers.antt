-- The world goes on from what the node did, or ends where that was forged.
use Rattle.std.proofs.Common.{◌≡◌, ◌∙◌, sym, subst}
use Rattle.std.proofs.lemmas.Result.{err_from_is_err_and}
use Rattle.nys_rules.specs.Forged.{makers_told}
use Rattle.nys_rules.specs.Happening.{UnlessForged}
use Rattle.nys_rules.specs.Packets.{Acts}
use Rattle.nys_rules.specs.World.{after_node}
use Rattle.nys_world.specs.Grown.{AreOfHosts}
use Rattle.nys_world.specs.Shows.{Keeps, setting_of}
use Rattle.nys_world.proofs.AtHand.{same_at_hand}
use Rattle.nys_world.proofs.BooksHappen.{happened_so}
use Rattle.nys_world.proofs.BooksTake.{after_node_same, told_end, unless_true}
use Rattle.nys_world.proofs.books.Books.node_took.Goals as goal

-- the node has a view, and what it logged is at hand
pub node_acted-requires-clause-view : goal.node_acted-requires-clause-view
node_acted-requires-clause-view g c =
    let same = c.in_ok-done.ensures.same in
    let view = c.requires.view in (
      (setting_of (g.P.Protocol.rules c.args.stage.now.cx.protocol) c.args.stage.now).scope,
      view.0,
      view.1,
      same_at_hand view.0 c.args.handled c.in_ok-done.done same.0 same.1 view.2,
    )

-- what it logged is in logs of hosts
pub node_acted-requires-clause-hosts : goal.node_acted-requires-clause-hosts
node_acted-requires-clause-hosts g c =
    subst (λ (acts : Acts). AreOfHosts acts.grew) (sym c.in_ok-done.ensures.same.0) c.requires.hosts

-- it was forged
pub returns-in_err-done : goal.returns-in_err-done
returns-in_err-done g c = λ w v k is hand.
    let p = err_from_is_err_and c.from_residual.result c.from_residual.ensures.1 in
    let setting = setting_of (g.P.Protocol.rules c.args.stage.now.cx.protocol) c.args.stage.now in
    let given = c.args.handled in
    rw (p.1, p.2) (told_end {A = Unit {0}} (λ _ later. Keeps c.args.self.now later) setting w c.args.g
    given.statement (makers_told given) (after_node c.args.g v given w) c.in_err-done.field-0.0 (c.in_err-done.ensures.forged w k))

-- it wasn't
pub returns : goal.returns
returns g c = λ w v k is hand.
    let setting = setting_of (g.P.Protocol.rules c.args.stage.now.cx.protocol) c.args.stage.now in
    let given = c.args.handled in
    let next = after_node c.args.g v given w in
    happened_so (λ _ later. Keeps c.node_acted.new.self later) (λ r. r ≡ after_node c.args.g v c.in_ok-done.done w)
    (UnlessForged setting w c.args.g given.statement (makers_told given) next) c.node_acted.result
    (λ r e. unless_true setting w c.args.g given.statement (makers_told given) next r (c.in_ok-done.ensures.all_true w k)
    (e ∙ after_node_same c.args.g v c.in_ok-done.done given w c.in_ok-done.ensures.same.0))
    (c.node_acted.ensures setting.scope w v k is
    (same_at_hand v given c.in_ok-done.done c.in_ok-done.ensures.same.0 c.in_ok-done.ensures.same.1 hand))

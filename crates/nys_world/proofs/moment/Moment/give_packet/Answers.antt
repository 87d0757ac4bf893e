use Rattle.std.proofs.Common.{◌≡◌, ap, arith, length, refl, Some, subst}
use Rattle.std.proofs.lemmas.Option.{slice_get_read}
use Rattle.std.specs.Prelude.{slice_get}
use Rattle.nys_rules.specs.Happening.{Delivers, IsGiven}
use Rattle.nys_rules.specs.Packets.{Sent}
use Rattle.nys_world.specs.Given.{bytes_given}
use Rattle.nys_rules.specs.World.{World}
use Rattle.nys_world.specs.Shows.{setting_of, ShowsOn}
use Rattle.nys_world.proofs.GivenLemmas.{delivers_sent, marked}
use Rattle.nys_world.proofs.GoingLemmas.{happened_weaker}
use Rattle.nys_world.proofs.PlaceLemmas.{shows_books}
use Rattle.nys_world.proofs.moment.Moment.give_packet.Goals as goal

-- there is a mark for each packet
pub mark-requires : goal.mark-requires
mark-requires g c =
    let kept = c.requires.shown.1.books in
    let size = ap length kept.pool in
    omega (arith, kept.rows, size, c.requires.sent)

-- the world is shown in which it counts as delivered
pub give-requires-clause-shown : goal.give-requires-clause-shown
give-requires-clause-shown g c =
    let setting = setting_of (g.P.Protocol.rules c.args.stage.now.cx.protocol) c.args.stage.now in
    let w = c.requires.shown.0 in
    let s = c.requires.shown.1 in
    let next = marked c.args.k w in
    (next, shows_books setting c.args.stage.now.traced c.args.self.now c.mark.new.self w next refl refl refl (c.mark.ensures w s.books) s)

-- it is given there
pub returns : goal.returns
returns g c = λ w s.
    let rules = g.P.Protocol.rules c.args.stage.now.cx.protocol in
    let setting = setting_of rules c.args.stage.now in
    let k = c.args.k in
    let p = c.index.result.now in
    let to = c.behind-self.inside.to in
    let pool = c.args.self.now.books.pool.items in
    let next = marked k w in
    let at = subst (λ packets. slice_get packets k ≡ Some p) s.books.pool (slice_get_read pool (length pool) k p refl c.requires.sent c.index.ensures) in
    happened_weaker (λ (_ : Unit {0}) (next : World). ShowsOn rules c.args.stage.now c.give.new.self next) (IsGiven setting next to (Some k) (bytes_given next (Some k))) (Delivers setting w k) c.give.result
    (λ r given. delivers_sent setting w k to p r at (ap (λ (sent : Sent). sent.to) c.behind-self.view_is) given)
    (c.give.ensures next (shows_books setting c.args.stage.now.traced c.args.self.now c.mark.new.self w next refl refl refl (c.mark.ensures w s.books) s))

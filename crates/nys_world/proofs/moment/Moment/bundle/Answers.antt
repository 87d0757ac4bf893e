-- The packets join the pool.
use Rattle.std.proofs.Common.{◌≡◌, ℕ, List, length, subst}
use Rattle.std.specs.Prelude.{find, nat_lt, not}
use Rattle.nys_rules.specs.Happening.{bundle_or_end}
use Rattle.nys_rules.specs.World.{World}
use Rattle.nys_world.specs.Shows.{Keeps, setting_of, ShowsOn}
use Rattle.nys_world.proofs.GoingLemmas.{happened_on}
use Rattle.nys_world.proofs.ShownMoments.{shows_bundle}
use Rattle.nys_world.proofs.moment.Moment.bundle.Goals as goal

pub returns : goal.returns
returns g c = λ w shows.
    let rules = g.P.Protocol.rules c.args._stage.now.cx.protocol in
    let stage = c.args._stage.now in
    let setting = setting_of rules stage in
    let before = c.args.self.now in
    let books = c.bundle.new.self in
    let bundle = λ (ks : List ℕ). bundle_or_end w c.args.from c.args.to ks (find (λ k. not (nat_lt k (length w.pool))) ks) in
    happened_on (λ (_ : Unit {0}) (next : World). Keeps books next)
    (λ (_ : Unit {0}) (next : World). ShowsOn rules stage (record before { books = books }) next)
    (λ r. r ≡ bundle c.as_slice.result.now) (λ r. r ≡ bundle c.args.packets.items) c.bundle.result
    (λ r is. subst (λ (ks : List ℕ). r ≡ bundle ks) c.as_slice.ensures.value is)
    (λ _ next is keeps. shows_bundle setting stage.traced before books c.args.from c.args.to c.as_slice.result.now _ w next is shows keeps)
    (c.bundle.ensures w shows.books)

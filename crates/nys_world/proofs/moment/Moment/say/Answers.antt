-- The packets join the pool.
use Rattle.std.proofs.Common.{◌≡◌}
use Rattle.nys_rules.specs.Happening.{said_record, sent_to_all}
use Rattle.nys_rules.specs.World.{World}
use Rattle.nys_world.specs.Shows.{Keeps, setting_of, ShowsOn}
use Rattle.nys_world.proofs.GoingLemmas.{happened_on}
use Rattle.nys_world.proofs.ShownMoments.{shows_packets}
use Rattle.nys_world.proofs.moment.Moment.say.Goals as goal

pub returns : goal.returns
returns g c = λ w shows.
    let rules = g.P.Protocol.rules c.args.stage.now.cx.protocol in
    let stage = c.args.stage.now in
    let setting = setting_of rules stage in
    let before = c.args.self.now in
    let books = c.say.new.self in
    let sent = sent_to_all c.args.from (said_record setting.scope c.args.maker c.args.statement c.args.to) c.args.to w in
    happened_on (λ (_ : Unit {0}) (next : World). Keeps books next)
    (λ (_ : Unit {0}) (next : World). ShowsOn rules stage (record before { books = books }) next)
    (λ r. r ≡ sent) (λ r. r ≡ sent) c.say.result (λ r is. is)
    (λ _ next is keeps. shows_packets setting stage.traced before books _ w next is shows keeps) (c.say.ensures w shows.books)

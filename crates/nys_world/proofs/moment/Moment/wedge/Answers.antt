-- The Olympus did it, and was told to.
use Rattle.std.proofs.Common.{◌≡◌}
use Rattle.nys_rules.specs.Happening.{OlympusWedges}
use Rattle.nys_rules.specs.World.{after_olympus, with_note, World}
use Rattle.nys_world.specs.Shows.{Keeps, setting_of, ShowsOn}
use Rattle.nys_world.proofs.GoingLemmas.{happened_on}
use Rattle.nys_world.proofs.ShownMoments.{shows_acted, wedged_so}
use Rattle.nys_world.proofs.moment.Moment.wedge.Goals as goal

pub returns : goal.returns
returns g c = λ w shows.
    let rules = g.P.Protocol.rules c.args.stage.now.cx.protocol in
    let stage = c.args.stage.now in
    let setting = setting_of rules stage in
    let before = c.args.self.now in
    let olympus = c.wedge.new.self in
    let books = c.olympus_answered.new.self in
    let kind = c.wedge_note.result in
    let done = c.in_ok-did.handled in
    let told = c.wedge_note.ensures w.olympus (c.epoch-epoch.ensures setting.scope w.olympus shows.olympus) in
    let x = c.in_ok-did.ensures.wedges w.olympus shows.olympus in
    happened_on (λ (_ : Unit {0}) (next : World). Keeps books next)
    (λ (_ : Unit {0}) (next : World). ShowsOn rules stage (record before { olympus = olympus; books = books }) next)
    (λ r. r ≡ after_olympus x.0 done (with_note kind w)) (OlympusWedges setting w) c.olympus_answered.result
    (λ r is. wedged_so setting w x.0 c.in_ok-did.did done kind x.2 told r is)
    (λ _ next is keeps. shows_acted setting stage.traced before olympus books kind x.0 done w next is shows x.1 keeps)
    (c.olympus_answered.ensures w x.0 shows.books)

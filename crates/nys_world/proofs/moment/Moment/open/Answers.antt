-- The Olympus did it, and it is told what it answered.
use Rattle.std.proofs.Common.{◌≡◌}
use Rattle.nys_rules.specs.declared.notice.NoteKind.TheVariants as tell
use Rattle.nys_rules.specs.Happening.{OlympusOpens}
use Rattle.nys_rules.specs.World.{after_olympus, with_note, World}
use Rattle.nys_world.specs.Shows.{Keeps, setting_of, ShowsOn}
use Rattle.nys_world.proofs.GoingLemmas.{happened_on}
use Rattle.nys_world.proofs.ShownMoments.{opened_so, shows_acted}
use Rattle.nys_world.proofs.moment.Moment.open.Goals as goal

pub returns : goal.returns
returns g c = λ w shows.
    let rules = g.P.Protocol.rules c.args.stage.now.cx.protocol in
    let stage = c.args.stage.now in
    let setting = setting_of rules stage in
    let before = c.args.self.now in
    let olympus = c.open_next.new.self in
    let books = c.olympus_answered.new.self in
    let answer = c.in_ok-answer.answer in
    let done = c.in_ok-answer.handled in
    let x = c.in_ok-answer.ensures.opens w.olympus shows.olympus in
    happened_on (λ (_ : Unit {0}) (next : World). Keeps books next)
    (λ (_ : Unit {0}) (next : World). ShowsOn rules stage (record before { olympus = olympus; books = books }) next)
    (λ r. r ≡ after_olympus x.0 done (with_note (tell.Open answer) w)) (OlympusOpens setting w) c.olympus_answered.result
    (λ r is. opened_so setting w x.0 answer done x.2 r is)
    (λ _ next is keeps. shows_acted setting stage.traced before olympus books (tell.Open answer) x.0 done w next is shows x.1 keeps)
    (c.olympus_answered.ensures w x.0 shows.books)

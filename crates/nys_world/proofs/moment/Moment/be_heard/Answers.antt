-- The Olympus takes the bytes, and what it did joins the books.
use Rattle.std.proofs.Common.{refl, subst, sym}
use Rattle.std.proofs.lemmas.Result.{err_from_is_err_and}
use Rattle.nys_rules.specs.Forged.{makers_told}
use Rattle.nys_rules.specs.Happening.{OlympusTakes, UnlessForged, with_take}
use Rattle.nys_rules.specs.Olympus.{Hears}
use Rattle.nys_rules.specs.Packets.{Done}
use Rattle.nys_rules.specs.Scope.{olympus}
use Rattle.nys_rules.specs.World.{after_olympus, World}
use Rattle.nys_world.specs.Given.{bytes_given}
use Rattle.nys_world.specs.Shows.{AreTakes, Keeps, setting_of, ShowsOn}
use Rattle.nys_world.proofs.BooksKeep.{keeps_taken}
use Rattle.nys_world.proofs.BooksTake.{unless_taken}
use Rattle.nys_world.proofs.GoingLemmas.{happened_on}
use Rattle.nys_world.proofs.PlaceLemmas.{olympus_frame, shows_olympus}
use Rattle.nys_world.proofs.TakingLemmas.{takes_told}
use Rattle.nys_world.proofs.moment.Moment.be_heard.Goals as goal

-- the Olympus means a view
pub handle-requires-clause-means : goal.handle-requires-clause-means
handle-requires-clause-means g c = let shown = c.requires.shown in (shown.0.olympus, shown.1.olympus)

-- there was no memory to take it
pub returns-in_err-handled : goal.returns-in_err-handled
returns-in_err-handled g c = λ w s.
    let p = err_from_is_err_and c.from_residual.result c.from_residual.ensures.1 in rw (p.1, p.2) tt

-- or to tell of it
pub returns-in_err-keep_take : goal.returns-in_err-keep_take
returns-in_err-keep_take g c = λ w s.
    let p = err_from_is_err_and c.from_residual-in_err-keep_take.result c.from_residual-in_err-keep_take.ensures.1 in rw (p.1, p.2) tt

-- the books are those of a world
pub olympus_took-requires : goal.olympus_took-requires
olympus_took-requires g c = let shown = c.requires.shown in (shown.0, shown.1.books)

-- the Olympus took it
pub returns : goal.returns
returns g c = λ w s.
    let rules = g.P.Protocol.rules c.args.stage.now.cx.protocol in
    let stage = c.args.stage.now in
    let setting = setting_of rules stage in
    let before = c.args.self.now in
    let packet = c.args.packet in
    let done = c.in_ok-handled.handled in
    let told = with_take olympus packet c.handled.inside.dropped w in
    let books = c.olympus_took.new.self in
    let kept = c.keep_take.new.takes in
    let t = c.in_ok-handled.ensures.hears w.olympus s.olympus in
    happened_on (λ (_ : Unit {0}) (next : World). Keeps books next)
    (λ (_ : Unit {0}) (next : World). ShowsOn rules stage (record before { olympus = c.handle.new.self; books = books; takes = kept }) next)
    (UnlessForged setting told olympus done.statement (makers_told done) (after_olympus t.0 done told))
    (OlympusTakes setting w packet (bytes_given w packet)) c.olympus_took.result
    (λ r ends. record {
      after = t.0;
      done = done;
      hears = subst (λ frame. Hears setting.scope w.olympus frame t.0 done) (c.bytes_given.ensures w s.books) t.2;
      ends = subst (λ (d : Done). UnlessForged setting w olympus done.statement (makers_told done) (after_olympus t.0 done (with_take olympus packet d.dropped w)) r)
          c.handled.view_is (unless_taken setting w told.takes olympus done.statement (makers_told done) _ r ends);
    })
    (λ _ next ends keeps.
    let frame = olympus_frame setting olympus t.0 done told next done.statement (makers_told done) ends in
    shows_olympus setting stage.traced before (record before { olympus = c.handle.new.self; books = books; takes = kept }) t.0 w next t.1 frame.0 frame.1 refl keeps
    (subst (AreTakes stage.traced kept.items) (sym frame.2)
    (takes_told stage.traced kept.items w before.books.events olympus packet c.handled.inside.dropped s.books.events (c.in_ok-keep_take.ensures w.takes s.takes))) s)
    (c.olympus_took.ensures told t.0 (keeps_taken before.books w told.takes s.books))

-- The world goes on from what the Olympus did, or ends where that was forged.
use Rattle.std.proofs.Common.{◌≡◌, ◌∙◌}
use Rattle.std.proofs.lemmas.Result.{err_from_is_err_and}
use Rattle.nys_rules.specs.Forged.{makers_told}
use Rattle.nys_rules.specs.Happening.{UnlessForged}
use Rattle.nys_rules.specs.Scope.{olympus}
use Rattle.nys_rules.specs.World.{after_olympus}
use Rattle.nys_world.specs.Shows.{Keeps, setting_of}
use Rattle.nys_world.proofs.BooksHappen.{happened_so}
use Rattle.nys_world.proofs.BooksTake.{after_olympus_same, told_end, unless_true}
use Rattle.nys_world.proofs.books.Books.olympus_took.Goals as goal

-- it was forged
pub returns-in_err-done : goal.returns-in_err-done
returns-in_err-done g c = λ w o k.
    let p = err_from_is_err_and c.from_residual.result c.from_residual.ensures.1 in
    let setting = setting_of (g.P.Protocol.rules c.args.stage.now.cx.protocol) c.args.stage.now in
    let given = c.args.handled in
    rw (p.1, p.2) (told_end {A = Unit {0}} (λ _ later. Keeps c.args.self.now later) setting w olympus
    given.statement (makers_told given) (after_olympus o given w) c.in_err-done.field-0.0 (c.in_err-done.ensures.forged w k))

-- it wasn't
pub returns : goal.returns
returns g c = λ w o k.
    let setting = setting_of (g.P.Protocol.rules c.args.stage.now.cx.protocol) c.args.stage.now in
    let given = c.args.handled in
    let next = after_olympus o given w in
    happened_so (λ _ later. Keeps c.olympus_acted.new.self later) (λ r. r ≡ after_olympus o c.in_ok-done.done w)
    (UnlessForged setting w olympus given.statement (makers_told given) next) c.olympus_acted.result
    (λ r e. unless_true setting w olympus given.statement (makers_told given) next r (c.in_ok-done.ensures.all_true w k)
    (e ∙ after_olympus_same o c.in_ok-done.done given w c.in_ok-done.ensures.same.0))
    (c.olympus_acted.ensures w o k)

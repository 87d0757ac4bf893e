-- It was forged, or clashes.
use Rattle.std.proofs.Common.{◌≡◌, [], ◌∷◌, ◌++◌, Some}
use Rattle.std.specs.Prelude.{if◌then◌else◌}
use Rattle.nys_hosts.specs.Sets.{members}
use Rattle.nys_rules.specs.Scope.{olympus}
use Rattle.nys_world.specs.Shows.{setting_of}
use Rattle.nys_world.proofs.UntrueLemmas.{told_of}
use Rattle.nys_world.proofs.books.Books.unless_forged.Goals as goal

pub returns-in-Some-forged-clause-forged : goal.returns-in-Some-forged-clause-forged
returns-in-Some-forged-clause-forged g c = λ w k.
    let setting = setting_of (g.P.Protocol.rules c.args.stage.now.cx.protocol) c.args.stage.now in
    let told = c.handled.inside in
    let said : told.statement ≡ Some c.in-Some.statement = let taken = c.take.ensures.value in let is = c.in-Some.is in cc in
    rw (← c.handled.view_is)
    (told_of setting w.ledger w.events c.args.taker told.statement c.in-Some.statement
    (members told.accepted ++ (if told.olympus then olympus ∷ [] else [])) c.in-Some-forged.maker c.untrue.result said
    (c.in-Some-forged.ensures.some w k) (c.untrue.ensures w k))

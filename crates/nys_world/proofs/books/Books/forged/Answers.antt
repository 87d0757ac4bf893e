-- First the hosts, then the Olympus.
use Rattle.std.proofs.Common.{[], ◌∷◌}
use Rattle.std.specs.Prelude.{if◌then◌else◌}
use Rattle.std.proofs.lemmas.Option.{IfSome_then}
use Rattle.nys_hosts.specs.Sets.{members}
use Rattle.nys_rules.specs.Scope.{olympus}
use Rattle.nys_world.specs.Shows.{setting_of}
use Rattle.nys_world.proofs.ForgedMakers.{forged_behind, if_none_so, true_both}
use Rattle.nys_world.proofs.books.Books.forged.Goals as goal

-- no host, and the Olympus
pub returns-in-None-clause-some : goal.returns-in-None-clause-some
returns-in-None-clause-some g c =
    let setting = setting_of (g.P.Protocol.rules c.args.stage.now.cx.protocol) c.args.stage.now in
    let told = c.handled.inside in
    IfSome_then c.forged_olympus.result c.forged_olympus.ensures.some (λ maker forged w k.
    rw (← c.handled.view_is)
    (forged_behind setting w.ledger c.args.statement.now (members told.accepted) (if told.olympus then olympus ∷ [] else []) maker
    (c.in-None.ensures.none w k) (forged w k)))

-- nor the Olympus
pub returns-in-None-clause-none : goal.returns-in-None-clause-none
returns-in-None-clause-none g c =
    let setting = setting_of (g.P.Protocol.rules c.args.stage.now.cx.protocol) c.args.stage.now in
    let told = c.handled.inside in
    if_none_so c.forged_olympus.result (λ all w k.
    rw (← c.handled.view_is)
    (true_both setting w.ledger c.args.statement.now (members told.accepted) (if told.olympus then olympus ∷ [] else [])
    (c.in-None.ensures.none w k) (all w k))) c.forged_olympus.ensures.none

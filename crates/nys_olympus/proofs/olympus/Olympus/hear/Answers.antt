use Rattle.std.proofs.Common.{sym}
use Rattle.nys_config.specs.Scopes.{scope_of}
use Rattle.nys_olympus.proofs.Verdicts.{hears_dropped}
use Rattle.nys_olympus.proofs.olympus.Olympus.hear.Goals as goal

-- it has no place
pub returns-in-Some-clause-hears : goal.returns-in-Some-clause-hears
returns-in-Some-clause-hears g c = λ o view.
    let scope = scope_of (g.P.Protocol.rules c.args.cx.now.protocol) c.args.cx.now in
    let r = c.args.given.now in
    (o, view, hears_dropped scope o r c.in-Some.cause c.dropped.result (c.in-Some.ensures.some o view r (sym c.head.ensures)) c.dropped.ensures)

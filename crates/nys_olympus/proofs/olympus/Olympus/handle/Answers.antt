use Rattle.nys_config.specs.Scopes.{scope_of}
use Rattle.nys_olympus.proofs.Verdicts.{hears_record}
use Rattle.nys_olympus.proofs.olympus.Olympus.handle.Goals as goal

-- the bytes are a record
pub returns-in_ok-done-in-Ok-clause-hears : goal.returns-in_ok-done-in-Ok-clause-hears
returns-in_ok-done-in-Ok-clause-hears g c = λ o view.
    let scope = scope_of (g.P.Protocol.rules c.args.cx.now.protocol) c.args.cx.now in
    let t = c.in_ok-done-in-Ok.ensures.hears o view in
    (t.0, t.1, hears_record scope o t.0 c.args.frame.now c.in-Ok.record c.in_ok-done-in-Ok.done c.in-Ok.ensures.exact t.2)

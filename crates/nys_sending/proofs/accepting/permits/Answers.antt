use Rattle.std.proofs.Common.{◌∙◌, ap, sym}
use Rattle.nys_config.specs.Scopes.{scope_in}
use Rattle.nys_sending.specs.Permits.{permits_kind}
use Rattle.nys_sending.proofs.accepting.permits.Goals as goal

-- what is said of a content, by its own table
pub returns-in-Filled : goal.returns-in-Filled
returns-in-Filled g c =
    let head = c.args.head.now in
    c.permits_filled.ensures head.p ∙ ap (λ kind. permits_kind (scope_in g.P.Protocol.rules c.args.cx.now) head.epoch head.p head.h kind c.args.m) (sym c.in-Filled.is)

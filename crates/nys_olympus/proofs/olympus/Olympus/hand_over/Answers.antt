use Rattle.std.proofs.Common.{◌∙◌, ap, sym}
use Rattle.std.proofs.lemmas.Option.{slice_get_read}
use Rattle.std.proofs.lemmas.Result.{on_ok_weaker}
use Rattle.std.specs.Prelude.{fold}
use Rattle.nys_rules.specs.Packets.{joined}
use Rattle.nys_config.specs.Scopes.{scope_of}
use Rattle.nys_olympus.specs.Handing.{handed_over}
use Rattle.nys_olympus.proofs.NextEpoch.{inherits_one}
use Rattle.nys_olympus.proofs.olympus.Olympus.hand_over.Goals as goal

-- the host isn't retired
pub returns : goal.returns
returns g c = on_ok_weaker c.hand_each.result
    (λ same o view. same
    ∙ ap (λ log. fold joined c.args.out.now (handed_over (scope_of (g.P.Protocol.rules c.args.cx.now.protocol) c.args.cx.now) c.args.epoch c.args.h log))
    (c.items.ensures ∙ view.means.decided.each c.args.h c.index.result.now (slice_get_read c.args.self.now.decided.items 32 c.args.h c.index.result.now (sym view.means.decided.size) c.requires.host c.index.ensures))
    ∙ ap (λ parts. fold joined c.args.out.now parts) (sym (inherits_one (scope_of (g.P.Protocol.rules c.args.cx.now.protocol) c.args.cx.now) o c.args.epoch c.args.h (sym (view.means.retired c.args.h) ∙ sym c.if-contains.ensures))))
    c.hand_each.ensures

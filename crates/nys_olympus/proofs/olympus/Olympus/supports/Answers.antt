use Rattle.std.proofs.Common.{◌≡◌, ◌∙◌, ap, sym}
use Rattle.std.proofs.lemmas.Option.{slice_get_read}
use Rattle.std.proofs.lemmas.Result.{IfOk-weaker}
use Rattle.nys_rules.specs.Olympus.{supports}
use Rattle.nys_config.specs.Scopes.{scope_of}
use Rattle.nys_olympus.specs.Means.{Known}
use Rattle.nys_olympus.specs.Supports.{supports_of}
use Rattle.nys_olympus.proofs.Supporting.{supports_same}
use Rattle.nys_olympus.proofs.olympus.Olympus.supports.Goals as goal

-- the docket of the host is the view's
pub returns : goal.returns
unfolding supports
returns g c = record {
  value = IfOk-weaker c.supporting.result (λ contents. contents.items ≡ supports_of 1024 c.threshold-t.result c.index.result.now c.base_of-base.result)
      (λ contents. Known (scope_of (g.P.Protocol.rules c.args.cx.now.protocol) c.args.cx.now) c.args.self.now (λ o. contents.items ≡ supports (scope_of (g.P.Protocol.rules c.args.cx.now.protocol) c.args.cx.now) o c.args.h))
      (λ contents same o view. same
      ∙ ap (λ t. supports_of 1024 t c.index.result.now c.base_of-base.result) (c.threshold-t.ensures ∙ ap (λ e. (scope_of (g.P.Protocol.rules c.args.cx.now.protocol) c.args.cx.now).t e c.args.h) view.means.epoch)
      ∙ ap (λ base. supports_of 1024 ((scope_of (g.P.Protocol.rules c.args.cx.now.protocol) c.args.cx.now).t o.epoch c.args.h) c.index.result.now base) (c.base_of-base.ensures.value (scope_of (g.P.Protocol.rules c.args.cx.now.protocol) c.args.cx.now) o view)
      ∙ supports_same 1024 (scope_of (g.P.Protocol.rules c.args.cx.now.protocol) c.args.cx.now) o c.args.h c.index.result.now (o.base c.args.h)
      (view.means.reports.each c.args.h c.index.result.now (slice_get_read c.args.self.now.reports.items 32 c.args.h c.index.result.now (sym view.means.reports.size) c.requires.host c.index.ensures)))
      c.supporting.ensures.value;
  few = c.supporting.ensures.few;
}

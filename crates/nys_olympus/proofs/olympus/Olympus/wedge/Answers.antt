use Rattle.std.proofs.Common.{◌∙◌, ap, sym, true}
use Rattle.nys_rules.specs.Handling.{done_by}
use Rattle.nys_rules.specs.Olympus.{proclaimed}
use Rattle.nys_rules.specs.Packets.{joined, nothing}
use Rattle.nys_config.specs.Scopes.{scope_of}
use Rattle.nys_stmt.specs.declared.statement.Body.TheVariants as body
use Rattle.nys_olympus.proofs.NextEpoch.{epoch_fits, wedges_now}
use Rattle.nys_olympus.proofs.Views.{view_wedged}
use Rattle.nys_olympus.proofs.olympus.Olympus.wedge.Goals as goal

-- the epoch is one of the scenario
pub proclaim-requires-clause-epoch : goal.proclaim-requires-clause-epoch
proclaim-requires-clause-epoch g c = epoch_fits (g.P.Protocol.rules c.args.cx.now.protocol) c.args.cx.now c.args.self.now c.requires.config c.requires.means

-- the epoch is ended now
pub returns : goal.returns
returns g c = record {
  wedges = λ o view. (
    record o { wedged = true },
    view_wedged (scope_of (g.P.Protocol.rules c.args.cx.now.protocol) c.args.cx.now) c.args.self.now o view,
    wedges_now (scope_of (g.P.Protocol.rules c.args.cx.now.protocol) c.args.cx.now) o c.done-2.result (sym view.means.wedged ∙ c.if-self.false)
        (c.done-2.ensures ∙ ap done_by (c.in_ok-proclaim.ensures
        ∙ ap (λ a. joined a (proclaimed (scope_of (g.P.Protocol.rules c.args.cx.now.protocol) c.args.cx.now) c.args.self.now.epoch body.Wedge c.as_slice.result.now)) c.new-out.ensures
        ∙ ap (λ e. joined nothing (proclaimed (scope_of (g.P.Protocol.rules c.args.cx.now.protocol) c.args.cx.now) e body.Wedge c.as_slice.result.now)) view.means.epoch
        ∙ ap (λ l. joined nothing (proclaimed (scope_of (g.P.Protocol.rules c.args.cx.now.protocol) c.args.cx.now) o.epoch body.Wedge l)) (c.as_slice.ensures.value ∙ c.in_ok-list.ensures.value))),
  );
}

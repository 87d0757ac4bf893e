use Rattle.std.proofs.Common.{◌≡◌, ◌+◌, ◌∙◌, false, ap, sym, length, arith}
use Rattle.nys_rules.specs.Olympus.{after_decision, first_bare, is_settled}
use Rattle.nys_config.specs.Scopes.{scope_of}
use Rattle.nys_olympus.proofs.Decisions.{decides_not, decides_open, decides_settled}
use Rattle.nys_olympus.proofs.olympus.Olympus.decide.Goals as goal

-- the epoch isn't ending
pub returns-then-not-self : goal.returns-then-not-self
returns-then-not-self g c = record { decides = λ o view. (o, view, decides_not (scope_of (g.P.Protocol.rules c.args.cx.now.protocol) c.args.cx.now) o c.args.h (sym view.means.wedged ∙ c.if-not-self.true)) }

-- nothing more can change about the host
pub returns-then-is_settled : goal.returns-then-is_settled
returns-then-is_settled g c = record {
  decides = λ o view. (
    o,
    view,
    decides_settled (scope_of (g.P.Protocol.rules c.args.cx.now.protocol) c.args.cx.now) o c.args.h (sym view.means.wedged ∙ c.if-not-self.false) (sym (c.is_settled.ensures (scope_of (g.P.Protocol.rules c.args.cx.now.protocol) c.args.cx.now) o view) ∙ c.if-is_settled.true),
  );
}

-- guards decide
pub returns : goal.returns
returns g c = record {
  decides = λ o view.
      let scope = scope_of (g.P.Protocol.rules c.args.cx.now.protocol) c.args.cx.now in
      let goes : is_settled o c.args.h ≡ false = sym (c.is_settled.ensures scope o view) ∙ c.if-is_settled.false in
      let base = c.base_of.ensures.value scope o view in
      let count = c.len.ensures in
      let size = ap length (c.in_ok-contents.ensures.value o view) in
      let bare : c.base_of.result + c.len.result ≡ first_bare scope o c.args.h = omega (arith, base, count, size) in (
        after_decision scope o c.args.h c.open_decision-answer.result,
        c.in_ok-answered.ensures scope o view goes (c.in_ok-contents.ensures.value o view),
        decides_open scope o c.args.h c.open_decision-answer.result (sym view.means.wedged ∙ c.if-not-self.false) goes (c.open_decision-answer.ensures o view bare),
      );
}

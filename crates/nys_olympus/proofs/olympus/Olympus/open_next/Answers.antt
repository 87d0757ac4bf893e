use Rattle.std.proofs.Common.{◌≡◌, ◌+◌, ◌∙◌, ap, sym, true, arith}
use Rattle.std.proofs.lemmas.Bool.{ltb-true}
use Rattle.std.specs.Prelude.{nat_lt}
use Rattle.nys_rules.specs.Handling.{done_by}
use Rattle.nys_rules.specs.Olympus.{in_next_epoch}
use Rattle.nys_config.specs.Scopes.{scope_of}
use Rattle.nys_olympus.proofs.NextEpoch.{epoch_fits, next_fits, opens_but, opens_next, opens_none, opens_not}
use Rattle.nys_olympus.proofs.Rows.{logs_short}
use Rattle.nys_olympus.proofs.olympus.Olympus.open_next.Goals as goal

-- the epoch isn't ending
pub returns-then-not-self : goal.returns-then-not-self
returns-then-not-self g c = record {
  opens = λ o view. (
    o,
    view,
    opens_not (scope_of (g.P.Protocol.rules c.args.cx.now.protocol) c.args.cx.now) o c.done.result (sym view.means.wedged ∙ c.if-not-self.true) (c.done.ensures ∙ ap done_by c.new.ensures),
  );
}

-- the epoch is one of the scenario
pub overflow_add-epoch : goal.overflow_add-epoch
overflow_add-epoch g c = let fits = epoch_fits (g.P.Protocol.rules c.args.cx.now.protocol) c.args.cx.now c.args.self.now c.requires.config c.requires.means in omega (arith, fits)

-- there is no next epoch
pub returns-then-not-is_epoch : goal.returns-then-not-is_epoch
returns-then-not-is_epoch g c = record {
  opens = λ o view. (
    o,
    view,
    opens_none (scope_of (g.P.Protocol.rules c.args.cx.now.protocol) c.args.cx.now) o c.done-then-not-is_epoch.result (sym view.means.wedged ∙ c.if-not-self.false)
        (ap (λ e. nat_lt (e + 1) (scope_of (g.P.Protocol.rules c.args.cx.now.protocol) c.args.cx.now).epochs) (sym view.means.epoch) ∙ sym c.is_epoch.ensures ∙ c.if-not-is_epoch.true)
        (c.done-then-not-is_epoch.ensures ∙ ap done_by c.new-then-not-is_epoch.ensures),
  );
}

-- a host stands in the way
pub returns-in-Some : goal.returns-in-Some
returns-in-Some g c = record {
  opens = λ o view. (
    o,
    view,
    opens_but (scope_of (g.P.Protocol.rules c.args.cx.now.protocol) c.args.cx.now) o c.in-Some.h c.done-in-Some.result (sym view.means.wedged ∙ c.if-not-self.false)
        (ap (λ e. nat_lt (e + 1) (scope_of (g.P.Protocol.rules c.args.cx.now.protocol) c.args.cx.now).epochs) (sym view.means.epoch) ∙ sym c.is_epoch.ensures ∙ c.if-not-is_epoch.false)
        (sym (c.in-Some.ensures o view)) (c.done-in-Some.ensures ∙ ap done_by c.new-in-Some.ensures),
  );
}

-- the next epoch fits a statement
pub opening_made-requires-clause-epoch : goal.opening_made-requires-clause-epoch
opening_made-requires-clause-epoch g c = next_fits (g.P.Protocol.rules c.args.cx.now.protocol) c.args.cx.now (c.args.self.now.epoch + 1) c.requires.config (ltb-true (c.args.self.now.epoch + 1) (scope_of (g.P.Protocol.rules c.args.cx.now.protocol) c.args.cx.now).epochs (sym c.is_epoch.ensures ∙ c.if-not-is_epoch.false))

pub next_epoch-requires-clause-epoch : goal.next_epoch-requires-clause-epoch
next_epoch-requires-clause-epoch g c = epoch_fits (g.P.Protocol.rules c.args.cx.now.protocol) c.args.cx.now c.args.self.now c.requires.config c.requires.means

-- no decided log is longer than a log may be
pub next_epoch-requires-clause-short : goal.next_epoch-requires-clause-short
next_epoch-requires-clause-short g c = logs_short (scope_of (g.P.Protocol.rules c.args.cx.now.protocol) c.args.cx.now) c.args.self.now c.requires.means.0 c.requires.means.1

-- all hosts are settled
pub returns : goal.returns
returns g c = record {
  opens = λ o view.
      let next : nat_lt (o.epoch + 1) (scope_of (g.P.Protocol.rules c.args.cx.now.protocol) c.args.cx.now).epochs ≡ true = ap (λ e. nat_lt (e + 1) (scope_of (g.P.Protocol.rules c.args.cx.now.protocol) c.args.cx.now).epochs) (sym view.means.epoch) ∙ sym c.is_epoch.ensures ∙ c.if-not-is_epoch.false in (
        in_next_epoch o,
        c.in_ok-next_epoch.ensures (scope_of (g.P.Protocol.rules c.args.cx.now.protocol) c.args.cx.now) o view (ltb-true (o.epoch + 1) (scope_of (g.P.Protocol.rules c.args.cx.now.protocol) c.args.cx.now).epochs next),
        opens_next (scope_of (g.P.Protocol.rules c.args.cx.now.protocol) c.args.cx.now) o (c.args.self.now.epoch + 1) c.done-2.result (sym view.means.wedged ∙ c.if-not-self.false) next
            (sym (c.unsettled.ensures o view) ∙ c.in_default.is) (ap (λ e. e + 1) view.means.epoch)
            (c.done-2.ensures ∙ ap done_by (c.in_ok-out.ensures o view)),
      );
}

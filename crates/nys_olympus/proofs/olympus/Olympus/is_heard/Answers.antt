use Rattle.std.proofs.Common.{◌∙◌, ◌&&◌, ap, sym, not, arith}
use Rattle.std.proofs.lemmas.Bool.{lt-ltb}
use Rattle.nys_rules.specs.Olympus.{is_settled}
use Rattle.nys_config.specs.Scopes.{scope_of}
use Rattle.nys_olympus.proofs.olympus.Olympus.is_heard.Goals as goal

-- the host is one of the protocol
pub returns-then-h-hosts-clause-value : goal.returns-then-h-hosts-clause-value
unfolding scope_of
returns-then-h-hosts-clause-value g c = λ o view.
    ap not (c.is_settled.ensures (scope_of (g.P.Protocol.rules c.args.cx.now.protocol) c.args.cx.now) o view)
    ∙ ap (λ b. b && not (is_settled o c.args.h)) (sym (lt-ltb c.args.h (g.P.Protocol.rules c.args.cx.now.protocol).hosts (omega (arith, c.if-h-hosts.true, c.hosts.ensures.value))))

use Rattle.std.proofs.Common.{◌≤◌, ◌∙◌, ap, arith}
use Rattle.nys_config.specs.Scopes.{scope_of}
use Rattle.nys_rules.specs.Packets.{joined}
use Rattle.nys_rules.specs.Sending.{to_guards}
use Rattle.nys_stmt.specs.declared.statement.Body.TheVariants as body
use Rattle.nys_node.proofs.SayLemmas.{says_in_range}
use Rattle.nys_node.proofs.node.Node.ask_for.Goals as goal

-- the slot behind a log that has room is a slot
pub tell_guards-requires-clause-range : goal.tell_guards-requires-clause-range
tell_guards-requires-clause-range g c =
    let rules = g.P.Protocol.rules c.args.cx.now.protocol in
    let scope = scope_of rules c.args.cx.now in
    let v = c.requires.means.0 in
    let m = c.requires.means.1.means in
    let short : c.log_len-slot.result ≤ 1023 = omega (arith, c.log_len-slot.ensures scope v m, c.requires.means.2) in
    let host : c.args.h ≤ 31 = omega (arith, c.requires.host) in
    says_in_range rules.hosts rules c.args.cx.now c.args.self.now v (body.Ask c.args.h c.log_len-slot.result) c.requires.config m (host, short)

-- the slot asked about is the one behind the log
pub returns : goal.returns
returns g c = λ v m.
    let scope = scope_of (g.P.Protocol.rules c.args.cx.now.protocol) c.args.cx.now in
    c.in_ok-tell_guards.ensures v m ∙ ap (λ s. joined c.args.out.now (to_guards scope v c.args.h (body.Ask c.args.h s))) (c.log_len-slot.ensures scope v m)

use Rattle.std.proofs.Common.{◌≤◌, arith}
use Rattle.nys_config.specs.Scopes.{scope_of}
use Rattle.nys_rules.specs.Heads.{own_attest}
use Rattle.nys_rules.specs.Sending.{record_of}
use Rattle.nys_stmt.specs.declared.statement.Body.TheVariants as body
use Rattle.nys_node.proofs.ReplyLemmas.{replied_none}
use Rattle.nys_node.proofs.SayLemmas.{says_in_range}
use Rattle.nys_node.proofs.node.Node.reply_attest.Goals as goal

-- hosts and number are in range
pub reply-requires-clause-range : goal.reply-requires-clause-range
reply-requires-clause-range g c =
    let rules = g.P.Protocol.rules c.args.cx.now.protocol in
    let sender : c.args.p ≤ 31 = omega (arith, c.requires.sender) in
    let host : c.args.h ≤ 31 = omega (arith, c.requires.host) in
    says_in_range rules.hosts rules c.args.cx.now c.args.self.now c.requires.means.0 (body.Attest c.args.p c.args.h c.args.k c.in_ok-payload-in-Some.payload) c.requires.config c.requires.means.1.means
    (sender, host, c.requires.number)

-- it attests no such number
pub returns-in-None : goal.returns-in-None
returns-in-None g c = λ v m.
    let scope = scope_of (g.P.Protocol.rules c.args.cx.now.protocol) c.args.cx.now in
    let p = c.args.p in
    let h = c.args.h in
    let k = c.args.k in
    replied_none v.me c.args.asker c.args.out.now (λ payload. record_of scope v h (body.Attest p h k payload)) (own_attest scope v p h k) (c.in-None.ensures scope v m)

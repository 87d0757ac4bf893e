use Rattle.std.proofs.Common.{◌∙◌, subst, sym}
use Rattle.nys_stmt.specs.Records.{IsWhole}
use Rattle.nys_stmt.specs.Ranges.{IsInRange}
use Rattle.nys_config.specs.Scopes.{scope_of}
use Rattle.nys_sending.proofs.OwnLemmas.{tags_some, whole_with}
use Rattle.nys_node.proofs.ReplyLemmas.{guards_some, own_is, own_said}
use Rattle.nys_node.proofs.node.Node.own_record.Goals as goal

-- the tags are made again
pub returns-clause-value : goal.returns-clause-value
returns-clause-value g c = λ v m.
    let scope = scope_of (g.P.Protocol.rules c.args.cx.now.protocol) c.args.cx.now in
    own_said scope v c.args.self.now c.args.h c.args.body m c.say-statement.result c.as_slice.result.now c.in_ok-own.own
    (own_is scope c.args.self.now.me c.say-statement.result c.as_slice.result.now c.in_ok-tags.tags c.in_ok-own.own c.in_ok-own.ensures c.in_ok-tags.ensures)
    c.say-statement.ensures (c.as_slice.ensures.value ∙ c.in_ok-guards.ensures.value v m)

-- it has tags, since there is another guard
pub returns-clause-whole : goal.returns-clause-whole
returns-clause-whole g c =
    let scope = scope_of (g.P.Protocol.rules c.args.cx.now.protocol) c.args.cx.now in
    let node = c.args.self.now in
    let v = c.requires.means.0 in
    let m = c.requires.means.1.means in
    let guards = c.as_slice.result.now in
    let some = guards_some scope node v c.args.h guards m c.requires.some (c.as_slice.ensures.value ∙ c.in_ok-guards.ensures.value v m) in
    subst IsWhole (sym c.in_ok-own.ensures) (whole_with node.me c.say-statement.result c.in_ok-tags.tags (subst IsInRange (sym c.say-statement.ensures) c.requires.range)
    (tags_some scope node.me c.say-statement.result guards c.in_ok-tags.tags c.in_ok-tags.ensures some))

use Rattle.std.proofs.Common.{refl}
use Rattle.nys_rules.specs.Logging.{forgetting, logged}
use Rattle.nys_rules.specs.Noting.{at_desk}
use Rattle.nys_rules.specs.View.{empty_desk}
use Rattle.nys_node.specs.Logging.{with_forgotten, with_left, with_log}
use Rattle.nys_config.specs.Scopes.{scope_of}
use Rattle.nys_node.proofs.LogLemmas.{can_log_on, from_host}
use Rattle.nys_node.proofs.node.Node.log_entry.Goals as goal

-- there is a desk for each host
pub clear_desk-requires-clause-rows : goal.clear_desk-requires-clause-rows
clear_desk-requires-clause-rows g c = c.requires.next.means.desks.size

-- and a bank
pub forget_head-requires-clause-banks : goal.forget_head-requires-clause-banks
forget_head-requires-clause-banks g c =
    let scope = scope_of (g.P.Protocol.rules c.args.cx.now.protocol) c.args.cx.now in
    let v = c.requires.next.view in
    (c.leave.ensures scope (at_desk c.args.h (λ _. empty_desk) v) (c.clear_desk.ensures scope v c.requires.next.means)).banks.size

-- a message is one of a host
pub forget_head-requires-clause-sender : goal.forget_head-requires-clause-sender
forget_head-requires-clause-sender g c =
    from_host (scope_of (g.P.Protocol.rules c.args.cx.now.protocol) c.args.cx.now) c.args.self.now c.args.h c.args.content c.requires.next

-- the content still comes next
pub apply_entry-requires-clause-next : goal.apply_entry-requires-clause-next
apply_entry-requires-clause-next g c =
    let scope = scope_of (g.P.Protocol.rules c.args.cx.now.protocol) c.args.cx.now in
    can_log_on scope c.args.self.now c.forget_head.new.self c.args.h c.args.content
    (λ v. with_forgotten c.args.h c.args.content (with_left c.args.h c.args.content (at_desk c.args.h (λ _. empty_desk) v)))
    (λ v. refl) (λ v. refl)
    (λ v m. c.forget_head.ensures scope (with_left c.args.h c.args.content (at_desk c.args.h (λ _. empty_desk) v))
    (c.leave.ensures scope (at_desk c.args.h (λ _. empty_desk) v) (c.clear_desk.ensures scope v m)))
    c.requires.next

-- there is a replica
pub forget_entries-requires-clause-rows : goal.forget_entries-requires-clause-rows
forget_entries-requires-clause-rows g c =
    let scope = scope_of (g.P.Protocol.rules c.args.cx.now.protocol) c.args.cx.now in
    let h = c.args.h in
    let v = c.requires.next.view in
    let cleared = at_desk h (λ _. empty_desk) v in
    let left = with_left h c.args.content cleared in
    let forgotten = with_forgotten h c.args.content left in
    (c.in_ok-apply_entry.ensures forgotten
    (c.forget_head.ensures scope left (c.leave.ensures scope cleared (c.clear_desk.ensures scope v c.requires.next.means)))).rows

-- there is a bank for each host
pub record_heads-requires-clause-banks : goal.record_heads-requires-clause-banks
record_heads-requires-clause-banks g c =
    let scope = scope_of (g.P.Protocol.rules c.args.cx.now.protocol) c.args.cx.now in
    let h = c.args.h in
    let v = c.requires.next.view in
    let cleared = at_desk h (λ _. empty_desk) v in
    let left = with_left h c.args.content cleared in
    let forgotten = with_forgotten h c.args.content left in
    (c.begin_links.ensures (forgetting h (with_log h c.args.content forgotten))
    (c.forget_entries.ensures scope (with_log h c.args.content forgotten)
    (c.in_ok-apply_entry.ensures forgotten
    (c.forget_head.ensures scope left (c.leave.ensures scope cleared (c.clear_desk.ensures scope v c.requires.next.means)))))).banks.size

-- one after another they make the view in which the entry is logged
pub returns : goal.returns
unfolding logged
returns g c = λ v m.
    let scope = scope_of (g.P.Protocol.rules c.args.cx.now.protocol) c.args.cx.now in
    let h = c.args.h in
    let cleared = at_desk h (λ _. empty_desk) v in
    let left = with_left h c.args.content cleared in
    let forgotten = with_forgotten h c.args.content left in
    c.record_heads.ensures _
    (c.begin_links.ensures (forgetting h (with_log h c.args.content forgotten))
    (c.forget_entries.ensures scope (with_log h c.args.content forgotten)
    (c.in_ok-apply_entry.ensures forgotten
    (c.forget_head.ensures scope left (c.leave.ensures scope cleared (c.clear_desk.ensures scope v m))))))

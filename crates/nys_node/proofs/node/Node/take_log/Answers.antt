use Rattle.std.proofs.Common.{arith, ap, ◌∙◌, [], ◌∷◌}
use Rattle.nys_node.proofs.Says.{kept_fits, log_fits}
use Rattle.nys_node.proofs.SoundRanges.{log_due, open_room}
use Rattle.nys_config.specs.Scopes.{scope_of}
use Rattle.nys_rules.specs.Packets.{joined}
use Rattle.nys_rules.specs.Taking.{with_kept}
use Rattle.nys_node.proofs.node.Node.take_log.Goals as goal

-- the log has room, and the content comes next
pub log_entry-requires-clause-next : goal.log_entry-requires-clause-next
log_entry-requires-clause-next g c = let r = c.requires.ready in
    let due = open_room (scope_of (g.P.Protocol.rules c.args.cx.now.protocol) c.args.cx.now) r.view c.args.h (log_due (scope_of (g.P.Protocol.rules c.args.cx.now.protocol) c.args.cx.now) r.view c.args.h c.args.content r.enabled).0 in
    record {
      view = with_kept c.args.h c.args.content r.view;
      means = c.in_ok-keep_slot.ensures (scope_of (g.P.Protocol.rules c.args.cx.now.protocol) c.args.cx.now) r.view r.is.means;
      known = r.is.means.kept c.args.h due.0;
      room = omega (arith, due.1);
      next = kept_fits (scope_of (g.P.Protocol.rules c.args.cx.now.protocol) c.args.cx.now) r.view c.args.h c.args.content c.args.content (log_fits (scope_of (g.P.Protocol.rules c.args.cx.now.protocol) c.args.cx.now) r.view c.args.h c.args.content r.enabled);
    }

-- the votes are kept, and the log has the content
pub returns-clause-node : goal.returns-clause-node
returns-clause-node g c = λ v m. c.in_ok-log_entry.ensures _ (c.in_ok-keep_slot.ensures (scope_of (g.P.Protocol.rules c.args.cx.now.protocol) c.args.cx.now) v m)

-- the slot is told
pub returns-clause-out : goal.returns-clause-out
returns-clause-out g c = λ v m.
    c.in_ok-grow.ensures ∙ ap (λ slot. joined c.args.out.now (record { made = []; packets = []; grew = (c.args.h, slot) ∷ [] })) (c.log_len-slot.ensures (scope_of (g.P.Protocol.rules c.args.cx.now.protocol) c.args.cx.now) v m)

use Rattle.std.proofs.Common.{◌≡◌, drop}
use Rattle.nys_node.specs.Replies.{kept_among}
use Rattle.nys_sending.specs.Receivers.{replied}
use Rattle.nys_rules.specs.Packets.{joined}
use Rattle.nys_node.proofs.node.Node.reply_kept.Given as goal

-- what was sent, with those of the slot that are left, is all
abbrev pub invariant-loop-i : goal.invariant-loop-i
invariant-loop-i g l = let me = l.self.me in
    joined l.out (replied me l.asker (kept_among l.self.epoch l.h l.slot (drop l.i l.kept)))
    ≡ joined l.fn.out (replied me l.asker (kept_among l.self.epoch l.h l.slot l.kept))

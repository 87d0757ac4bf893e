use Rattle.std.proofs.Common.{◌≡◌, ◌++◌, drop, map}
use Rattle.nys_sending.specs.Receivers.{framed}
use Rattle.nys_sending.proofs.sending.send_each.Given as goal

-- the packets so far, with those for the receivers left, are all
abbrev pub invariant-loop-to : goal.invariant-loop-to
invariant-loop-to l = l.packets.items ++ map (framed l.from l.frame) (drop l.to-index l.receivers) ≡ l.fn.packets.items ++ map (framed l.from l.frame) l.receivers

use Rattle.std.proofs.Common.{◌≡◌, map, take}
use Rattle.nys_sending.specs.Receivers.{tagged}
use Rattle.nys_sending.proofs.sending.tag_each.Given as goal

-- the receivers so far have their tags
abbrev pub invariant-loop-receiver : goal.invariant-loop-receiver
invariant-loop-receiver l = l.tags ≡ map (tagged l.keys l.maker l.bytes) (take l.receiver-index l.receivers)

use Rattle.std.proofs.Common.{◌≡◌, ◌++◌, drop}
use Rattle.nys_rules.specs.Sending.{others}
use Rattle.nys_sending.proofs.sending.others.Given as goal

-- what is kept, with the others that are left, is all others
abbrev pub invariant-loop-receiver : goal.invariant-loop-receiver
invariant-loop-receiver l = l.kept.items ++ others l.me (drop l.receiver-index l.receivers) ≡ others l.me l.receivers

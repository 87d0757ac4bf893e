use Rattle.std.proofs.Common.{◌≡◌, drop}
use Rattle.nys_meaning.specs.Stmts as s
use Rattle.nys_handler.proofs.activation.Activation.send_all.Given as goal

-- the sends that are left do what all sends do
abbrev pub invariant-loop-host : goal.invariant-loop-host
invariant-loop-host l = s.sends l.payload (drop l.host-index l.to) l.self ≡ s.sends l.fn.payload l.fn.to l.fn.self

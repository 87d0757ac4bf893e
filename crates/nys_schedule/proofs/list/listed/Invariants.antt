use Rattle.std.proofs.Common.{◌≡◌, ◌∷◌, take}
use Rattle.nys_schedule.proofs.list.listed.Given as goal

-- the parties so far are those in front
abbrev pub invariant-loop-number : goal.invariant-loop-number
invariant-loop-number l = l.parties ≡ l.first ∷ take l.number-index l.rest

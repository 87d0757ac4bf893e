-- The parties so far.
use Rattle.std.proofs.Common.{◌≡◌, take}
use Rattle.nys_world.proofs.lists.party_list.Given as goal

abbrev pub invariant-loop-i : goal.invariant-loop-i
invariant-loop-i l = l.parties.items ≡ take l.i l.to

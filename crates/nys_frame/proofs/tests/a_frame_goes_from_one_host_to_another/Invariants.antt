use Rattle.std.proofs.Common.{◌≡◌, Some}
use Rattle.nys_frame.proofs.tests.a_frame_goes_from_one_host_to_another.Given as goal

-- the links stay connected for two hosts
abbrev pub invariant-loop : goal.invariant-loop
invariant-loop g l = l.links.hosts ≡ Some 2

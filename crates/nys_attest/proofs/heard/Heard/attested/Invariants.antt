-- What the rest finds is what all seats find.
use Rattle.std.proofs.Common.{◌≡◌, drop, length}
use Rattle.std.specs.Prelude.{find, nat_lt}
use Rattle.nys_votes.specs.Attested.{attests_for}
use Rattle.nys_votes.specs.Seats.{passes}
use Rattle.nys_attest.proofs.heard.Heard.attested.Given as goal

abbrev pub invariant-loop-maker : goal.invariant-loop-maker
invariant-loop-maker l =
    (find (passes (λ payload. nat_lt l.t (attests_for payload l.self))) (drop l.maker l.self)
    ≡ find (passes (λ payload. nat_lt l.t (attests_for payload l.self))) l.self)
    × (length l.self ≡ 32)

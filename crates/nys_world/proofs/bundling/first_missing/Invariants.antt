-- The packets so far were sent, so the first that wasn't is among the rest.
use Rattle.std.proofs.Common.{◌≡◌, ℕ, ◌<◌, drop, get_or, not}
use Rattle.std.specs.Prelude.{find, nat_lt}
use Rattle.nys_world.proofs.bundling.first_missing.Given as goal

abbrev pub invariant-loop-k : goal.invariant-loop-k
invariant-loop-k l =
    (find (λ k. not (nat_lt k l.have)) (drop l.k-index l.packets) ≡ find (λ k. not (nat_lt k l.have)) l.packets)
    × ((i : ℕ) → i < l.k-index → get_or l.packets i 0 < l.have)

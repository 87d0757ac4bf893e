use Rattle.std.proofs.Common.{◌≡◌, ℤ, List, length, ap, ◌∙◌, arith}
use Rattle.nys_wire.proofs.Payloads.{length-numbers_in}
use Rattle.nys_wire.proofs.payload.PayloadRef.owned.Goals as goal

pub payload_of-requires-clause-some : goal.payload_of-requires-clause-some
payload_of-requires-clause-some c =
    let is : length c.as_slice.result.now ≡ c.self.inside.count =
    ap (λ (l : List ℤ). length l) (c.as_slice.ensures.value ∙ c.in_ok-numbers.ensures) ∙ length-numbers_in c.self.inside.count c.self.inside.numbers.now in
    omega (arith, is, c.self.invariant.some)

pub payload_of-requires-clause-few : goal.payload_of-requires-clause-few
payload_of-requires-clause-few c =
    let is : length c.as_slice.result.now ≡ c.self.inside.count =
    ap (λ (l : List ℤ). length l) (c.as_slice.ensures.value ∙ c.in_ok-numbers.ensures) ∙ length-numbers_in c.self.inside.count c.self.inside.numbers.now in
    omega (arith, is, c.self.invariant.few)

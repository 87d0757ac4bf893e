use Rattle.std.proofs.Common.{rules, w64, ◌≡◌, ℤ, ℕ, suc, ◌-◌, ◌+◌, List, [], ◌∷◌, ◌++◌, take, ap, ◌∙◌, arith}
use Rattle.std.specs.Prelude.{FitsSigned}
use Rattle.std.proofs.lemmas.Int.{to_z-of_z}
use Rattle.nys_wire.specs.InPlace.{number_of, numbers_in}
use Rattle.nys_wire.proofs.Payloads.{numbers_next, numbers_done}
use Rattle.nys_wire.proofs.payload.numbers.Goals as goal

-- none is taken yet
pub loop-init : goal.loop-init
loop-init c =
    let bytes = c.args.bytes.now in
    let all : c.args.count - 0 ≡ c.args.count = omega arith in (
      ap (λ (l : List ℤ). l ++ numbers_in (c.args.count - 0) bytes) c.new-numbers.ensures.items ∙ ap (λ (k : ℕ). numbers_in k bytes) all,
      omega (arith, c.requires),
    )

pub split_at-requires : goal.split_at-requires
split_at-requires c = omega (arith, c.loop.invariant.1, c.loop-test.true)

-- one number more is taken
pub loop-preserved : goal.loop-preserved
loop-preserved c =
    let left = c.loop.left.now in
    let n = c.args.count - (c.loop.counter + 1) in
    let one : c.args.count - c.loop.counter ≡ suc n = omega (arith, c.loop-test.true) in
    let item : c.number_of.result ≡ number_of (take 8 left) = c.number_of.ensures ∙ ap (λ (l : List ℕ). number_of l) c.split_at.ensures.front in
    let fits : FitsSigned w64 c.number_of.result = search rules in
    let grown : c.push.new.self.items ≡ c.loop.numbers.items ++ (number_of (take 8 left) ∷ []) =
    c.in_ok-push.ensures.items ∙ ap (λ (z : ℤ). c.loop.numbers.items ++ (z ∷ [])) (to_z-of_z w64 c.number_of.result fits ∙ item) in (
      ap (λ (l : List ℤ). l ++ numbers_in n c.split_at.result.1.now) grown
          ∙ ap (λ (l : List ℕ). (c.loop.numbers.items ++ (number_of (take 8 left) ∷ [])) ++ numbers_in n l) c.split_at.ensures.back
          ∙ numbers_next c.loop.numbers.items _ _ n left one c.loop.invariant.0,
      omega (arith, one, c.loop.invariant.1, c.split_at.ensures.back_len),
    )

-- all are taken
pub returns : goal.returns
returns c = numbers_done _ _ _ c.loop.left.now (omega (arith, c.loop-test.false)) c.loop.invariant.0

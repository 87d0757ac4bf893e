use Rattle.std.proofs.Common.{◌<◌, ℕ, Option, Some, length, drop, ◌+◌, sym, ◌∙◌, ap, arith}
use Rattle.std.proofs.lemmas.Bool.Decides.{nat_tests}
use Rattle.std.proofs.lemmas.List.{at_drop_more, at_drop_all}
use Rattle.nys_text.proofs.NumberLemmas.{digits_on, numeral_below_empty, numeral_below_is}
use Rattle.nys_text.proofs.number.numeral.Goals as goal

pub returns-then-is_empty-clause-value : goal.returns-then-is_empty-clause-value
returns-then-is_empty-clause-value c = numeral_below_empty c.args.limit c.args.word.now (grind (arith, nat_tests))

pub returns-in_err-value-clause-value : goal.returns-in_err-value-clause-value
returns-in_err-value-clause-value c =
    let some : 0 < length c.args.word.now = omega arith in
    let step = at_drop_more (digits_on c.args.limit (Some c.loop-digit.value)) c.args.word.now c.loop-digit.digit-index 0 c.loop-digit-test.true in
    let none = ap (λ (o : Option ℕ). digits_on c.args.limit o (drop (c.loop-digit.digit-index + 1) c.args.word.now)) c.in_err-value.ensures.value in
    numeral_below_is c.args.limit c.args.word.now _ c.requires some (c.from_residual.ensures ∙ none ∙ sym step ∙ c.loop-digit.invariant.value)

pub returns-clause-value : goal.returns-clause-value
returns-clause-value c =
    let some : 0 < length c.args.word.now = grind (arith, nat_tests) in
    let all = at_drop_all (digits_on c.args.limit (Some c.loop-digit.value)) c.args.word.now c.loop-digit.digit-index c.loop-digit-test.false in
    numeral_below_is c.args.limit c.args.word.now _ c.requires some (sym all ∙ c.loop-digit.invariant.value)

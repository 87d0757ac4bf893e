-- the last message of the link that was found has the number before
use Rattle.std.proofs.Common.{◌≡◌, ◌+◌, ◌-◌, ◌<◌, ◌∙◌, length, ap, sym, arith}
use Rattle.nys_source_commands.specs.Numbers.{link_of, number_on_link}
use Rattle.nys_source_commands.proofs.NumberLemmas.{number-first, number-found, number-le, number-other}
use Rattle.nys_source_commands.proofs.numbering.next_number.Goals as goal

pub overflow_add-result : goal.overflow_add-result
overflow_add-result c =
    let messages = c.args.messages.now in
    let before = c.args.at - 1 - c.loop-back.back in
    let inside : before < c.args.at = omega (arith, c.loop-back-test.true) in
    omega (arith, c.requires.numbers.each before inside, number-le messages before (link_of messages before), c.requires.here, c.requires.few)

pub returns-then-is_on : goal.returns-then-is_on
returns-then-is_on c =
    let messages = c.args.messages.now in
    let link = link_of messages c.args.at in
    let before = c.args.at - 1 - c.loop-back.back in
    let inside : before < c.args.at = omega (arith, c.loop-back-test.true) in
    let within : before < length messages = omega (arith, inside, c.requires.here) in
    let next : before + 1 ≡ c.args.at - c.loop-back.back = omega (arith, c.loop-back-test.true) in
    number-found c.args.numbers.now messages c.args.at before link c.requires.numbers inside within (sym c.is_on.ensures ∙ c.if-is_on.true)
    ∙ ap (λ k. number_on_link messages k link) next
    ∙ sym c.loop-back.invariant

pub loop-back-preserved : goal.loop-back-preserved
loop-back-preserved c =
    let messages = c.args.messages.now in
    let link = link_of messages c.args.at in
    let before = c.args.at - 1 - c.loop-back.back in
    let within : before < length messages = omega (arith, c.loop-back-test.true, c.requires.here) in
    let next : c.args.at - c.loop-back.back ≡ before + 1 = omega (arith, c.loop-back-test.true) in
    let same : before ≡ c.args.at - (c.loop-back.back + 1) = omega arith in
    c.loop-back.invariant
    ∙ ap (λ k. number_on_link messages k link) next
    ∙ number-other messages before link within (sym c.is_on.ensures ∙ c.if-is_on.false)
    ∙ ap (λ k. number_on_link messages k link) same

pub returns : goal.returns
returns c =
    let messages = c.args.messages.now in
    let link = link_of messages c.args.at in
    let none : c.args.at - c.loop-back.back ≡ 0 = omega (arith, c.loop-back-test.false) in
    sym (c.loop-back.invariant ∙ ap (λ k. number_on_link messages k link) none ∙ number-first messages link)

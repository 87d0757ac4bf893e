-- the number that is read is the one that the word writes, where the word is printed for it
use Rattle.std.proofs.Common.{◌≡◌, ◌<◌, ◌^◌, Ok, true, sym, ◌∙◌, subst, arith}
use Rattle.std.proofs.lemmas.Slice.Eq.{bytes_eq-Decides}
use Rattle.nys_words.proofs.NumberLemmas.{IsWritten, number_none, written_number}
use Rattle.nys_words.proofs.request.number.Goals as goal
use Rattle.nys_words.proofs.request.number.Goals.{else-eq-via-then-eq+then-low-value+else-value-high, else-eq-via-then-eq+else-low-value, else-eq-via-else-eq}

pub returns-then-value-high-clause-value : goal.returns-then-value-high-clause-value
returns-then-value-high-clause-value c =
    let high = c.ranges.high.fits in
    let below = c.if-value-high.true in
    let small : c.in-Ok.value < 2 ^ 64 = omega (arith, high, below) in
    let same : c.format.result.now ≡ c.args.word.now = (bytes_eq-Decides c.format.result.now c.args.word.now).0 (sym c.eq.ensures ∙ c.if-eq.true) in
    written_number c.args.low c.args.high c.args.word.now c.in-Ok.value small
    (record { printed = sym c.format.ensures.text ∙ same; least = c.if-low-value.true; most = below })

pub returns-else-eq-clause-value : goal.returns-else-eq-clause-value
returns-else-eq-clause-value c =
    number_none c.args.low c.args.high c.args.word.now c.parse.result c.ranges.high.fits c.parse.ensures.value.0
    (λ n is written.
    let here : Ok c.in-Ok.value ≡ Ok n = sym c.in-Ok.is ∙ is in
    let same : n ≡ c.in-Ok.value = cc in
    let own = subst (IsWritten c.args.low c.args.high c.args.word.now) same written in
    let equal : c.eq.result ≡ true = c.eq.ensures ∙ (bytes_eq-Decides c.format.result.now c.args.word.now).1 (c.format.ensures.text ∙ own.printed) in
    elim c.else-eq.branch [
      | else-eq-via-then-eq+then-low-value+else-value-high w ↦ (let l = own.least in let m = own.most in let x = w.if-value-high.false in absurd (omega (arith, l, m, x)))
      | else-eq-via-then-eq+else-low-value w ↦ (let l = own.least in let x = w.if-low-value.false in absurd (omega (arith, l, x)))
      | else-eq-via-else-eq w ↦ absurd (let f = w.if-eq.false in cc)
    ])

pub returns-in_default-clause-value : goal.returns-in_default-clause-value
returns-in_default-clause-value c =
    number_none c.args.low c.args.high c.args.word.now c.parse.result c.ranges.high.fits c.parse.ensures.value.0
    (λ n is written. c.in_default.not-Ok n is)

use Rattle.std.proofs.Common.{[], length, sym, ap, ◌∙◌, inl, inr, arith}
use Rattle.std.proofs.lemmas.Bool.{cases_eq}
use Rattle.std.proofs.lemmas.Grind.{get_or-set_at}
use Rattle.std.proofs.lemmas.List.{get_or-set_other, length-set}
use Rattle.std.proofs.lemmas.Option.{get_or_from_slice_get, slice_get_within}
use Rattle.nys_source.specs.Tables.{lists_at}
use Rattle.nys_olympus.proofs.Rows.{same_inside}
use Rattle.nys_olympus.proofs.opening.lengths_of.Goals as goal

-- one log more
pub loop-h-preserved : goal.loop-h-preserved
loop-h-preserved c = (
  λ k below. elim (cases_eq k c.loop-h.h) [
    | inl e ↦ get_or-set_at c.loop-h.lengths c.loop-h.h k (length c.items.result.now) 0 e (omega (arith, c.loop-h.invariant.1, c.loop-h-test.true))
        ∙ ap length (c.items.ensures ∙ c.index-logs-h.is ∙ same_inside c.args.logs.now c.loop-h.h c.index-logs-h.result [] (omega (arith, c.requires.rows, c.loop-h-test.true)))
        ∙ ap (λ z. length (lists_at c.args.logs.now z)) (sym e)
    | inr ne ↦ get_or-set_other c.loop-h.lengths c.loop-h.h k (length c.items.result.now) 0 ne ∙ c.loop-h.invariant.0 k (omega (arith, below, ne))
  ],
  length-set c.loop-h.lengths c.loop-h.h (length c.items.result.now) ∙ c.loop-h.invariant.1,
)

-- all logs
pub returns-clause-each : goal.returns-clause-each
returns-clause-each c h n at =
    let within = slice_get_within c.loop-h.lengths h n at in
    sym (get_or_from_slice_get c.loop-h.lengths h n 0 at) ∙ c.loop-h.invariant.0 h (omega (arith, within, c.loop-h.invariant.1, c.loop-h-test.false))

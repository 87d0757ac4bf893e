-- One base after another.
use Rattle.std.proofs.Common.{◌∙◌, ap, cond, nat_lt, None, sym, refl, arith}
use Rattle.std.specs.Prelude.{unwrap_or}
use Rattle.std.proofs.lemmas.Option.{get_or_from_slice_get}
use Rattle.nys_rules.specs.Noting.{bases}
use Rattle.nys_source.specs.Tables.{put}
use Rattle.nys_node.proofs.EnteringLemmas.{first_of, put_next, table_alike, table_same}
use Rattle.nys_sending.proofs.TableLemmas.{table_put}
use Rattle.nys_node.proofs.opening.bases_by.Goals as goal

-- at first all are 0
pub loop-h-init : goal.loop-h-init
loop-h-init c =
    table_same _ (λ _. 0) _ (table_alike 32 _ 0 refl refl) (λ k. first_of k (bases c.args.lengths.now k) 0)

-- the base of one host more
pub loop-h-preserved : goal.loop-h-preserved
loop-h-preserved c =
    table_same _ (put (λ k. cond (nat_lt k c.loop-h.h) (bases c.args.lengths.now k) 0) c.loop-h.h (bases c.args.lengths.now c.loop-h.h)) _
    (table_put c.loop-h.found _ c.loop-h.h c.unwrap_or.result (bases c.args.lengths.now c.loop-h.h) c.loop-h.invariant
    (omega (arith, c.loop-h-test.true, c.len-count.ensures.size, c.len-count.ensures.rule.few))
    (c.unwrap_or.ensures ∙ ap (λ o. unwrap_or o 0) (sym (get_or_from_slice_get c.args.lengths.now c.loop-h.h c.get.result.now None c.get.ensures.member))))
    (λ k. put_next (bases c.args.lengths.now) 0 c.loop-h.h k)

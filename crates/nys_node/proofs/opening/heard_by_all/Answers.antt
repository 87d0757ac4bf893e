-- One host after another.
use Rattle.std.proofs.Common.{◌+◌, length, refl, subst, sym, rules, arith}
use Rattle.std.proofs.lemmas.Option.{slice_get_read}
use Rattle.nys_node.specs.Entering.{AreRows, HearsNothing}
use Rattle.nys_node.proofs.EnteringLemmas.{most_are, rows_more, rows_none}
use Rattle.nys_node.proofs.opening.heard_by_all.Goals as goal

-- of no host
pub loop-i-init : goal.loop-i-init
loop-i-init g c = λ protocol logs kept known rows. rows_none _ (λ h table. HearsNothing protocol h (logs h) table) (search rules)

-- of one host more
pub loop-i-preserved : goal.loop-i-preserved
loop-i-preserved g c = λ protocol logs kept known rows.
    subst (λ tables. AreRows (c.loop-i.i + 1) tables (λ h table. HearsNothing protocol h (logs h) table)) (sym c.in_ok-push.ensures.items)
    (rows_more c.loop-i.i c.loop-i.tables.items (λ h table. HearsNothing protocol h (logs h) table) _ (c.loop-i.invariant protocol logs kept known rows)
    (c.in_ok-table.ensures protocol c.loop-i.i (logs c.loop-i.i) (kept c.loop-i.i) (known c.loop-i.i) (rows.each c.loop-i.i _
    (slice_get_read c.args.replicas.now (length c.args.replicas.now) c.loop-i.i c.index-replicas-i.result refl c.loop-i-test.true
    c.index-replicas-i.is))))

-- of all
pub returns : goal.returns
returns g c = λ protocol logs kept known rows.
    subst (λ n. AreRows n c.loop-i.tables.items (λ h table. HearsNothing protocol h (logs h) table))
    (most_are c.loop-i.i 32 (omega (arith, c.loop-i.auto.i-end, rows.size)) (omega (arith, c.loop-i-test.false, rows.size)))
    (c.loop-i.invariant protocol logs kept known rows)

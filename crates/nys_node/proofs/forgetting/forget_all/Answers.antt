-- One host after another.
use Rattle.std.proofs.Common.{ap, cond, ℕ, length, nat_lt, subst, ◌+◌, ◌∙◌, arith}
use Rattle.std.specs.Prelude.{slice_index_or}
use Rattle.nys_hosts.specs.Sets.{has}
use Rattle.nys_rules.specs.View.{kept_at}
use Rattle.nys_node.specs.Means.{IsReplicaOf}
use Rattle.nys_node.proofs.EnteringLemmas.{rows_same}
use Rattle.nys_node.proofs.ForgetLemmas.{changed_all, changed_first, changed_next}
use Rattle.nys_node.proofs.RowLemmas.{table_read}
use Rattle.nys_node.proofs.forgetting.forget_all.Goals as goal

-- no host yet
pub loop-h-init : goal.loop-h-init
loop-h-init g c = λ protocol logs kept known bases table rows.
    let needed : ℕ → ℕ = λ x. kept_at (has c.args.live.now x) (bases x) (kept x) (length (logs x)) in
    rows_same 32 c.args.replicas.now.items _
    (λ h replica. IsReplicaOf protocol h replica (logs h) (cond (nat_lt h 0) (needed h) (kept h)) (known h)) rows
    (λ k item low is. subst (λ n. IsReplicaOf protocol k item (logs k) n (known k)) (changed_first needed kept k) is)

-- one host more
pub loop-h-preserved : goal.loop-h-preserved
loop-h-preserved g c = λ protocol logs kept known bases table rows.
    let h = c.loop-h.h in
    let needed : ℕ → ℕ = λ x. kept_at (has c.args.live.now x) (bases x) (kept x) (length (logs x)) in
    let before : ℕ → ℕ = λ x. cond (nat_lt x h) (needed x) (kept x) in
    let at = table_read c.args.base bases h 0 table (omega (arith, c.loop-h-test.true)) in
    rows_same 32 c.forget_at.new.replicas.items _
    (λ x replica. IsReplicaOf protocol x replica (logs x) (cond (nat_lt x (h + 1)) (needed x) (kept x)) (known x))
    (c.forget_at.ensures protocol logs before known (c.loop-h.invariant protocol logs kept known bases table rows))
    (λ k item low is. subst (λ n. IsReplicaOf protocol k item (logs k) n (known k))
    (changed_next needed kept (λ n. kept_at c.contains.result (slice_index_or c.args.base h 0) n (length (logs h))) h k
    (ap (λ b. kept_at b (slice_index_or c.args.base h 0) (kept h) (length (logs h))) c.contains.ensures
    ∙ ap (λ n. kept_at (has c.args.live.now h) n (kept h) (length (logs h))) at)) is)

-- all of them
pub returns : goal.returns
returns g c = λ protocol logs kept known bases table rows.
    let needed : ℕ → ℕ = λ x. kept_at (has c.args.live.now x) (bases x) (kept x) (length (logs x)) in
    rows_same 32 c.loop-h.replicas.items _
    (λ x replica. IsReplicaOf protocol x replica (logs x) (needed x) (known x))
    (c.loop-h.invariant protocol logs kept known bases table rows)
    (λ k item low is. subst (λ n. IsReplicaOf protocol k item (logs k) n (known k))
    (changed_all needed kept c.loop-h.h k (omega (arith, low, c.loop-h-test.false))) is)

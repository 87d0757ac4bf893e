-- One host after another.
use Rattle.std.proofs.Common.{◌+◌, ◌||◌, ◌&&◌, nat_lt, subst, rules}
use Rattle.nys_hosts.specs.Sets.{has}
use Rattle.nys_node.specs.Entering.{AreReplicas}
use Rattle.nys_node.specs.Means.{IsReplicaOf}
use Rattle.nys_node.proofs.EnteringLemmas.{more_known, most_are, rows_same}
use Rattle.nys_node.proofs.opening.begin_replicas.Goals as goal

-- one host more
pub loop-h-preserved : goal.loop-h-preserved
loop-h-preserved g c = λ logs kept known rows.
    let rules_ = g.P.Protocol.rules c.args.cx.now.protocol in
    let h = c.loop-h.h in
    rows_same 32 c.begin_guarded.new.replicas.items _
    (λ x replica. IsReplicaOf rules_ x replica (logs x) (kept x) (known x || (nat_lt x (h + 1) && has c.args.guarded.now x)))
    (c.in_ok-begin_guarded.ensures logs kept (λ x. known x || (nat_lt x h && has c.args.guarded.now x)) (c.loop-h.invariant logs kept known rows))
    (λ k item low is. subst (IsReplicaOf rules_ k item (logs k) (kept k)) (more_known known (has c.args.guarded.now) h _ c.contains.ensures k) is)

-- all of them
pub returns : goal.returns
returns g c = λ logs kept known rows.
    let rules_ = g.P.Protocol.rules c.args.cx.now.protocol in
    subst (λ n. AreReplicas rules_ c.loop-h.replicas.items logs kept (λ x. known x || (nat_lt x n && has c.args.guarded.now x)))
    (most_are c.loop-h.h 32 (search rules) (search rules)) (c.loop-h.invariant logs kept known rows)

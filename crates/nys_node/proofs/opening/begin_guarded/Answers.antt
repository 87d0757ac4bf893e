-- One place changes, if any.
use Rattle.std.proofs.Common.{◌||◌, ◌&&◌, ◌==◌, refl, subst, rules, arith, length, inl, inr}
use Rattle.std.proofs.lemmas.Bool.{cases_lt}
use Rattle.std.proofs.lemmas.Option.{slice_get_read}
use Rattle.nys_node.specs.Means.{IsReplicaOf}
use Rattle.nys_node.proofs.EnteringLemmas.{known_below, known_here, known_there, rows_same, rows_set}
use Rattle.nys_node.proofs.opening.begin_guarded.Goals as goal

-- the host is known, and the others as before
pub returns-in_ok-begin_replica : goal.returns-in_ok-begin_replica
returns-in_ok-begin_replica g c = λ logs kept known rows.
    let protocol = g.P.Protocol.rules c.args.cx.now.protocol in
    rows_set 32 c.args.replicas.now.items _ (λ h replica. IsReplicaOf protocol h replica (logs h) (kept h) (known h || ((c.args.h == h) && c.args.guarded)))
    c.args.h c.begin_replica.new.replica rows
    (subst (IsReplicaOf protocol c.args.h c.begin_replica.new.replica (logs c.args.h) (kept c.args.h)) (known_here known c.args.h c.args.guarded (search rules))
    (c.in_ok-begin_replica.ensures (logs c.args.h) (kept c.args.h) (known c.args.h) (rows.each c.args.h _
    (slice_get_read c.args.replicas.now.items (length c.args.replicas.now.items) c.args.h c.in-Some.replica.now refl
    c.in-Some.ensures.item.3.0 c.in-Some.ensures.value))))
    (λ k item ne is. subst (IsReplicaOf protocol k item (logs k) (kept k)) (known_there known c.args.h k c.args.guarded ne) is)

-- the host is past the table
pub returns-in_default : goal.returns-in_default
returns-in_default g c = λ logs kept known rows.
    let protocol = g.P.Protocol.rules c.args.cx.now.protocol in
    rows_same 32 c.args.replicas.now.items _ (λ h replica. IsReplicaOf protocol h replica (logs h) (kept h) (known h || ((c.args.h == h) && c.args.guarded)))
    rows
    (λ k item low is. subst (IsReplicaOf protocol k item (logs k) (kept k)) (known_below known c.args.h k c.args.guarded (elim (cases_lt k c.args.h) [
      | inl before ↦ before
      | inr after ↦ absurd (let there = c.in_default.ensures.variant.1 (omega (arith, after, low, rows.size)) in cc)
    ])) is)

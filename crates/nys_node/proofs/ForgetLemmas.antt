-- A node that forgets entries of logs means the view that keeps as many.
use Rattle.std.proofs.Common.{◌≡◌, ◌≢◌, ℕ, ◌+◌, ◌<◌, Bool, true, cond, nat_lt, List, length, Option, ap, sym, subst, ◌∙◌, inl, inr, arith, lt-ltb, le-ltb}
use Rattle.std.specs.Prelude.{slice_index_or}
use Rattle.std.specs.Vec.{with_item}
use Rattle.std.proofs.lemmas.Bool.{cases_lt}
use Rattle.std.proofs.lemmas.List.{length-set}
use Rattle.std.proofs.lemmas.Option.{slice_get_read}
use Rattle.circular_buffer.proofs.Places.{slice_get-set_other}
use Rattle.nys_agreement.proofs.TableLemmas.{put_case}
use Rattle.nys_bytes.specs.declared.content.Content.{Content}
use Rattle.nys_replica.specs.declared.replica.Replica.{Replica}
use Rattle.nys_rules.specs.Logging.{forgetting}
use Rattle.nys_rules.specs.Scope.{Scope}
use Rattle.nys_rules.specs.View.{is_live, kept_at, length_of, next_number, View}
use Rattle.nys_source.specs.Rules.{Rules}
use Rattle.nys_source.specs.Tables.{put}
use Rattle.nys_node.specs.Means.{IsReplicaOf, Means}
use Rattle.nys_node.specs.declared.node.Node.{Node}
use Rattle.nys_node.proofs.LogLemmas.{put_found}

-- the replica forgot what is needed no more
abbrev pub IsForgottenIn : {P S : Type 0} → Rules S → (old new : Option (Replica P S)) → (live : Bool) → (base : ℕ) → Type 0
IsForgottenIn rules old new live base = (h : ℕ) (log : List Content) (kept : ℕ) (known : Bool) → IsReplicaOf rules h old log kept known
    → IsReplicaOf rules h new log (kept_at live base kept (length log)) known

-- where the replica of h did, the node means the view that does
pub means_forgetting : {P S : Type 0} (scope : Scope S) (node : Node P S) (h base : ℕ) (old new : Option (Replica P S)) → h < 32
    → old ≡ slice_index_or node.replicas.items h old → (v : View) → base ≡ v.base h → IsForgottenIn scope.rules old new true base
    → Means scope node v → Means scope (record node { replicas = with_item node.replicas h new }) (forgetting h v)
unfolding is_live next_number
means_forgetting {P} {S} scope node h base old new below at v same goes m = record {
  me = m.me;
  host = m.host;
  few = m.few;
  epoch = m.epoch;
  within = m.within;
  wedged = m.wedged;
  live = m.live;
  retired = m.retired;
  base = m.base;
  voted_to = m.voted_to;
  waiting = m.waiting;
  room = m.room;
  desks = m.desks;
  slots = m.slots;
  rows = length-set node.replicas.items h new ∙ m.rows;
  replicas = λ x replica found. put_case (λ n. IsReplicaOf scope.rules x replica (v.logs x) n (v.known x)) v.kept_from h kept x
      (λ e. forgotten_at x replica e (put_found node.replicas.items h x new replica (omega (arith, below, m.rows)) e found))
      (λ ne. m.replicas x replica (sym (slice_get-set_other node.replicas.items h x new ne) ∙ found));
  kept = m.kept;
  banks = m.banks;
  links = m.links;
  tables = m.tables;
  heard = m.heard;
}
  where
    kept : ℕ
    kept = kept_at true (v.base h) (v.kept_from h) (length_of v h)

    forgotten_at : (x : ℕ) (replica : Option (Replica P S)) → x ≡ h → replica ≡ new → IsReplicaOf scope.rules x replica (v.logs x) kept (v.known x)
    forgotten_at x replica e is =
        subst (λ r. IsReplicaOf scope.rules x r (v.logs x) kept (v.known x)) (sym is)
        (subst (λ y. IsReplicaOf scope.rules y new (v.logs y) kept (v.known y)) (sym e)
        (subst (λ n. IsReplicaOf scope.rules h new (v.logs h) (kept_at true n (v.kept_from h) (length_of v h)) (v.known h)) same
        (goes h (v.logs h) (v.kept_from h) (v.known h)
        (m.replicas h old (slice_get_read node.replicas.items 32 h old (sym m.rows) below at)))))

-- a number below the next is below it, or is it
same_before : (h k : ℕ) → k ≢ h → nat_lt k h ≡ nat_lt k (h + 1)
same_before h k ne = elim (cases_lt k h) [
  | inl low ↦ lt-ltb k h low ∙ sym (lt-ltb k (h + 1) (omega (arith, low)))
  | inr high ↦ elim (cases_lt h k) [
    | inl above ↦ le-ltb k h high ∙ sym (le-ltb k (h + 1) (omega (arith, above)))
    | inr below ↦ absurd (ne (omega (arith, high, below)))
  ]
]

-- where the hosts before h were changed, and h is now, those before the next are
pub changed_next : (f g change : ℕ → ℕ) (h k : ℕ) → change (g h) ≡ f h
    → put (λ x. cond (nat_lt x h) (f x) (g x)) h (change (cond (nat_lt h h) (f h) (g h))) k ≡ cond (nat_lt k (h + 1)) (f k) (g k)
changed_next f g change h k is =
    put_case (λ y. y ≡ cond (nat_lt k (h + 1)) (f k) (g k)) (λ x. cond (nat_lt x h) (f x) (g x)) h
    (change (cond (nat_lt h h) (f h) (g h))) k
    (λ same.
    ap (λ b. change (cond b (f h) (g h))) (le-ltb h h (omega arith)) ∙ is
    ∙ sym (ap (λ b. cond b (f k) (g k)) (lt-ltb k (h + 1) (omega (arith, same))) ∙ ap f same))
    (λ other. ap (λ b. cond b (f k) (g k)) (same_before h k other))

-- none is before the first
pub changed_first : (f g : ℕ → ℕ) (k : ℕ) → g k ≡ cond (nat_lt k 0) (f k) (g k)
changed_first f g k = ap (λ b. cond b (f k) (g k)) (sym (le-ltb k 0 (omega arith)))

-- all are before the last
pub changed_all : (f g : ℕ → ℕ) (n k : ℕ) → k < n → cond (nat_lt k n) (f k) (g k) ≡ f k
changed_all f g n k low = ap (λ b. cond b (f k) (g k)) (lt-ltb k n low)

-- What one step of a node does to the log and the desk of one host: the node seen from that host alone.
use Rattle.std.proofs.Common.{◌≡◌, ℕ, ◌<◌, ◌==◌, Bool, true, false, List, [], ◌∷◌, ◌++◌, None, refl, ap, sym, subst, ◌∙◌, inl, inr}
use Rattle.std.specs.Prelude.{if◌then◌else◌}
use Rattle.std.proofs.lemmas.Bool.{cases_eq}
use Rattle.nys_agreement.proofs.TableLemmas.{put_here, put_there}
use Rattle.nys_bytes.specs.declared.content.Content.{Content}
use Rattle.nys_source.specs.Tables.{put}
use Rattle.nys_stmt.specs.declared.records.Record.{Record}
use Rattle.nys_stmt.specs.declared.statement.Body.{Body}
use Rattle.nys_stmt.specs.declared.statement.Body.TheVariants as body
use Rattle.nys_stmt.specs.declared.statement.FilledKind.TheVariants as kind
use Rattle.nys_stmt.specs.declared.tags.Tags.{Tags}
use Rattle.nys_rules.specs.declared.rule.Rule.{Rule}
use Rattle.nys_rules.specs.declared.rule.Rule.TheVariants.{Attest, Certificate, Deliver, Log, Offer, Order}
use Rattle.nys_rules.specs.Dropping.{accepted, misplaced, misplaced_body, untagged, verdict}
use Rattle.nys_rules.specs.Heads.{with_heads}
use Rattle.nys_rules.specs.Logging.{logged}
use Rattle.nys_rules.specs.Noting.{at_desk, noted, noted_body, with_attests, with_certificate, with_held, with_orders, with_votes}
use Rattle.nys_rules.specs.Scope.{quorum_at, Scope}
use Rattle.nys_rules.specs.Taking.{taken, with_deliver, with_offer, with_order, with_sent}
use Rattle.nys_rules.specs.View.{Desk, empty_desk, entering, View, with_links}
use Rattle.nys_rules.proofs.SearchLemmas.{or_none}
use Rattle.nys_laws.proofs.ViewLemmas.{open_later}

-- how a desk changes while the log stays: the node's own host is `me`
pub data DeskMoves (me : ℕ) (desk next : Desk) : Type 0 where
  Rests : next ≡ desk → DeskMoves me desk next
  Offers : (c : Content) → next ≡ with_offer c desk → DeskMoves me desk next
  Holds : (c : Content) → next ≡ with_held c desk → DeskMoves me desk next
  Orders : (at_host : Bool) (c : Content) (tags : List (ℕ × List ℕ))
      → next ≡ with_order at_host me c tags desk → DeskMoves me desk next
  Collects : (c : Content) (makers : List Tags) → next ≡ with_orders c makers desk → DeskMoves me desk next
  Certifies : (q : ℕ) (c : Content) (makers : List Tags) → next ≡ with_certificate q c makers desk
      → DeskMoves me desk next
  Sends : next ≡ with_sent desk → DeskMoves me desk next
  Delivers : (c : Content) (tags : List (ℕ × List ℕ)) → next ≡ with_deliver me c tags desk
      → DeskMoves me desk next
  Votes : (c : Content) (makers : List Tags) → next ≡ with_votes c makers desk → DeskMoves me desk next

-- the node is in the same epoch, as that began for h
pub record StaysIn (h : ℕ) (v next : View) : Type 0 where
  pub me : next.me ≡ v.me
  pub epoch : next.epoch ≡ v.epoch
  pub base : next.base h ≡ v.base h
  pub retired : next.retired h ≡ v.retired h

-- what a step does to the log and the desk of h
pub data HostMoves (h : ℕ) (v next : View) : Type 0 where
  -- the log stays
  Waits : StaysIn h v next → next.logs h ≡ v.logs h → DeskMoves v.me (v.desks h) (next.desks h)
      → HostMoves h v next
  -- it takes an entry
  Grows : StaysIn h v next → (c : Content) → next.logs h ≡ v.logs h ++ c ∷ [] → next.desks h ≡ empty_desk
      → HostMoves h v next
  -- a later epoch begins
  Enters : next.me ≡ v.me → v.epoch < next.epoch → next.logs h ≡ v.logs h → next.desks h ≡ empty_desk
      → HostMoves h v next

-- a desk is changed, of this host or another
desk_moves : (h x : ℕ) (change : Desk → Desk) (v next : View) → StaysIn h v next → next.logs h ≡ v.logs h
    → next.desks ≡ put v.desks x (change (v.desks x)) → DeskMoves v.me (v.desks x) (change (v.desks x))
    → HostMoves h v next
desk_moves h x change v next stays logs desks moves = elim (cases_eq h x) [
  | inl same ↦ Waits stays logs
      (subst (λ (d : Desk). DeskMoves v.me (v.desks h) d)
      (sym (ap (λ (f : ℕ → Desk). f h) desks ∙ (ap (put v.desks x (change (v.desks x))) same ∙ put_here v.desks x (change (v.desks x)))))
      (subst (λ y. DeskMoves v.me (v.desks y) (change (v.desks x))) (sym same) moves))
  | inr other ↦ Waits stays logs
      (Rests (ap (λ (f : ℕ → Desk). f h) desks ∙ put_there v.desks x (change (v.desks x)) h other))
]

-- a log takes an entry, of this host or another
log_moves : (h x : ℕ) (c : Content) (v next : View) → StaysIn h v next
    → next.logs ≡ put v.logs x (v.logs x ++ c ∷ [])
    → next.desks ≡ put v.desks x empty_desk → HostMoves h v next
log_moves h x c v next stays logs desks = elim (cases_eq h x) [
  | inl same ↦ Grows stays c
      (ap (λ (f : ℕ → List Content). f h) logs
      ∙ (ap (put v.logs x (v.logs x ++ c ∷ [])) same ∙ (put_here v.logs x (v.logs x ++ c ∷ [])
      ∙ ap (λ y. v.logs y ++ c ∷ []) (sym same))))
      (ap (λ (f : ℕ → Desk). f h) desks ∙ (ap (put v.desks x empty_desk) same ∙ put_here v.desks x empty_desk))
  | inr other ↦ Waits stays
      (ap (λ (f : ℕ → List Content). f h) logs ∙ put_there v.logs x (v.logs x ++ c ∷ []) h other)
      (Rests (ap (λ (f : ℕ → Desk). f h) desks ∙ put_there v.desks x empty_desk h other))
]

-- each rule that is taken
pub rule_moves : {S : Type 0} (scope : Scope S) (v : View) (rule : Rule) (h : ℕ)
    → HostMoves h v (taken scope v rule)
unfolding with_heads logged with_links
rule_moves scope v (Offer x c) h =
    desk_moves h x (with_offer c) v _ (record { me = refl; epoch = refl; base = refl; retired = refl }) refl refl (Offers c refl)
rule_moves scope v (Order x c) h =
    desk_moves h x (with_order (v.me == x) v.me c _) v _ (record { me = refl; epoch = refl; base = refl; retired = refl }) refl refl
    (Orders (v.me == x) c _ refl)
rule_moves scope v (Certificate x c) h =
    desk_moves h x with_sent v _ (record { me = refl; epoch = refl; base = refl; retired = refl }) refl refl (Sends refl)
rule_moves scope v (Deliver x c) h =
    desk_moves h x (with_deliver v.me c _) v _ (record { me = refl; epoch = refl; base = refl; retired = refl }) refl refl
    (Delivers c _ refl)
rule_moves scope v (Log x c) h =
    log_moves h x c v _ (record { me = refl; epoch = refl; base = refl; retired = refl }) refl refl
rule_moves scope v (Attest p x n payload) h =
    Waits (record { me = refl; epoch = refl; base = refl; retired = refl }) refl (Rests refl)

-- each kind of record
body_moves : {S : Type 0} (scope : Scope S) (e : ℕ) (said : Body) (makers : List Tags) (v : View) (h : ℕ)
    → misplaced_body scope v e said ≡ None → HostMoves h v (noted_body scope e said makers v)
unfolding with_heads with_attests logged with_links entering
body_moves scope e (body.Filled kind.Offer x slot c) makers v h is =
    desk_moves h x (with_held c) v _ (record { me = refl; epoch = refl; base = refl; retired = refl }) refl refl (Holds c refl)
body_moves {S} scope e (body.Filled kind.Order x slot c) makers v h is = by (v.me == x)
  where
    by : (b : Bool) → HostMoves h v (if b then at_desk x (with_orders c makers) v
        else at_desk x (with_certificate (quorum_at scope v.epoch x) c makers) v)
    by true = desk_moves h x (with_orders c makers) v _ (record { me = refl; epoch = refl; base = refl; retired = refl }) refl refl
        (Collects c makers refl)
    by false = desk_moves h x (with_certificate (quorum_at scope v.epoch x) c makers) v _
        (record { me = refl; epoch = refl; base = refl; retired = refl }) refl refl (Certifies (quorum_at scope v.epoch x) c makers refl)
body_moves scope e (body.Filled kind.Deliver x slot c) makers v h is =
    desk_moves h x (with_votes c makers) v _ (record { me = refl; epoch = refl; base = refl; retired = refl }) refl refl
    (Votes c makers refl)
body_moves scope e (body.Filled kind.Report x slot c) makers v h is = absurd (cc)
body_moves scope e (body.Filled kind.Inherit x slot c) makers v h is =
    log_moves h x c v _ (record { me = refl; epoch = refl; base = refl; retired = refl }) refl refl
body_moves scope e (body.Attest p x n payload) makers v h is =
    Waits (record { me = refl; epoch = refl; base = refl; retired = refl }) refl (Rests refl)
body_moves scope e (body.Ask x slot) makers v h is =
    Waits (record { me = refl; epoch = refl; base = refl; retired = refl }) refl (Rests refl)
body_moves scope e body.Wedge makers v h is =
    Waits (record { me = refl; epoch = refl; base = refl; retired = refl }) refl (Rests refl)
body_moves scope e (body.Frozen x slot) makers v h is = absurd (cc)
body_moves scope e (body.Open lengths) makers v h is = Enters refl (open_later scope v e lengths is) refl refl

-- a record that isn't dropped
pub record_moves : {S : Type 0} (scope : Scope S) (v : View) (r : Record) (h : ℕ) → verdict scope v r ≡ None
    → HostMoves h v (noted scope v r)
unfolding verdict misplaced noted
record_moves scope v r h is =
    let makers = accepted scope r.statement.epoch v.me r in
    body_moves scope r.statement.epoch r.statement.body makers v h
    (or_none (misplaced_body scope v r.statement.epoch r.statement.body) (untagged makers) is).0

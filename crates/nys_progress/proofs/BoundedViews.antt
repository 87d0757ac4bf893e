-- Numbers of a node that fit the bytes of its records: its own, its epoch, and the slot of its offer.
use Rattle.std.proofs.Common.{◌≡◌, ℕ, zero, suc, ◌<◌, ◌≤◌, ◌==◌, ◌&&◌, Bool, true, false, ℤ, List, [], ◌∷◌, ◌++◌, length, Some, None, refl, ap, sym, subst, ◌∙◌, inl, inr, arith}
use Rattle.std.specs.Prelude.{if◌then◌else◌, nat_lt, is_none, Option}
use Rattle.std.proofs.lemmas.Bool.{cases_eq}
use Rattle.std.proofs.lemmas.Bool.Decides.{Decides-ltb}
use Rattle.nys_agreement.proofs.TableLemmas.{put_case, put_here, put_there}
use Rattle.nys_bytes.specs.declared.content.Content.{Content}
use Rattle.nys_source.specs.Tables.{put}
use Rattle.nys_votes.specs.Ordered.{is_ordered}
use Rattle.nys_stmt.specs.declared.records.Record.{Record}
use Rattle.nys_stmt.specs.declared.statement.Body.{Body}
use Rattle.nys_stmt.specs.declared.statement.Body.TheVariants as body
use Rattle.nys_stmt.specs.declared.statement.FilledKind.TheVariants as kind
use Rattle.nys_stmt.specs.declared.tags.Tags.{Tags}
use Rattle.nys_rules.specs.declared.rule.Rule.{Rule}
use Rattle.nys_rules.specs.declared.rule.Rule.TheVariants.{Attest, Certificate, Deliver, Log, Offer, Order}
use Rattle.nys_rules.specs.Dropping.{accepted, misplaced, misplaced_body, open_drop, untagged, verdict}
use Rattle.nys_rules.specs.Heads.{with_heads}
use Rattle.nys_rules.specs.Logging.{logged}
use Rattle.nys_rules.specs.Noting.{at_desk, collected, is_content, noted, noted_body, orderers, with_attests, with_certificate, with_held, with_orders, with_votes}
use Rattle.nys_rules.specs.Packets.{Acts}
use Rattle.nys_rules.specs.Rules.{Enabled}
use Rattle.nys_rules.specs.Scope.{quorum_at, Scope}
use Rattle.nys_rules.specs.Taking.{taken, with_deliver, with_offer, with_order, with_sent}
use Rattle.nys_rules.specs.View.{Desk, empty_desk, entering, first_view, length_of, View, with_links}
use Rattle.nys_rules.specs.World.{fresh_world, Setting, World}
use Rattle.nys_rules.proofs.CertificateLemmas.{both_true}
use Rattle.nys_rules.proofs.SearchLemmas.{or_none}
use Rattle.nys_laws.proofs.GrownLemmas.{with_step}
use Rattle.nys_laws.proofs.HeardLemmas.{passed_on}
use Rattle.nys_laws.proofs.OpenLemmas.{offer_open}

-- a slot in which an offer stands is below 1,024
abbrev Room : (ℕ → List Content) → (ℕ → Desk) → Type 0
Room logs desks = (h : ℕ) (c : Content) → (desks h).offered ≡ Some c → length (logs h) < 1024

-- the view is that of g, in an epoch of the scenario, and its offers stand in slots below 1,024
pub record IsBounded {S : Type 0} (scope : Scope S) (g : ℕ) (v : View) : Type 0 where
  pub me : v.me ≡ g
  pub epoch : v.epoch < scope.epochs
  pub room : (h : ℕ) (c : Content) → (v.desks h).offered ≡ Some c → length_of v h < 1024

-- a desk of x that changes, but for its offer
desk_room : (x : ℕ) (change : Desk → Desk) (logs : ℕ → List Content) (desks : ℕ → Desk)
    → ((d : Desk) → (change d).offered ≡ d.offered) → Room logs desks → Room logs (put desks x (change (desks x)))
desk_room x change logs desks same room h c =
    put_case (λ (d : Desk). d.offered ≡ Some c → length (logs h) < 1024) desks x (change (desks x)) h
    (λ at is. room h c (subst (λ y. (desks y).offered ≡ Some c) (sym at) (sym (same (desks x)) ∙ is)))
    (λ ne is. room h c is)

-- a log of x that takes an entry
log_room : (x : ℕ) (log : List Content) (logs : ℕ → List Content) (desks : ℕ → Desk) → Room logs desks
    → Room (put logs x log) (put desks x empty_desk)
log_room x log logs desks room h c is = elim (cases_eq h x) [
  | inl same ↦ absurd (let none = sym (ap (λ (d : Desk). d.offered) (ap (put desks x empty_desk) same ∙ put_here desks x empty_desk)) ∙ is in cc)
  | inr other ↦
      subst (λ n. n < 1024) (sym (ap length (put_there logs x log h other)))
      (room h c (sym (ap (λ (d : Desk). d.offered) (put_there desks x empty_desk h other)) ∙ is))
]

-- each rule that is enabled
pub rule_bounded : {S : Type 0} (scope : Scope S) (g : ℕ) (v : View) (rule : Rule) → Enabled scope v rule
    → IsBounded scope g v → IsBounded scope g (taken scope v rule)
unfolding with_heads logged with_links with_offer with_order with_sent with_deliver
rule_bounded scope g v (Offer x content) may k = record {
  me = k.me;
  epoch = k.epoch;
  room = λ h c.
      put_case (λ (d : Desk). d.offered ≡ Some c → length (v.logs h) < 1024) v.desks x (with_offer content (v.desks x)) h
      (λ at is. subst (λ y. length (v.logs y) < 1024) (sym at) (offer_open scope v x content may).room)
      (λ ne is. k.room h c is);
}
rule_bounded scope g v (Order x content) may k = record {
  me = k.me;
  epoch = k.epoch;
  room = desk_room x (with_order (v.me == x) v.me content _) v.logs v.desks (λ d. refl) k.room;
}
rule_bounded scope g v (Certificate x content) may k =
    record { me = k.me; epoch = k.epoch; room = desk_room x with_sent v.logs v.desks (λ d. refl) k.room }
rule_bounded scope g v (Deliver x content) may k = record {
  me = k.me;
  epoch = k.epoch;
  room = desk_room x (with_deliver v.me content _) v.logs v.desks (λ d. refl) k.room;
}
rule_bounded scope g v (Log x content) may k =
    record { me = k.me; epoch = k.epoch; room = log_room x (v.logs x ++ content ∷ []) v.logs v.desks k.room }
rule_bounded scope g v (Attest p x n payload) may k = record { me = k.me; epoch = k.epoch; room = k.room }

-- an epoch that begins is one of the scenario
open_within : {S : Type 0} (scope : Scope S) (v : View) (e : ℕ) (lengths : List (Option ℕ)) → open_drop scope v e lengths ≡ None
    → e < scope.epochs
open_within scope v e lengths is =
    (Decides-ltb e scope.epochs).0 (both_true (nat_lt v.epoch e) (nat_lt e scope.epochs) (passed_on (nat_lt v.epoch e && nat_lt e scope.epochs) _ _ is).0).1

-- each kind of record
body_bounded : {S : Type 0} (scope : Scope S) (g e : ℕ) (said : Body) (makers : List Tags) (v : View)
    → misplaced_body scope v e said ≡ None → IsBounded scope g v → IsBounded scope g (noted_body scope e said makers v)
unfolding with_heads with_attests logged with_links entering with_held with_orders with_certificate with_votes
body_bounded scope g e (body.Filled kind.Offer x slot c) makers v is k =
    record { me = k.me; epoch = k.epoch; room = desk_room x (with_held c) v.logs v.desks (λ d. refl) k.room }
body_bounded {S} scope g e (body.Filled kind.Order x slot c) makers v is k = by (v.me == x)
  where
    counted : (d : Desk) → (with_certificate (quorum_at scope v.epoch x) c makers d).offered ≡ d.offered
    counted d = at (is_ordered (quorum_at scope v.epoch x) (orderers c makers d) && is_none d.certified)
      where
        at : (b : Bool) → (if b then record d { certified = Some c } else d).offered ≡ d.offered
        at true = refl
        at false = refl

    collects : (d : Desk) → (with_orders c makers d).offered ≡ d.offered
    collects d = at (is_content d.offered c) (collected makers d.orders)
      where
        at : (b : Bool) (orders : List (Option (List (ℕ × List ℕ)))) → (if b then record d { orders = orders } else d).offered ≡ d.offered
        at true orders = refl
        at false orders = refl

    by : (b : Bool) → IsBounded scope g (if b then at_desk x (with_orders c makers) v
        else at_desk x (with_certificate (quorum_at scope v.epoch x) c makers) v)
    by true = record { me = k.me; epoch = k.epoch; room = desk_room x (with_orders c makers) v.logs v.desks collects k.room }
    by false = record {
      me = k.me;
      epoch = k.epoch;
      room = desk_room x (with_certificate (quorum_at scope v.epoch x) c makers) v.logs v.desks counted k.room;
    }
body_bounded scope g e (body.Filled kind.Deliver x slot c) makers v is k =
    record { me = k.me; epoch = k.epoch; room = desk_room x (with_votes c makers) v.logs v.desks (λ d. refl) k.room }
body_bounded scope g e (body.Filled kind.Report x slot c) makers v is k = absurd (cc)
body_bounded scope g e (body.Filled kind.Inherit x slot c) makers v is k =
    record { me = k.me; epoch = k.epoch; room = log_room x (v.logs x ++ c ∷ []) v.logs v.desks k.room }
body_bounded scope g e (body.Attest p x n payload) makers v is k = record { me = k.me; epoch = k.epoch; room = k.room }
body_bounded scope g e (body.Ask x slot) makers v is k = k
body_bounded scope g e body.Wedge makers v is k = record { me = k.me; epoch = k.epoch; room = k.room }
body_bounded scope g e (body.Frozen x slot) makers v is k = absurd (cc)
body_bounded scope g e (body.Open lengths) makers v is k =
    record { me = k.me; epoch = open_within scope v e lengths is; room = λ h c offered. absurd (cc) }

-- a record that isn't dropped
pub record_bounded : {S : Type 0} (scope : Scope S) (g : ℕ) (v : View) (r : Record) → verdict scope v r ≡ None
    → IsBounded scope g v → IsBounded scope g (noted scope v r)
unfolding verdict misplaced noted
record_bounded scope g v r is k =
    let makers = accepted scope r.statement.epoch v.me r in
    body_bounded scope g r.statement.epoch r.statement.body makers v
    (or_none (misplaced_body scope v r.statement.epoch r.statement.body) (untagged makers) is).0 k

-- the first view of each node
pub first_bounded : {S : Type 0} (scope : Scope S) (g : ℕ) → 1 ≤ scope.epochs → IsBounded scope g (first_view scope g)
unfolding first_view entering with_links
first_bounded scope g some = record { me = refl; epoch = omega (arith, some); room = λ h c offered. absurd (cc) }

-- all nodes' views are bounded so
abbrev pub AreBounded : {S : Type 0} → Scope S → World → Type 0
AreBounded scope w = (g : ℕ) → IsBounded scope g (w.nodes g)

-- and stay so where one has such a view
pub step_bounded : {S : Type 0} (scope : Scope S) (w : World) (g : ℕ) (v : View) (acts : Acts) → IsBounded scope g v
    → AreBounded scope w → AreBounded scope (with_step g v acts w)
step_bounded scope w g v acts here all x =
    put_case (IsBounded scope x) w.nodes g v x (λ same. subst (λ y. IsBounded scope y v) (sym same) here) (λ ne. all x)

-- in the first world
pub world_bounded : {S : Type 0} (setting : Setting S) → 1 ≤ setting.scope.epochs → AreBounded setting.scope (fresh_world setting)
unfolding fresh_world
world_bounded setting some g = first_bounded setting.scope g some

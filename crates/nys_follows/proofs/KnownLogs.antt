-- A node knows each host that it guards, and has logs of hosts alone that it knows.
use Rattle.std.proofs.Common.{◌≡◌, ℕ, ◌<◌, ◌⊎◌, ◌&&◌, ◌||◌, ◌==◌, Bool, true, false, List, [], ◌∷◌, ◌++◌, length, None, refl, ap, ◌∙◌, inl, inr}
use Rattle.std.specs.Prelude.{nat_lt, if◌then◌else◌}
use Rattle.std.proofs.lemmas.Bool.{lt-ltb}
use Rattle.nys_agreement.proofs.TableLemmas.{put_case}
use Rattle.nys_bytes.specs.declared.content.Content.{Content}
use Rattle.nys_stmt.specs.declared.records.Record.{Record}
use Rattle.nys_stmt.specs.declared.statement.Body.{Body}
use Rattle.nys_stmt.specs.declared.statement.Body.TheVariants as body
use Rattle.nys_stmt.specs.declared.statement.FilledKind.TheVariants as kind
use Rattle.nys_stmt.specs.declared.tags.Tags.{Tags}
use Rattle.nys_rules.specs.declared.rule.Rule.{Rule}
use Rattle.nys_rules.specs.declared.rule.Rule.TheVariants.{Offer, Order, Certificate, Deliver, Log, Attest}
use Rattle.nys_rules.specs.Dropping.{accepted, misplaced, misplaced_body, untagged, verdict}
use Rattle.nys_rules.specs.Heads.{with_heads}
use Rattle.nys_rules.specs.Logging.{logged}
use Rattle.nys_rules.specs.Noting.{at_desk, noted, noted_body, with_attests, with_certificate, with_orders}
use Rattle.nys_rules.specs.Rules.{Enabled}
use Rattle.nys_rules.specs.Scope.{quorum_at, Scope}
use Rattle.nys_rules.specs.Taking.{taken, with_kept}
use Rattle.nys_rules.specs.View.{entering, first_view, newborn, View, with_links}
use Rattle.nys_rules.specs.World.{Setting}
use Rattle.nys_rules.proofs.DueLemmas.{due_enabled}
use Rattle.nys_rules.proofs.SearchLemmas.{or_none}
use Rattle.nys_laws.specs.Worlds.{InEachWorld}
use Rattle.nys_laws.proofs.OpenLemmas.{inherit_is, log_open}
use Rattle.nys_laws.proofs.WorldKeeping.{HoldsOfNodes, in_each_world, StepsKeep}

-- the node knows the hosts that it guards in its epoch, and a log of another host is empty
pub record KnowsLogs {S : Type 0} (scope : Scope S) (v : View) : Type 0 where
  pub guarded : (h : ℕ) → h < scope.rules.hosts → scope.guards v.epoch h v.me ≡ true → v.known h ≡ true
  pub kept : (h : ℕ) → (v.known h ≡ true) ⊎ (length (v.logs h) ≡ 0)

-- a log of a host that it guards grows
logged_knows : {S : Type 0} (scope : Scope S) (h : ℕ) (c : Content) (v : View) → h < scope.rules.hosts
    → scope.guards v.epoch h v.me ≡ true → KnowsLogs scope v → KnowsLogs scope (logged scope h c v)
unfolding logged with_heads with_links
logged_knows scope h c v low guards k = record {
  guarded = k.guarded;
  kept = λ x. put_case (λ (z : List Content). (v.known x ≡ true) ⊎ (length z ≡ 0)) v.logs h (v.logs h ++ c ∷ []) x
      (λ same. inl (ap v.known same ∙ k.guarded h low guards)) (λ other. k.kept x);
}

-- each rule that is enabled
enabled_knows : {S : Type 0} (scope : Scope S) (v : View) (rule : Rule) → Enabled scope v rule → KnowsLogs scope v
    → KnowsLogs scope (taken scope v rule)
unfolding with_heads
enabled_knows scope v (Offer h c) e k = record { guarded = k.guarded; kept = k.kept }
enabled_knows scope v (Order h c) e k = record { guarded = k.guarded; kept = k.kept }
enabled_knows scope v (Certificate h c) e k = record { guarded = k.guarded; kept = k.kept }
enabled_knows scope v (Deliver h c) e k = record { guarded = k.guarded; kept = k.kept }
enabled_knows scope v (Log h c) e k =
    let at = (log_open scope v h c e).0 in
    logged_knows scope h c (with_kept h c v) at.live.host at.live.guard (record { guarded = k.guarded; kept = k.kept })
enabled_knows scope v (Attest p h n payload) e k = record { guarded = k.guarded; kept = k.kept }

-- known before, or guarded now
known_one : (was low guards : Bool) → was ≡ true → (was || (low && guards)) ≡ true
known_one true low guards is = refl
known_one false low guards is = absurd (cc)

-- guarded now
known_two : (was low guards : Bool) → low ≡ true → guards ≡ true → (was || (low && guards)) ≡ true
known_two true low guards one two = refl
known_two false true true one two = refl
known_two false false guards one two = absurd (cc)
known_two false true false one two = absurd (cc)

-- an epoch that begins
entering_knows : {S : Type 0} (scope : Scope S) (e : ℕ) (base : ℕ → ℕ) (retired : ℕ → Bool) (v : View)
    → ((h : ℕ) → (v.known h ≡ true) ⊎ (length (v.logs h) ≡ 0)) → KnowsLogs scope (entering scope e base retired v)
unfolding entering with_links
entering_knows scope e base retired v kept = record {
  guarded = λ h low guards.
      known_two (v.known h) (nat_lt h scope.rules.hosts) (scope.guards e h v.me) (lt-ltb h scope.rules.hosts low) guards;
  kept = λ h. elim (kept h) [
    | inl known ↦ inl (known_one (v.known h) (nat_lt h scope.rules.hosts) (scope.guards e h v.me) known)
    | inr none ↦ inr none
  ];
}

-- each kind of record
noted_knows : {S : Type 0} (scope : Scope S) (e : ℕ) (said : Body) (makers : List Tags) (v : View)
    → misplaced_body scope v e said ≡ None → KnowsLogs scope v → KnowsLogs scope (noted_body scope e said makers v)
unfolding with_heads with_attests
noted_knows scope e (body.Filled kind.Offer h slot c) makers v is k = record { guarded = k.guarded; kept = k.kept }
noted_knows {S} scope e (body.Filled kind.Order h slot c) makers v is k = by (v.me == h)
  where
    by : (b : Bool) → KnowsLogs scope (if b then at_desk h (with_orders c makers) v
        else at_desk h (with_certificate (quorum_at scope v.epoch h) c makers) v)
    by true = record { guarded = k.guarded; kept = k.kept }
    by false = record { guarded = k.guarded; kept = k.kept }
noted_knows scope e (body.Filled kind.Deliver h slot c) makers v is k = record { guarded = k.guarded; kept = k.kept }
noted_knows scope e (body.Attest p h n payload) makers v is k = record { guarded = k.guarded; kept = k.kept }
noted_knows scope e (body.Ask h slot) makers v is k = k
noted_knows scope e body.Wedge makers v is k = record { guarded = k.guarded; kept = k.kept }
noted_knows scope e (body.Filled kind.Report h slot c) makers v is k = k
noted_knows scope e (body.Frozen h slot) makers v is k = k
noted_knows scope e (body.Open lengths) makers v is k = entering_knows scope e _ _ v k.kept
noted_knows scope e (body.Filled kind.Inherit h slot c) makers v is k =
    let next = inherit_is scope v e h slot c is in
    logged_knows scope h c v next.live.host next.live.guard k

-- a record that isn't dropped
record_knows : {S : Type 0} (scope : Scope S) (v : View) (r : Record) → verdict scope v r ≡ None
    → KnowsLogs scope v → KnowsLogs scope (noted scope v r)
unfolding verdict misplaced noted
record_knows scope v r is k =
    noted_knows scope r.statement.epoch r.statement.body (accepted scope r.statement.epoch v.me r) v
    (or_none (misplaced_body scope v r.statement.epoch r.statement.body)
    (untagged (accepted scope r.statement.epoch v.me r)) is).0 k

-- each step of a node keeps it
knows_steps : {S : Type 0} (setting : Setting S) → StepsKeep setting (λ g ledger v. KnowsLogs setting.scope v)
knows_steps setting = record {
  beside = λ party made g ledger v ne k. k;
  rules = λ g ledger v rule is k. enabled_knows setting.scope v rule (due_enabled setting.scope v rule is).1 k;
  records = λ g ledger v r read is makers k. record_knows setting.scope v r is k;
  inputs = λ g ledger v payload k. record { guarded = k.guarded; kept = k.kept };
  asking = λ g ledger v k. k;
}

-- the first view
first_knows : {S : Type 0} (scope : Scope S) (g : ℕ) → KnowsLogs scope (first_view scope g)
unfolding first_view
first_knows scope g = entering_knows scope 0 (λ _. 0) (λ _. false) (newborn g) (λ h. inr refl)

-- so it is in each world
pub know_logs : {S : Type 0} (setting : Setting S)
    → InEachWorld setting (HoldsOfNodes (λ g ledger v. KnowsLogs setting.scope v))
know_logs setting =
    in_each_world setting (λ g ledger v. KnowsLogs setting.scope v) (first_knows setting.scope) (knows_steps setting)

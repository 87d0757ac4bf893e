-- In each world the nodes of hosts have forgotten the entries that they need no more.
use Rattle.std.proofs.Common.{◌≡◌, ℕ, ◌≤◌, ◌==◌, ◌&&◌, Bool, true, false, List, [], ◌∷◌, ◌++◌, length, refl, sym, subst, inl, inr, arith, lt-ltb, length-append}
use Rattle.std.specs.Prelude.{None, if◌then◌else◌, max, nat_le, nat_lt, not}
use Rattle.std.proofs.lemmas.Bool.{cases_eq, leb-true, leb-false}
use Rattle.nys_agreement.proofs.TableLemmas.{put_here, put_there}
use Rattle.nys_bytes.specs.declared.content.Content.{Content}
use Rattle.nys_source.specs.Tables.{put}
use Rattle.nys_stmt.specs.declared.records.Record.{Record}
use Rattle.nys_stmt.specs.declared.statement.Body.{Body}
use Rattle.nys_stmt.specs.declared.statement.Body.TheVariants as body
use Rattle.nys_stmt.specs.declared.statement.FilledKind.TheVariants as kind
use Rattle.nys_stmt.specs.declared.tags.Tags.{Tags}
use Rattle.nys_rules.specs.declared.rule.Rule.{Rule}
use Rattle.nys_rules.specs.declared.rule.Rule.TheVariants.{Offer, Order, Certificate, Deliver, Log, Attest}
use Rattle.nys_rules.specs.Dropping.{accepted, misplaced, misplaced_body, untagged, verdict}
use Rattle.nys_rules.specs.Heads.{with_heads}
use Rattle.nys_rules.specs.Logging.{logged}
use Rattle.nys_rules.specs.Noting.{at_desk, noted, noted_body, with_attests, with_certificate, with_orders}
use Rattle.nys_rules.specs.Rules.{Enabled}
use Rattle.nys_rules.specs.Scope.{quorum_at, Scope}
use Rattle.nys_rules.specs.Taking.{taken, with_kept}
use Rattle.nys_rules.specs.View.{entering, first_view, is_live, kept_at, newborn, View, with_links}
use Rattle.nys_rules.specs.World.{Setting}
use Rattle.nys_rules.proofs.DueLemmas.{due_enabled}
use Rattle.nys_rules.proofs.SearchLemmas.{or_none}
use Rattle.nys_laws.specs.Entries.{Forget, Forgets, IsForgotten}
use Rattle.nys_laws.specs.Grounds.{IsLiveAt}
use Rattle.nys_laws.specs.Worlds.{InEachWorld}
use Rattle.nys_laws.proofs.OpenLemmas.{inherit_is, log_open}
use Rattle.nys_laws.proofs.WorldKeeping.{in_each_world, StepsKeep}

-- the greater of the two where the log has reached the base, and else as before
pub kept_within : (live : Bool) (base from long : ℕ) → from ≤ long → kept_at live base from long ≤ long
kept_within false base from long le = omega arith
kept_within true base from long le = by (nat_le base long) refl
  where
    by : (b : Bool) → nat_le base long ≡ b → (if b then max base from else from) ≤ long
    by true is = let low = leb-true base long is in omega (arith, le, low)
    by false is = le

-- a log that has reached the base is kept from the base on, or a later slot
pub kept_past : (base from long : ℕ) → base ≤ long → base ≤ kept_at true base from long
kept_past base from long le = by (nat_le base long) refl
  where
    by : (b : Bool) → nat_le base long ≡ b → base ≤ (if b then max base from else from)
    by true is = omega arith
    by false is = let gt = leb-false base long is in absurd (omega (arith, le, gt))

-- what is kept so is what is needed
kept_is : (live : Bool) (base from long : ℕ) → from ≤ long → IsForgotten live base (kept_at live base from long) long
kept_is true base from long le =
    record { within = kept_within true base from long le; below = λ is. kept_past base from long; closed = λ is. absurd (cc) }
kept_is false base from long le = record { within = omega arith; below = λ is. absurd (cc); closed = λ is. refl }

-- a log of a live host that grows
logged_forgets : {S : Type 0} (scope : Scope S) (h : ℕ) (c : Content) (v : View) → is_live scope v h ≡ true → Forgets scope v
    → Forgets scope (logged scope h c v)
unfolding logged with_heads with_links is_live
logged_forgets {S} scope h c v live k x = elim (cases_eq x h) [
  | inl same ↦ subst Claim (sym same) here
  | inr other ↦ rw (put_there v.kept_from h kept x other, put_there v.logs h log x other) (k x)
]
  where
    log : List Content
    log = v.logs h ++ c ∷ []

    kept : ℕ
    kept = kept_at true (v.base h) (v.kept_from h) (length (put v.logs h log h))

    Claim : ℕ → Type 0
    Claim y = IsForgotten (nat_lt y scope.rules.hosts && (scope.guards v.epoch y v.me && not (v.retired y))) (v.base y)
        (put v.kept_from h kept y) (length (put v.logs h log y))

    here : Claim h
    here =
        let was = (k h).within in
        let more = length-append (v.logs h) (c ∷ []) in
        rw (live, put_here v.kept_from h kept, put_here v.logs h log)
        (kept_is true (v.base h) (v.kept_from h) (length log) (omega (arith, was, more)))

-- an epoch that begins
entering_forgets : {S : Type 0} (scope : Scope S) (e : ℕ) (base : ℕ → ℕ) (retired : ℕ → Bool) (v : View)
    → ((h : ℕ) → v.kept_from h ≤ length (v.logs h)) → Forgets scope (entering scope e base retired v)
unfolding entering with_links is_live
entering_forgets scope e base retired v within h = kept_is _ (base h) (v.kept_from h) (length (v.logs h)) (within h)

-- a host is live
live_at : {S : Type 0} (scope : Scope S) (v : View) (h : ℕ) → IsLiveAt scope v h → is_live scope v h ≡ true
unfolding is_live
live_at scope v h live = rw (lt-ltb h scope.rules.hosts live.host, live.guard, live.lives) refl

-- each rule that is enabled
enabled_forgets : {S : Type 0} (scope : Scope S) (v : View) (rule : Rule) → Enabled scope v rule → Forgets scope v
    → Forgets scope (taken scope v rule)
unfolding with_heads is_live
enabled_forgets scope v (Offer h c) e k = k
enabled_forgets scope v (Order h c) e k = k
enabled_forgets scope v (Certificate h c) e k = k
enabled_forgets scope v (Deliver h c) e k = k
enabled_forgets scope v (Log h c) e k = logged_forgets scope h c (with_kept h c v) (live_at scope v h (log_open scope v h c e).0.live) k
enabled_forgets scope v (Attest p h n payload) e k = k

-- each kind of record
noted_forgets : {S : Type 0} (scope : Scope S) (e : ℕ) (said : Body) (makers : List Tags) (v : View)
    → misplaced_body scope v e said ≡ None → Forgets scope v → Forgets scope (noted_body scope e said makers v)
unfolding with_heads with_attests is_live
noted_forgets scope e (body.Filled kind.Offer h slot c) makers v is k = k
noted_forgets {S} scope e (body.Filled kind.Order h slot c) makers v is k = by (v.me == h)
  where
    by : (b : Bool) → Forgets scope (if b then at_desk h (with_orders c makers) v
        else at_desk h (with_certificate (quorum_at scope v.epoch h) c makers) v)
    by true = k
    by false = k
noted_forgets scope e (body.Filled kind.Deliver h slot c) makers v is k = k
noted_forgets scope e (body.Attest p h n payload) makers v is k = k
noted_forgets scope e (body.Ask h slot) makers v is k = k
noted_forgets scope e body.Wedge makers v is k = k
noted_forgets scope e (body.Filled kind.Report h slot c) makers v is k = k
noted_forgets scope e (body.Frozen h slot) makers v is k = k
noted_forgets scope e (body.Open lengths) makers v is k = entering_forgets scope e _ _ v (λ h. (k h).within)
noted_forgets scope e (body.Filled kind.Inherit h slot c) makers v is k =
    logged_forgets scope h c v (live_at scope v h (inherit_is scope v e h slot c is).live) k

-- a record that isn't dropped
record_forgets : {S : Type 0} (scope : Scope S) (v : View) (r : Record) → verdict scope v r ≡ None → Forgets scope v
    → Forgets scope (noted scope v r)
unfolding verdict misplaced noted
record_forgets scope v r is k =
    noted_forgets scope r.statement.epoch r.statement.body (accepted scope r.statement.epoch v.me r) v
    (or_none (misplaced_body scope v r.statement.epoch r.statement.body)
    (untagged (accepted scope r.statement.epoch v.me r)) is).0 k

-- each step of a node keeps it
forget_steps : {S : Type 0} (setting : Setting S) → StepsKeep setting (λ g ledger v. Forgets setting.scope v)
unfolding is_live
forget_steps setting = record {
  beside = λ party made g ledger v ne k. k;
  rules = λ g ledger v rule is k. enabled_forgets setting.scope v rule (due_enabled setting.scope v rule is).1 k;
  records = λ g ledger v r read is makers k. record_forgets setting.scope v r is k;
  inputs = λ g ledger v payload k. k;
  asking = λ g ledger v k. k;
}

-- the first view has no entry
first_forgets : {S : Type 0} (scope : Scope S) (g : ℕ) → Forgets scope (first_view scope g)
unfolding first_view
first_forgets scope g = entering_forgets scope 0 (λ _. 0) (λ _. false) (newborn g) (λ h. omega arith)

-- so it is in each world
pub forget : {S : Type 0} (setting : Setting S) → InEachWorld setting (Forget setting)
forget setting =
    in_each_world setting (λ g ledger v. Forgets setting.scope v) (first_forgets setting.scope) (forget_steps setting)

-- In each world of a scenario no node forgets an entry from the base on of a host that is live at it: no log is
-- longer than the length at which a later epoch begins it.
use Rattle.std.proofs.Common.{◌≡◌, ℕ, ◌+◌, ◌<◌, ◌≤◌, ◌==◌, Bool, true, false, List, [], ◌∷◌, ◌++◌, length, Some, None, refl, ap, sym, subst, ◌∙◌, inl, inr, arith, length-append}
use Rattle.std.specs.Prelude.{◌-◌, if◌then◌else◌, max, nat_le, not, slice_get}
use Rattle.std.proofs.lemmas.Bool.{cases_eq, cases_order}
use Rattle.std.proofs.lemmas.Bool.Decides.{Decides-eqb}
use Rattle.nys_hosts.specs.Counts.{AtLeast}
use Rattle.nys_bytes.specs.declared.content.Content.{Content}
use Rattle.nys_source.specs.Tables.{put}
use Rattle.nys_agreement.specs.Assembly as machine
use Rattle.nys_agreement.specs.After.{after_all}
use Rattle.nys_agreement.specs.Net.{Net, quorum_in}
use Rattle.nys_agreement.specs.Said.{FrozeBy}
use Rattle.nys_agreement.proofs.Agreement.{Sound}
use Rattle.nys_agreement.proofs.Evidence.{below}
use Rattle.nys_agreement.proofs.ListLemmas.{get_inside}
use Rattle.nys_agreement.proofs.TableLemmas.{put_case, put_here, put_there}
use Rattle.nys_agreement.proofs.Votes.{barrier}
use Rattle.nys_stmt.specs.declared.records.Record.{Record}
use Rattle.nys_stmt.specs.declared.statement.Body.{Body}
use Rattle.nys_stmt.specs.declared.statement.Body.TheVariants as body
use Rattle.nys_stmt.specs.declared.statement.FilledKind.TheVariants as kind
use Rattle.nys_stmt.specs.declared.tags.Tags.{Tags}
use Rattle.nys_rules.specs.declared.rule.Rule.{Rule}
use Rattle.nys_rules.specs.declared.rule.Rule.TheVariants.{Offer, Order, Certificate, Deliver, Log, Attest}
use Rattle.nys_rules.specs.Dropping.{accepted, misplaced, misplaced_body, permits, untagged, verdict}
use Rattle.nys_rules.specs.Forged.{HasMade}
use Rattle.nys_rules.specs.Heads.{with_heads}
use Rattle.nys_rules.specs.Logging.{logged}
use Rattle.nys_rules.specs.Noting.{at_desk, bases, noted, noted_body, retirements, with_attests, with_certificate, with_orders}
use Rattle.nys_rules.specs.Premises.{net_of}
use Rattle.nys_rules.specs.Scope.{olympus, quorum_at, Scope}
use Rattle.nys_rules.specs.Sending.{said_in}
use Rattle.nys_rules.specs.Taking.{taken, with_kept}
use Rattle.nys_rules.specs.View.{entering, first_view, kept_at, length_of, newborn, View, with_links}
use Rattle.nys_rules.specs.World.{fresh_world, Setting, World}
use Rattle.nys_rules.proofs.SearchLemmas.{or_none}
use Rattle.nys_laws.specs.Worlds.{InEachWorld}
use Rattle.nys_laws.proofs.EntryWorlds.{forget, kept_within}
use Rattle.nys_laws.proofs.EventKeeping.{each_world_fact, IsAccepted, WorldsKeep}
use Rattle.nys_laws.proofs.LiveLemmas.{live_is}
use Rattle.nys_laws.proofs.NodeHistory.{only_olympus}
use Rattle.nys_laws.proofs.ViewLemmas.{open_later}
use Rattle.nys_follows.specs.Follows.{IsTruthful, Reached, Tracks}
use Rattle.nys_follows.specs.Promises.{KeepFromBase}
use Rattle.nys_follows.specs.Scenario.{IsScenario}
use Rattle.nys_follows.proofs.FeedingFollows.{first_tracks, follow_steps, FollowsKnown}
use Rattle.nys_follows.proofs.FeedingRecords.{records_follow}
use Rattle.nys_follows.proofs.FeedingRules.{rules_follow}
use Rattle.nys_follows.proofs.FeedingWorlds.{followable_of, known_first, no_olympus}
use Rattle.nys_follows.proofs.LeadingLemmas.{kept_there, leads_on, reaches, stays}
use Rattle.nys_follows.proofs.PromiseLemmas.{truthful_host}

-- where an epoch of the machine begins a log, no node of an earlier epoch has an entry
past_base : (net : Net) (m : machine.Assembly) → Sound net m → (e h : ℕ) → e < m.top → m.live (e + 1) h ≡ true → (g : ℕ)
    → m.epoch g ≤ e → (c : Content) → slice_get (m.log g h) (m.base (e + 1) h) ≡ Some c → ⊥
past_base net m ok e h lt lives g early c get =
    let opened = ok.safe.openings in
    let at = m.base (e + 1) h in
    let low = opened.rises e (e + 1) h (omega arith) (omega (arith, lt)) in
    let here = opened.lived e (e + 1) h (omega arith) (omega (arith, lt)) lives in
    elim (ok.evidence.logs g h at c get) [
      | inr inherited ↦
          let under = inherited.0 in
          let rise = opened.rises (m.epoch g) (e + 1) h (omega (arith, early)) (omega (arith, lt)) in
          omega (arith, under, rise)
      | inl why ↦
          let le = why.1 in
          elim (cases_order why.0 e) [
            | inl same ↦
                let frozen = subst (λ n. AtLeast (quorum_in net n h) (FrozeBy net m.ledger n h at)) (sym same) (opened.closed e h lt lives) in
                let under = barrier net ok.safe.few m ok.safe.votes why.0 h at at c why.2.delivers frozen in
                omega (arith, under)
            | inr (inl before) ↦
                let under = below net m ok.safe why.0 e h at c why.2 before (omega (arith, lt)) here in
                omega (arith, under, low)
            | inr (inr gt) ↦ omega (arith, le, early, gt)
          ]
    ]

-- so its log is no longer than that
log_short : (net : Net) (m : machine.Assembly) → Sound net m → (e h : ℕ) → e < m.top → m.live (e + 1) h ≡ true → (g : ℕ)
    → m.epoch g ≤ e → length (m.log g h) ≤ m.base (e + 1) h
log_short net m ok e h lt lives g early = elim (cases_order (m.base (e + 1) h) (length (m.log g h))) [
  | inl same ↦ omega (arith, same)
  | inr (inl short) ↦ absurd (
      let x = get_inside (m.log g h) (m.base (e + 1) h) short in
      past_base net m ok e h lt lives g early x.0 x.1
      )
  | inr (inr long) ↦ omega (arith, long)
]

-- the same of an epoch behind that of the node
log_shorter : (net : Net) (m : machine.Assembly) → Sound net m → (e h : ℕ) → e ≤ m.top → m.live e h ≡ true → (g : ℕ)
    → m.epoch g < e → length (m.log g h) ≤ m.base e h
log_shorter net m ok e h le lives g early =
    let same : e - 1 + 1 ≡ e = omega (arith, early) in
    subst (λ n. length (m.log g h) ≤ m.base n h) same
    (log_short net m ok (e - 1) h (omega (arith, le, early)) (subst (λ n. m.live n h ≡ true) (sym same) lives) g
    (omega (arith, early)))

-- what the node keeps begins within each log, and no later than at the base where the host isn't retired
pub record KeepsLow {S : Type 0} (scope : Scope S) (v : View) : Type 0 where
  pub within : (h : ℕ) → v.kept_from h ≤ length_of v h
  pub low : (h : ℕ) → h < scope.rules.hosts → v.retired h ≡ false → v.kept_from h ≤ v.base h

-- an Open begins each log of a host that isn't retired no earlier than where the node's log ends
abbrev OpensPast : {S : Type 0} → Scope S → View → Body → Type 0
OpensPast scope v (body.Open lengths) =
    (h : ℕ) → h < scope.rules.hosts → retirements lengths h ≡ false → length (v.logs h) ≤ bases lengths h
OpensPast scope v (body.Filled k h slot c) = Unit {0}
OpensPast scope v (body.Attest p h k payload) = Unit {0}
OpensPast scope v (body.Ask h slot) = Unit {0}
OpensPast scope v body.Wedge = Unit {0}
OpensPast scope v (body.Frozen h slot) = Unit {0}

-- a log that is kept from its base on, or an earlier slot, is so once it grows
kept_low : (base from long : ℕ) → from ≤ base → kept_at true base from long ≤ base
kept_low base from long le = by (nat_le base long)
  where
    by : (b : Bool) → (if b then max base from else from) ≤ base
    by true = omega (arith, le)
    by false = le

-- so it is where an epoch begins a log no earlier than where it ends
kept_opened : (live : Bool) (base from long : ℕ) → from ≤ long → long ≤ base → kept_at live base from long ≤ base
kept_opened true base from long le short = kept_low base from long (omega (arith, le, short))
kept_opened false base from long le short = short

-- a log that grows
logged_low : {S : Type 0} (scope : Scope S) (h : ℕ) (c : Content) (v : View) → KeepsLow scope v
    → KeepsLow scope (logged scope h c v)
unfolding logged with_heads with_links
logged_low {S} scope h c v k = record { within = within; low = low }
  where
    log : List Content
    log = v.logs h ++ c ∷ []

    kept : ℕ
    kept = kept_at true (v.base h) (v.kept_from h) (length (put v.logs h log h))

    within : (x : ℕ) → put v.kept_from h kept x ≤ length (put v.logs h log x)
    within x = elim (cases_eq x h) [
      | inl same ↦
          let was = k.within h in
          let more = length-append (v.logs h) (c ∷ []) in
          subst (λ y. put v.kept_from h kept y ≤ length (put v.logs h log y)) (sym same)
          (rw (put_here v.kept_from h kept, put_here v.logs h log)
          (kept_within true (v.base h) (v.kept_from h) (length log) (omega (arith, was, more))))
      | inr other ↦ rw (put_there v.kept_from h kept x other, put_there v.logs h log x other) (k.within x)
    ]

    low : (x : ℕ) → x < scope.rules.hosts → v.retired x ≡ false → put v.kept_from h kept x ≤ v.base x
    low x small lives = put_case (λ n. n ≤ v.base x) v.kept_from h kept x
        (λ same. subst (λ y. kept ≤ v.base y) (sym same)
        (kept_low (v.base h) (v.kept_from h) (length (put v.logs h log h))
        (subst (λ y. v.kept_from y ≤ v.base y) same (k.low x small lives))))
        (λ other. k.low x small lives)

-- an epoch that begins
entering_low : {S : Type 0} (scope : Scope S) (e : ℕ) (base : ℕ → ℕ) (retired : ℕ → Bool) (v : View)
    → ((h : ℕ) → v.kept_from h ≤ length (v.logs h))
    → ((h : ℕ) → h < scope.rules.hosts → retired h ≡ false → length (v.logs h) ≤ base h)
    → KeepsLow scope (entering scope e base retired v)
unfolding entering with_links
entering_low scope e base retired v within past = record {
  within = λ h. kept_within _ (base h) (v.kept_from h) (length (v.logs h)) (within h);
  low = λ h small lives. kept_opened _ (base h) (v.kept_from h) (length (v.logs h)) (within h) (past h small lives);
}

-- each rule
taken_low : {S : Type 0} (scope : Scope S) (v : View) (rule : Rule) → KeepsLow scope v → KeepsLow scope (taken scope v rule)
unfolding with_heads
taken_low scope v (Offer h c) k = record { within = k.within; low = k.low }
taken_low scope v (Order h c) k = record { within = k.within; low = k.low }
taken_low scope v (Certificate h c) k = record { within = k.within; low = k.low }
taken_low scope v (Deliver h c) k = record { within = k.within; low = k.low }
taken_low scope v (Log h c) k = logged_low scope h c (with_kept h c v) (record { within = k.within; low = k.low })
taken_low scope v (Attest p h n payload) k = record { within = k.within; low = k.low }

-- each kind of record
noted_low : {S : Type 0} (scope : Scope S) (e : ℕ) (said : Body) (makers : List Tags) (v : View)
    → (((m : ℕ) → permits scope e said m ≡ true → m ≡ olympus) → OpensPast scope v said) → KeepsLow scope v
    → KeepsLow scope (noted_body scope e said makers v)
unfolding with_heads with_attests
noted_low scope e (body.Filled kind.Offer h slot c) makers v past k = record { within = k.within; low = k.low }
noted_low {S} scope e (body.Filled kind.Order h slot c) makers v past k = by (v.me == h)
  where
    by : (b : Bool) → KeepsLow scope (if b then at_desk h (with_orders c makers) v
        else at_desk h (with_certificate (quorum_at scope v.epoch h) c makers) v)
    by true = record { within = k.within; low = k.low }
    by false = record { within = k.within; low = k.low }
noted_low scope e (body.Filled kind.Deliver h slot c) makers v past k = record { within = k.within; low = k.low }
noted_low scope e (body.Attest p h n payload) makers v past k = record { within = k.within; low = k.low }
noted_low scope e (body.Ask h slot) makers v past k = k
noted_low scope e body.Wedge makers v past k = record { within = k.within; low = k.low }
noted_low scope e (body.Filled kind.Report h slot c) makers v past k = k
noted_low scope e (body.Frozen h slot) makers v past k = k
noted_low scope e (body.Open lengths) makers v past k =
    entering_low scope e (bases lengths) (retirements lengths) v k.within (past (λ m permitted. (Decides-eqb m olympus).0 permitted))
noted_low scope e (body.Filled kind.Inherit h slot c) makers v past k = logged_low scope h c v k

-- what the Olympus opened, it opened so, where the machine follows the world
opens_past : {S : Type 0} (setting : Setting S) (w : World) (m : machine.Assembly) → Sound (net_of setting) m → Tracks setting w m
    → (g : ℕ) → IsTruthful setting g → (v : View) → w.nodes g ≡ v → (e : ℕ) (said : Body)
    → misplaced_body setting.scope v e said ≡ None → HasMade w.ledger olympus (said_in e said) → OpensPast setting.scope v said
opens_past setting w m ok tracks g honest v view e (body.Open lengths) is has = λ h small lives.
    let node = tracks.nodes.each g honest in
    let opened = tracks.ledger.opened e lengths has in
    let early = open_later setting.scope v e lengths is in
    let epoch : m.epoch g ≡ v.epoch = node.epoch_is ∙ ap (λ (x : View). x.epoch) view in
    let log : m.log g h ≡ v.logs h = node.log_is h ∙ ap (λ (x : View). x.logs h) view in
    let begins = opened.begins h small lives in
    let short = log_shorter (net_of setting) m ok e h opened.upto (opened.lives h small ∙ ap not lives) g (omega (arith, epoch, early)) in
    let long = ap length log in
    omega (arith, begins, short, long)
opens_past setting w m ok tracks g honest v view e (body.Filled k h slot c) is has = tt
opens_past setting w m ok tracks g honest v view e (body.Attest p h k payload) is has = tt
opens_past setting w m ok tracks g honest v view e (body.Ask h slot) is has = tt
opens_past setting w m ok tracks g honest v view e body.Wedge is has = tt
opens_past setting w m ok tracks g honest v view e (body.Frozen h slot) is has = tt

-- a record that isn't dropped
record_low : {S : Type 0} (setting : Setting S) (w : World) (m : machine.Assembly) → Sound (net_of setting) m → Tracks setting w m
    → (g : ℕ) → IsTruthful setting g → (v : View) (r : Record) → w.nodes g ≡ v → verdict setting.scope v r ≡ None
    → IsAccepted setting w v.me r → KeepsLow setting.scope v → KeepsLow setting.scope (noted setting.scope v r)
unfolding verdict misplaced noted
record_low setting w m ok tracks g honest v r view is some k =
    let makers = accepted setting.scope r.statement.epoch v.me r in
    let placed = (or_none (misplaced_body setting.scope v r.statement.epoch r.statement.body) (untagged makers) is).0 in
    noted_low setting.scope r.statement.epoch r.statement.body makers v
    (λ only. opens_past setting w m ok tracks g honest v view r.statement.epoch r.statement.body placed
    (only_olympus setting w v r is some only)) k

-- the nodes of honest hosts do
abbrev KeepLow : {S : Type 0} → Setting S → World → Type 0
KeepLow setting w = (g : ℕ) → IsTruthful setting g → KeepsLow setting.scope (w.nodes g)

-- a node that has another view
step_low : {S : Type 0} (setting : Setting S) (nodes : ℕ → View) (g : ℕ) (v next : View) → nodes g ≡ v
    → (IsTruthful setting g → KeepsLow setting.scope v → KeepsLow setting.scope next)
    → ((x : ℕ) → IsTruthful setting x → KeepsLow setting.scope (nodes x))
    → (x : ℕ) → IsTruthful setting x → KeepsLow setting.scope (put nodes g next x)
step_low setting nodes g v next view step k x honest = put_case (KeepsLow setting.scope) nodes g next x
    (λ same.
    let here = subst (IsTruthful setting) same honest in
    step here (subst (KeepsLow setting.scope) view (k g here)))
    (λ other. k x honest)

-- a world that follows the machine, in which they do
abbrev FollowsLow : {S : Type 0} → Setting S → World → Type 0
FollowsLow setting w = FollowsKnown setting machine.beginning w × KeepLow setting w

-- the machine's beginning is reached
reached_first : {S : Type 0} (setting : Setting S) → Reached setting machine.beginning
reached_first setting = record { events = []; follows = tt; is = refl }

-- each step of a world keeps it
low_steps : {S : Type 0} (setting : Setting S) → IsScenario setting → WorldsKeep setting (FollowsLow setting)
low_steps {S} setting asked = record {
  rules = λ w g v rule acting is k.
      (on.rules w g v rule acting is k.0, step_low setting w.nodes g v _ acting.view (λ honest low. taken_low setting.scope v rule low) k.1);
  records = λ w g v r acting host is some k.
      let m = after_all machine.beginning k.0.1.events in
      let ok = (kept_there setting (followable_of setting asked) m
      (reaches setting machine.beginning (Tracks setting w) (reached_first setting) k.0.1)).sound in (
        on.records w g v r acting host is some k.0,
        step_low setting w.nodes g v _ acting.view
            (λ honest low. record_low setting w m ok k.0.1.fact g honest v r acting.view is some low) k.1,
      );
  inputs = λ w g v payload may acting room k. (
    on.inputs w g v payload may acting room k.0,
    step_low setting w.nodes g v _ acting.view (λ honest low. record { within = low.within; low = low.low }) k.1,
  );
  asking = λ w g v acting k.
      (on.asking w g v acting k.0, step_low setting w.nodes g v _ acting.view (λ honest low. low) k.1);
  hears = λ w r is some k. (on.hears w r is some k.0, k.1);
  wedges = λ w is k. (on.wedges w is k.0, k.1);
  decides = λ w h after answer decides k. (on.decides w h after answer decides k.0, k.1);
  retires = λ w h is k. (on.retires w h is k.0, k.1);
  epochs = λ w epoch is k. (on.epochs w epoch is k.0, k.1);
  packets = λ w event packets brings k. (on.packets w event packets brings k.0, k.1);
  told = λ w events delivered injected takes notes k. (on.told w events delivered injected takes notes k.0, k.1);
}
  where
    on : WorldsKeep setting (FollowsKnown setting machine.beginning)
    on = follow_steps setting asked (rules_follow setting asked) (records_follow setting asked) machine.beginning
        (reached_first setting)

-- the first world has no entry
first_low : {S : Type 0} (setting : Setting S) → IsScenario setting → FollowsLow setting (fresh_world setting)
unfolding fresh_world first_view
first_low setting asked = (
  (
    known_first setting asked,
    leads_on setting machine.beginning (Tracks setting (fresh_world setting))
        (stays setting machine.beginning (Tracks setting (fresh_world setting)) (first_tracks setting)),
  ),
  λ g honest.
      entering_low setting.scope 0 (λ _. 0) (λ _. false) (newborn g) (λ h. omega arith) (λ h small lives. omega arith),
)

-- so nodes keep all entries from the base on
pub keep_from_base : {S : Type 0} (setting : Setting S) → IsScenario setting → InEachWorld setting (KeepFromBase setting)
keep_from_base setting asked events w happen g h one =
    let honest = truthful_host setting asked g one.host one.honest in
    let all = each_world_fact setting (FollowsLow setting) (first_low setting asked) (low_steps setting asked) events w happen in
    let was = forget setting events w happen g (no_olympus setting asked g honest) h in
    record {
      all = λ is. let at = live_is setting.scope (w.nodes g) h is in (all.1 g honest).low h at.host at.lives;
      only = λ is long.
          let at = live_is setting.scope (w.nodes g) h is in
          let low = (all.1 g honest).low h at.host at.lives in
          let past = was.below is long in
          omega (arith, low, past);
      none = was.closed;
    }

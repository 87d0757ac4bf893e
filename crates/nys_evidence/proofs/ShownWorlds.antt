-- Each world shows what its parties keep, and each later world goes on to show it.
use Rattle.std.proofs.Common.{◌≡◌, ◌≢◌, ℕ, true, false, List, ◌++◌, Some, None, refl, ap, sym, subst, ◌∙◌, inl, inr, arith}
use Rattle.std.specs.Prelude.{Contains}
use Rattle.std.proofs.lemmas.Bool.{cases_eq}
use Rattle.std.proofs.lemmas.List.Elements.{All-nil}
use Rattle.nys_bytes.specs.declared.content.Content.{Content}
use Rattle.nys_agreement.proofs.ListLemmas.{append_some}
use Rattle.nys_agreement.proofs.TableLemmas.{put_case}
use Rattle.nys_stmt.specs.declared.records.Record.{Record}
use Rattle.nys_stmt.specs.declared.statement.Body.TheVariants as body
use Rattle.nys_stmt.specs.declared.statement.FilledKind.TheVariants as kind
use Rattle.nys_stmt.specs.declared.statement.Statement.{Statement}
use Rattle.nys_rules.specs.declared.rule.Rule.{Rule}
use Rattle.nys_rules.specs.Asking.{questions}
use Rattle.nys_rules.specs.Dropping.{accepted, misplaced, misplaced_body, permits, untagged, verdict}
use Rattle.nys_rules.specs.Evidence.{AttestsSeen}
use Rattle.nys_rules.specs.Forged.{Entry, HasMade, with_made}
use Rattle.nys_rules.specs.Handling.{acts_by, with_input}
use Rattle.nys_rules.specs.Noting.{noted}
use Rattle.nys_rules.specs.Olympus.{hosts_of, in_next_epoch, opening_acts, OlympusView, proclaimed}
use Rattle.nys_rules.specs.Packets.{Acts, nothing, Sent}
use Rattle.nys_rules.specs.Rules.{due}
use Rattle.nys_rules.specs.Scope.{olympus}
use Rattle.nys_rules.specs.Sending.{said_in}
use Rattle.nys_rules.specs.Taking.{acts_of, taken}
use Rattle.nys_rules.specs.View.{entering, first_view, length_of, View, with_links}
use Rattle.nys_rules.specs.World.{fresh_world, Setting, World}
use Rattle.nys_rules.proofs.DueLemmas.{due_enabled}
use Rattle.nys_rules.proofs.SearchLemmas.{or_none}
use Rattle.nys_laws.specs.Rests.{IsSound}
use Rattle.nys_laws.specs.Worlds.{InEachWorld}
use Rattle.nys_laws.proofs.ActsLemmas.{aside_questions}
use Rattle.nys_laws.proofs.EventKeeping.{ActsAs, IsAccepted, with_olympus, WorldsKeep}
use Rattle.nys_laws.proofs.GrownLemmas.{with_step}
use Rattle.nys_laws.proofs.LedgerLemmas.{made_before, made_cases, none_made}
use Rattle.nys_laws.proofs.NodeHistory.{inherit_takes, only_olympus}
use Rattle.nys_laws.proofs.OlympusLemmas.{none_due}
use Rattle.nys_follows.specs.Scenario.{IsScenario}
use Rattle.nys_follows.proofs.FeedingSteps.{known_steps}
use Rattle.nys_follows.proofs.FeedingWorlds.{IsKnown, known_first, set_up_of}
use Rattle.nys_evidence.proofs.KeptLemmas.{entering_passed}
use Rattle.nys_evidence.proofs.SeenLemmas.{HasAll, Reaches}
use Rattle.nys_evidence.proofs.ShownFacts.{AreBorne, AreOrdersShown, AreShown, IsBorne, IsOlympusShown, IsOwnOrSeen, IsShownLater, IsViewShown}
use Rattle.nys_evidence.proofs.ShownNodes.{aside_by, no_order, record_shown, rule_ordered, rule_shown}
use Rattle.nys_evidence.proofs.ShownOlympus.{decision_shown, testified_shown}
use Rattle.nys_evidence.proofs.TakeKeeping.{in_each_taken, IsTaken, TakesKeep}
use Rattle.std.proofs.lemmas.Bool.Decides.{Decides-eqb}

-- what is known of a world, and what later worlds show of it
abbrev IsKnownShown : {S : Type 0} → Setting S → World → Type 0
IsKnownShown setting w = IsKnown setting w × IsShownLater setting w

-- a world that has what a step left has what there was before it
before_step : (party : ℕ) (made : List Statement) (packets : List Sent) (w z : World)
    → HasAll w.takes (w.pool ++ packets) w.injected (with_made party made w.ledger) z → Reaches w z
before_step party made packets w z reach = record {
  told = reach.told;
  packets = λ k p is. reach.packets k p (append_some w.pool packets k p is);
  bytes = reach.bytes;
  made = λ g s has. reach.made g s (made_before party made w.ledger g s has);
}

-- Orders, where the new ones of a host are shown
orders_more : {S : Type 0} (setting : Setting S) (z : World) (party : ℕ) (made : List Statement) (ledger : List Entry)
    → (party ≢ olympus → (e h s : ℕ) (content : Content) → Contains made (said_in e (body.Filled kind.Order h s content))
    → AttestsSeen setting z e h content)
    → AreOrdersShown setting z ledger → AreOrdersShown setting z (with_made party made ledger)
orders_more setting z party made ledger new old g e h s content host has =
    elim (made_cases party made ledger g (said_in e (body.Filled kind.Order h s content)) has) [
      | inl was ↦ old g e h s content host was
      | inr now ↦ new (λ same. host (sym now.0 ∙ same)) e h s content now.1
    ]

-- a step of a node
step_shown : {S : Type 0} (setting : Setting S) (w : World) (g : ℕ) (v : View) (acts : Acts) → IsShownLater setting w
    → ((z : World) → Reaches w z → g ≢ olympus → IsViewShown setting z g (w.nodes g) → IsViewShown setting z g v)
    → ((z : World) → Reaches w z → g ≢ olympus → AreShown setting z w.nodes w.olympus w.ledger → (e h s : ℕ) (content : Content)
    → Contains acts.made (said_in e (body.Filled kind.Order h s content)) → AttestsSeen setting z e h content)
    → IsShownLater setting (with_step g v acts w)
step_shown setting w g v acts shown view orders z reach =
    let back = before_step g acts.made acts.packets w z reach in
    let all = shown z back in
    record {
      views = λ x host.
          put_case (IsViewShown setting z x) w.nodes g v x
          (λ here. subst (λ y. IsViewShown setting z y v) (sym here)
          (let ne = subst (λ y. y ≢ olympus) here host in view z back ne (all.views g ne)))
          (λ there. all.views x host);
      top = all.top;
      orders = orders_more setting z g acts.made w.ledger (λ ne. orders z back ne all) all.orders;
    }

-- a rule that is due
rule_later : {S : Type 0} (setting : Setting S) → IsScenario setting → (w : World) (g : ℕ) (v : View) (rule : Rule)
    → ActsAs setting w g v → due setting.scope v ≡ Some rule → IsKnownShown setting w
    → IsShownLater setting (with_step g (taken setting.scope v rule) (acts_of setting.scope v rule) w)
rule_later {S} setting asked w g v rule acting is k = elim (cases_eq g olympus) [
  | inl here ↦
      let same : w.nodes olympus ≡ v = ap w.nodes (sym here) ∙ acting.view in
      let me = subst (λ (x : View). x.me ≡ olympus) same k.0.history.1.nobody in
      absurd (none_due setting.scope (set_up_of setting asked) v me rule is)
  | inr host ↦
      let sound = subst (IsSound setting g w.ledger) acting.view (k.0.sound g host) in
      let enabled = (due_enabled setting.scope v rule is).1 in
      step_shown setting w g (taken setting.scope v rule) (acts_of setting.scope v rule) k.1
      (λ z reach ne was.
      rule_shown setting asked z g w.ledger v rule acting.honest sound enabled reach.made
      (subst (IsViewShown setting z g) acting.view was))
      (λ z reach ne all.
      rule_ordered setting asked z g w.ledger v rule acting.honest sound enabled
      (subst (IsViewShown setting z g) acting.view (all.views g ne)).kept)
]

-- an entry that a node takes over was decided
inherited_borne : {S : Type 0} (setting : Setting S) (w z : World) (v : View) (r : Record) → IsKnownShown setting w
    → verdict setting.scope v r ≡ None → IsAccepted setting w v.me r → Reaches w z → (h slot : ℕ) (content : Content)
    → r.statement.body ≡ body.Filled kind.Inherit h slot content
    → IsBorne setting z h (length_of v h) content
unfolding verdict misplaced
inherited_borne setting w z v r k is some reach h slot content says =
    let e = r.statement.epoch in
    let same : r.statement ≡ said_in e (body.Filled kind.Inherit h slot content) = ap (said_in e) says in
    let placed = (or_none (misplaced setting.scope v r.statement) (untagged (accepted setting.scope e v.me r)) is).0 in
    let has = only_olympus setting w v r is some
    (subst (λ b. (m : ℕ) → permits setting.scope e b m ≡ true → m ≡ olympus) (sym says)
    (λ m permitted. (Decides-eqb m olympus).0 permitted)) in
    let takes = inherit_takes setting k.0.history.0 w v e h slot content
    (subst (λ b. misplaced_body setting.scope v e b ≡ None) says placed) (subst (HasMade w.ledger olympus) same has)
    k.0.history.1 in
    (k.1 z reach).top.decided h _ content takes.entry

-- a record that a node took and doesn't drop
record_later : {S : Type 0} (setting : Setting S) (w : World) (g : ℕ) (v : View) (r : Record) → ActsAs setting w g v
    → g ≢ olympus → verdict setting.scope v r ≡ None → IsAccepted setting w v.me r → IsTaken w g r → IsKnownShown setting w
    → IsShownLater setting (with_step g (noted setting.scope v r) (acts_by setting.scope v r) w)
record_later setting w g v r acting host is some told k =
    let sound = subst (IsSound setting g w.ledger) acting.view (k.0.sound g host) in
    step_shown setting w g (noted setting.scope v r) (acts_by setting.scope v r) k.1
    (λ z reach ne was.
    record_shown setting w z g v r sound.own.host is reach told (inherited_borne setting w z v r k is some reach)
    (subst (IsViewShown setting z g) acting.view was))
    (λ z reach ne all e h s content among.
    absurd (no_order v.epoch (acts_by setting.scope v r).made e h s content (aside_by setting.scope v r) among))

-- the Olympus that makes statements and knows what is shown
olympus_later : {S : Type 0} (setting : Setting S) (w : World) (o : OlympusView) (acts : Acts) → IsShownLater setting w
    → ((z : World) → IsOlympusShown setting z w.olympus → IsOlympusShown setting z o)
    → IsShownLater setting (with_olympus o acts w)
olympus_later setting w o acts shown keeps z reach =
    let all = shown z (before_step olympus acts.made acts.packets w z reach) in
    record {
      views = all.views;
      top = keeps z all.top;
      orders = orders_more setting z olympus acts.made w.ledger (λ ne. absurd (ne refl)) all.orders;
    }

-- each step of a world
shown_steps : {S : Type 0} (setting : Setting S) → IsScenario setting → TakesKeep setting (IsKnownShown setting)
shown_steps {S} setting asked = record {
  rules = λ w g v rule acting is k. (
    known.rules w g v rule acting is k.0,
    rule_later setting asked w g v rule acting is k,
  );
  records = λ w g v r acting host is some told k. (
    known.records w g v r acting host is some k.0,
    record_later setting w g v r acting host is some told k,
  );
  inputs = λ w g v payload acting room k. (
    known.inputs w g v payload tt acting room k.0,
    step_shown setting w g (with_input payload v) nothing k.1
        (λ z reach ne was.
        let had = subst (IsViewShown setting z g) acting.view was in
        record { kept = record { desks = had.kept.desks; heard = had.kept.heard }; logs = had.logs })
        (λ z reach ne all e h s content among. absurd (let none = among.1 in omega (arith, none))),
  );
  asking = λ w g v acting k. (
    known.asking w g v acting k.0,
    step_shown setting w g v (questions setting.scope v) k.1
        (λ z reach ne was. subst (IsViewShown setting z g) acting.view was)
        (λ z reach ne all e h s content among.
        absurd (no_order v.epoch (questions setting.scope v).made e h s content (aside_questions setting.scope v) among)),
  );
  hears = λ w r is some told k. (
    known.hears w r is some k.0,
    λ z reach.
        let all = k.1 z reach in
        record {
          views = all.views;
          top = testified_shown setting w z w.olympus r is reach told all.top;
          orders = all.orders;
        },
  );
  wedges = λ w is k. (
    known.wedges w is k.0,
    olympus_later setting w (record w.olympus { wedged = true })
        (proclaimed setting.scope w.olympus.epoch body.Wedge (hosts_of setting.scope)) k.1
        (λ z top. record { reports = top.reports; decided = top.decided }),
  );
  decides = λ w h after answer decides k. (
    known.decides w h after answer decides k.0,
    λ z reach.
        let all = k.1 z reach in
        record {
          views = all.views;
          top = decision_shown setting asked z w.ledger w.olympus h after answer decides (k.0.history.1.top.undecided h)
              k.0.told reach.made all.top;
          orders = all.orders;
        },
  );
  retires = λ w h is k. (
    known.retires w h is k.0,
    λ z reach.
        let all = k.1 z reach in
        record {
          views = all.views;
          top = record { reports = all.top.reports; decided = all.top.decided };
          orders = all.orders;
        },
  );
  epochs = λ w epoch is k. (
    known.epochs w epoch is k.0,
    olympus_later setting w (in_next_epoch w.olympus) (opening_acts setting.scope w.olympus epoch) k.1
        (λ z top. record { reports = λ h slot. All-nil _; decided = top.decided }),
  );
  packets = λ w event packets brings k. (
    known.packets w event packets brings k.0,
    λ z reach. k.1 z (record {
      told = reach.told;
      packets = λ n p is. reach.packets n p (append_some w.pool packets n p is);
      bytes = reach.bytes;
      made = reach.made;
    }),
  );
  told = λ w events delivered injected takes notes given taken_on k. (
    known.told w events delivered injected takes notes k.0,
    λ z reach. k.1 z (record {
      told = λ x among. reach.told x (taken_on x among);
      packets = reach.packets;
      bytes = λ x among. reach.bytes x (given x among);
      made = reach.made;
    }),
  );
}
  where
    known : WorldsKeep setting (IsKnown setting)
    known = known_steps setting asked

-- the logs of a first view are empty
first_logs : {S : Type 0} (setting : Setting S) (z : World) (g h : ℕ)
    → AreBorne setting z h ((first_view setting.scope g).logs h)
unfolding first_view entering with_links
first_logs setting z g h s content is = absurd (cc)

-- the first world keeps nothing
first_shown : {S : Type 0} (setting : Setting S) → IsShownLater setting (fresh_world setting)
unfolding fresh_world first_view
first_shown setting z reach = record {
  views = λ g host. record {
    kept = entering_passed setting.scope (IsOwnOrSeen setting z g) 0 (λ _. 0) (λ _. false) _;
    logs = first_logs setting z g;
  };
  top = record { reports = λ h slot. All-nil _; decided = λ h s content is. absurd (cc) };
  orders = λ g e h s content host has. absurd (none_made g _ has);
}

-- so each world shows what its parties keep, now and later
pub shown_worlds : {S : Type 0} (setting : Setting S) → IsScenario setting → InEachWorld setting (IsShownLater setting)
shown_worlds setting asked events w happen =
    (in_each_taken setting (IsKnownShown setting) (known_first setting asked, first_shown setting) (shown_steps setting asked)
    events w happen).1

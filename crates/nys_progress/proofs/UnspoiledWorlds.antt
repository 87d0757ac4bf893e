-- In each world of a schedule's events the orders for an unspoiled slot are whole, where its host is honest.
use Rattle.std.proofs.Common.{◌≡◌, ◌≢◌, ℕ, ◌<◌, ◌≤◌, ◌++◌, List, Ok, refl, ap, sym, subst, inl, inr, arith}
use Rattle.std.specs.Prelude.{All, Contains}
use Rattle.std.proofs.lemmas.List.Elements.{All-contains, Contains-append_cases, Contains-append_left}
use Rattle.nys_bytes.specs.declared.content.Content.{Content}
use Rattle.nys_stmt.specs.declared.statement.Body.TheVariants as body
use Rattle.nys_stmt.specs.Records.{record_spelling}
use Rattle.nys_rules.specs.Asking.{questions}
use Rattle.nys_rules.specs.Events.{Plain}
use Rattle.nys_rules.specs.Events.Plain.{Bytes}
use Rattle.nys_rules.specs.Exchanges.{IsOrderRecord, IsUnspoiled}
use Rattle.nys_rules.specs.Forged.{with_made}
use Rattle.nys_rules.specs.Handling.{acts_by, with_input}
use Rattle.nys_rules.specs.Happening.{HappenAll, with_injected}
use Rattle.nys_rules.specs.Noting.{noted}
use Rattle.nys_rules.specs.Olympus.{hosts_of, opening_acts, OlympusView, proclaimed}
use Rattle.nys_rules.specs.Packets.{Acts, nothing, Sent}
use Rattle.nys_rules.specs.Scope.{olympus}
use Rattle.nys_rules.specs.Sending.{said_in}
use Rattle.nys_rules.specs.Taking.{acts_of, taken}
use Rattle.nys_rules.specs.View.{View}
use Rattle.nys_rules.specs.World.{fresh_world, Setting, World}
use Rattle.nys_rules.proofs.DueLemmas.{due_enabled}
use Rattle.nys_laws.specs.Own.{body_at, HasSaid}
use Rattle.nys_laws.specs.Own.Stage.{Offered}
use Rattle.nys_laws.specs.Rests.{IsSound}
use Rattle.nys_laws.specs.SetUp.{AreHosts}
use Rattle.nys_laws.proofs.EventKeeping.{ActsAs, WorldsKeep, with_olympus}
use Rattle.nys_laws.proofs.GrownLemmas.{with_step}
use Rattle.nys_laws.proofs.LedgerLemmas.{made_before}
use Rattle.nys_evidence.proofs.TakeKeeping.{by_any, happen_taken, TakesKeepBy}
use Rattle.nys_progress.specs.Scheduled.{IsScheduled}
use Rattle.nys_progress.proofs.BoundedViews.{AreBounded, IsBounded, record_bounded, rule_bounded, step_bounded, world_bounded}
use Rattle.nys_progress.proofs.BroughtOrders.{brought_good}
use Rattle.nys_progress.proofs.CollectedDesks.{OfView}
use Rattle.nys_progress.proofs.CollectedSteps.{collect_steps, Collects, first_collects}
use Rattle.nys_progress.proofs.GoodOrders.{AreGood, ReadsGood}
use Rattle.nys_progress.proofs.NodeOrders.{IsAsked, IsKnown, IsPure, telling_good}
use Rattle.nys_progress.proofs.OrderHeads.{headed}
use Rattle.nys_progress.proofs.SentWorlds.{first_sent, sent_steps, SentWorld}
use Rattle.nys_progress.proofs.TellingNodes.{AreTelling, IsTelling, record_telling, rule_telling, telling_else}
use Rattle.nys_progress.proofs.ToldPackets.{AreOfSuch, else_opening, else_questions, else_wedge, IsElse, IsOfSuch}

-- what is known of a world
record HasFacts {S : Type 0} (setting : Setting S) (e h s : ℕ) (content : Content) (w : World) : Type 0 where
  collects : Collects setting w
  sent : SentWorld setting w
  bounded : AreBounded setting.scope w
  good : IsPure setting e h s content w → AreGood setting e h s w.pool

-- ---- what a step leaves

-- a slot that is unspoiled with more packets and bytes was so before
less_spoiled : (w : World) (packets : List Sent) (next : World) (e h s : ℕ) → next.pool ≡ w.pool ++ packets
    → next.injected ≡ w.injected → IsUnspoiled next e h s → IsUnspoiled w e h s
less_spoiled w packets next e h s pool given u = record {
  packets = λ p among.
      u.packets p (subst (λ (ps : List Sent). Contains ps p) (sym pool) (Contains-append_left w.pool packets p among));
  bytes = λ x among. u.bytes x (subst (λ xs. Contains xs x) (sym given) among);
}

-- a node's step
step_pure : {S : Type 0} (setting : Setting S) (e h s : ℕ) (content : Content) (w : World) (g : ℕ) (v : View) (acts : Acts)
    → IsPure setting e h s content (with_step g v acts w) → IsPure setting e h s content w
step_pure setting e h s content w g v acts pure = record {
  unspoiled = less_spoiled w acts.packets (with_step g v acts w) e h s refl refl pure.unspoiled;
  one = λ c has. pure.one c (made_before g acts.made w.ledger h (said_in e (body_at Offered h s c)) has);
}

-- a step of the Olympus
olympus_pure : {S : Type 0} (setting : Setting S) (e h s : ℕ) (content : Content) (w : World) (o : OlympusView) (acts : Acts)
    → IsPure setting e h s content (with_olympus o acts w) → IsPure setting e h s content w
olympus_pure setting e h s content w o acts pure = record {
  unspoiled = less_spoiled w acts.packets (with_olympus o acts w) e h s refl refl pure.unspoiled;
  one = λ c has. pure.one c (made_before olympus acts.made w.ledger h (said_in e (body_at Offered h s c)) has);
}

-- what is known of a node that acts
known_of : {S : Type 0} (setting : Setting S) (e h s : ℕ) (content : Content) (w : World) (g : ℕ) (v : View) → ActsAs setting w g v
    → HasFacts setting e h s content w → IsKnown setting w g v
known_of setting e h s content w g v acting k = record {
  honest = acting.honest;
  bounded = subst (IsBounded setting.scope g) acting.view (k.bounded g);
  sound = λ ne. subst (IsSound setting g w.ledger) acting.view (k.collects.0 g ne);
  collecting = λ low. subst (OfView setting.scope w.pool w.injected g) acting.view (k.collects.1 g acting.honest low);
  sent = k.sent.1;
}

-- a pool to which good packets come is good
more_good : {S : Type 0} (setting : Setting S) (e h s : ℕ) (pool packets : List Sent) → AreGood setting e h s pool
    → ((p : Sent) → Contains packets p → ReadsGood setting e h s p.frame) → AreGood setting e h s (pool ++ packets)
more_good setting e h s pool packets good more p among = elim (Contains-append_cases pool packets p among) [
  | inl old ↦ good p old
  | inr new ↦ more p new
]

-- what a node sends
step_good : {S : Type 0} (setting : Setting S) (e h s : ℕ) (content : Content) → IsAsked setting h content
    → (w : World) (g : ℕ) (v next : View) (acts : Acts) → ActsAs setting w g v → HasFacts setting e h s content w
    → AreTelling setting.scope v acts → IsPure setting e h s content (with_step g next acts w)
    → AreGood setting e h s (w.pool ++ acts.packets)
step_good {S} setting e h s content asked w g v next acts acting k tells pure =
    more_good setting e h s w.pool acts.packets (k.good before) (λ p among.
    let x = All-contains (IsOfSuch v.me (IsTelling setting.scope v)) acts.packets p tells among in
    subst (ReadsGood setting e h s) (sym (ap (λ (q : Sent). q.frame) x.packet_is))
    (telling_good setting e h s content asked w g v (known_of setting e h s content w g v acting k) before (k.good before) x.to x.r x.such))
  where
    before : IsPure setting e h s content w
    before = step_pure setting e h s content w g next acts pure

-- what the Olympus sends
olympus_good : {S : Type 0} (setting : Setting S) (e h s : ℕ) (content : Content) (w : World) (o : OlympusView) (acts : Acts)
    → HasFacts setting e h s content w → AreOfSuch olympus IsElse acts → IsPure setting e h s content (with_olympus o acts w)
    → AreGood setting e h s (w.pool ++ acts.packets)
olympus_good setting e h s content w o acts k tells pure =
    more_good setting e h s w.pool acts.packets (k.good (olympus_pure setting e h s content w o acts pure)) (λ p among.
    let x = All-contains (IsOfSuch olympus IsElse) acts.packets p tells among in
    subst (ReadsGood setting e h s) (sym (ap (λ (q : Sent). q.frame) x.packet_is))
    (λ is. let at = headed x.r e h s is in absurd (x.such at.host at.slot at.content at.says)))

-- ---- each step

-- keeps what is known
facts_keep : {S : Type 0} (setting : Setting S) (e h s : ℕ) (content : Content) → IsAsked setting h content
    → TakesKeepBy setting (IsScheduled setting) (HasFacts setting e h s content)
facts_keep {S} setting e h s content asked = record {
  rules = λ w g v rule acting is k.
      let next = taken setting.scope v rule in
      let acts = acts_of setting.scope v rule in
      let may = (due_enabled setting.scope v rule is).1 in record {
        collects = collect.rules w g v rule acting is k.collects;
        sent = sends.rules w g v rule acting is k.sent;
        bounded = step_bounded setting.scope w g next acts
            (rule_bounded setting.scope g v rule may (subst (IsBounded setting.scope g) acting.view (k.bounded g))) k.bounded;
        good = step_good setting e h s content asked w g v next acts acting k (rule_telling setting.scope v rule may);
      };
  records = λ w g v r acting host is some told k.
      let next = noted setting.scope v r in
      let acts = acts_by setting.scope v r in record {
        collects = collect.records w g v r acting host is some told k.collects;
        sent = sends.records w g v r acting host is some k.sent;
        bounded = step_bounded setting.scope w g next acts
            (record_bounded setting.scope g v r is (subst (IsBounded setting.scope g) acting.view (k.bounded g))) k.bounded;
        good = step_good setting e h s content asked w g v next acts acting k (record_telling setting.scope v r is);
      };
  inputs = λ w g v payload acting room k.
      let was = subst (IsBounded setting.scope g) acting.view (k.bounded g) in record {
        collects = collect.inputs w g v payload acting room k.collects;
        sent = sends.inputs w g v payload tt acting room k.sent;
        bounded = step_bounded setting.scope w g (with_input payload v) nothing
            (record { me = was.me; epoch = was.epoch; room = was.room }) k.bounded;
        good = step_good setting e h s content asked w g v (with_input payload v) nothing acting k (λ i d low. absurd (omega (arith, low)));
      };
  asking = λ w g v acting k. record {
    collects = collect.asking w g v acting k.collects;
    sent = sends.asking w g v acting k.sent;
    bounded = step_bounded setting.scope w g v (questions setting.scope v)
        (subst (IsBounded setting.scope g) acting.view (k.bounded g)) k.bounded;
    good = step_good setting e h s content asked w g v v (questions setting.scope v) acting k
        (telling_else setting.scope v (questions setting.scope v) (else_questions setting.scope v));
  };
  hears = λ w r is some told k. record {
    collects = collect.hears w r is some told k.collects;
    sent = sends.hears w r is some k.sent;
    bounded = k.bounded;
    good = λ pure. k.good (as_before w _ refl refl refl pure);
  };
  wedges = λ w is k. record {
    collects = collect.wedges w is k.collects;
    sent = sends.wedges w is k.sent;
    bounded = k.bounded;
    good = olympus_good setting e h s content w _ (proclaimed setting.scope w.olympus.epoch body.Wedge (hosts_of setting.scope)) k
        (else_wedge setting.scope w.olympus.epoch (hosts_of setting.scope));
  };
  decides = λ w x after answer decides k. record {
    collects = collect.decides w x after answer decides k.collects;
    sent = sends.decides w x after answer decides k.sent;
    bounded = k.bounded;
    good = λ pure. k.good (as_before w _ refl refl refl pure);
  };
  retires = λ w x is k. record {
    collects = collect.retires w x is k.collects;
    sent = sends.retires w x is k.sent;
    bounded = k.bounded;
    good = λ pure. k.good (as_before w _ refl refl refl pure);
  };
  epochs = λ w epoch is k. record {
    collects = collect.epochs w epoch is k.collects;
    sent = sends.epochs w epoch is k.sent;
    bounded = k.bounded;
    good = olympus_good setting e h s content w _ (opening_acts setting.scope w.olympus epoch) k (else_opening setting.scope w.olympus epoch);
  };
  packets = λ w event packets may brings k. record {
    collects = collect.packets w event packets tt brings k.collects;
    sent = sends.packets w event packets brings k.sent;
    bounded = k.bounded;
    good = λ pure.
        let before = k.good (record {
          unspoiled = less_spoiled w packets (record w { pool = w.pool ++ packets }) e h s refl refl pure.unspoiled;
          one = pure.one;
        }) in
        more_good setting e h s w.pool packets before
        (brought_good setting e h s asked.hosts asked.tags w event packets may brings pure.unspoiled before);
  };
  given = λ w to frame may k. record {
    collects = collect.given w to frame tt k.collects;
    sent = sends.told w w.events w.delivered (with_injected to frame w).injected w.takes w.notes k.sent;
    bounded = k.bounded;
    good = λ pure. k.good (record {
      unspoiled = record {
        packets = pure.unspoiled.packets;
        bytes = λ x among. pure.unspoiled.bytes x (Contains-append_left w.injected _ x among);
      };
      one = pure.one;
    });
  };
  told = λ w events delivered takes notes more k. record {
    collects = collect.told w events delivered takes notes more k.collects;
    sent = sends.told w events delivered w.injected takes notes k.sent;
    bounded = k.bounded;
    good = λ pure. k.good (as_before w _ refl refl refl pure);
  };
}
  where
    collect : TakesKeepBy setting (λ event. Unit {0}) (Collects setting)
    collect = by_any setting (Collects setting) (collect_steps setting asked.hosts)

    sends : WorldsKeep setting (SentWorld setting)
    sends = sent_steps setting asked.hosts

    -- where the packets, the bytes and the ledger are the same
    as_before : (w next : World) → next.pool ≡ w.pool → next.injected ≡ w.injected → next.ledger ≡ w.ledger
        → IsPure setting e h s content next → IsPure setting e h s content w
    as_before w next pool given ledger pure = record {
      unspoiled = record {
        packets = λ p among. pure.unspoiled.packets p (subst (λ (ps : List Sent). Contains ps p) (sym pool) among);
        bytes = λ x among. pure.unspoiled.bytes x (subst (λ xs. Contains xs x) (sym given) among);
      };
      one = λ c has. pure.one c (subst (λ l. HasSaid l h Offered e h s c) (sym ledger) has);
    }

-- in the first world nothing is sent
first_facts : {S : Type 0} (setting : Setting S) (e h s : ℕ) (content : Content) → IsAsked setting h content
    → 1 ≤ setting.scope.epochs → HasFacts setting e h s content (fresh_world setting)
unfolding fresh_world
first_facts setting e h s content asked some = record {
  collects = first_collects setting asked.hosts;
  sent = first_sent setting;
  bounded = world_bounded setting some;
  good = λ pure p among. absurd (omega (arith, among.1));
}

-- so it is in each world of a schedule's events
pub orders_good : {S : Type 0} (setting : Setting S) (e h s : ℕ) (content : Content) → IsAsked setting h content
    → 1 ≤ setting.scope.epochs → (events : List Plain) (w : World) → All (IsScheduled setting) events
    → HappenAll setting (fresh_world setting) events (Ok w) → IsPure setting e h s content w → AreGood setting e h s w.pool
orders_good setting e h s content asked some events w all happen pure =
    (happen_taken setting (IsScheduled setting) (HasFacts setting e h s content) (facts_keep setting e h s content asked)
    (fresh_world setting) w events all happen (first_facts setting e h s content asked some)).good pure

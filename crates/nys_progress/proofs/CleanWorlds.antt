-- Where no event gives bytes or steals, no slot is spoiled.
use Rattle.std.proofs.Common.{◌≡◌, ◌≢◌, ℕ, ◌<◌, ◌≤◌, ◌==◌, ◌&&◌, ◌||◌, ◌++◌, Bool, true, false, List, Ok, refl, ap, sym, subst, ◌∙◌, inl, inr, arith, eqb-true}
use Rattle.std.specs.Prelude.{All, Contains, map, nat_lt, not}
use Rattle.std.proofs.lemmas.Bool.Decides.{Decides-ltb}
use Rattle.std.proofs.lemmas.List.Elements.{All-contains, Contains-append_cases}
use Rattle.nys_stmt.specs.declared.records.Record.{Record}
use Rattle.nys_stmt.specs.declared.statement.Body.TheVariants as body
use Rattle.nys_rules.specs.declared.packet.TheConstants.{STRANGER}
use Rattle.nys_rules.specs.Asking.{questions}
use Rattle.nys_rules.specs.Events.{Plain}
use Rattle.nys_rules.specs.Events.Plain.{Ask, Bundle, Bytes, Decide, Deliver, Exchange, Flush, Input, Open, Retire, Say, Steal, Wedge}
use Rattle.nys_rules.specs.Handling.{acts_by, with_input}
use Rattle.nys_rules.specs.Happening.{bundle_of, HappenAll, said_record}
use Rattle.nys_rules.specs.Noting.{noted}
use Rattle.nys_rules.specs.Olympus.{hosts_of, opening_acts, proclaimed}
use Rattle.nys_rules.specs.Packets.{Acts, Given, nothing, Sent}
use Rattle.nys_rules.specs.Scope.{olympus}
use Rattle.nys_rules.specs.Taking.{acts_of, taken}
use Rattle.nys_rules.specs.View.{View}
use Rattle.nys_rules.specs.World.{fresh_world, is_honest, Setting, World}
use Rattle.nys_rules.proofs.CertificateLemmas.{both_true}
use Rattle.nys_rules.proofs.DueLemmas.{due_enabled}
use Rattle.nys_laws.proofs.EventKeeping.{ActsAs, Brings}
use Rattle.nys_laws.proofs.GrownLemmas.{with_step}
use Rattle.nys_evidence.proofs.TakeKeeping.{happen_taken, TakesKeepBy}
use Rattle.nys_progress.specs.Scheduled.{IsClean, IsScheduled, SpoilsNothing}
use Rattle.nys_progress.proofs.BoundedViews.{AreBounded, IsBounded, record_bounded, rule_bounded, step_bounded, world_bounded}
use Rattle.nys_progress.proofs.BroughtOrders.{packets_of}
use Rattle.nys_progress.proofs.TellingNodes.{AreTelling, IsTelling, record_telling, rule_telling, telling_else}
use Rattle.nys_progress.proofs.ToldPackets.{AreOfSuch, else_opening, else_questions, else_wedge, IsElse, IsOfSuch}

-- the event is a schedule's, and gives no bytes and steals no tags
abbrev IsCleanOf : {S : Type 0} → Setting S → Plain → Type 0
IsCleanOf setting event = IsScheduled setting event × IsClean event

-- no packet is a stranger's
abbrev AreNamed : List Sent → Type 0
AreNamed pool = (p : Sent) → Contains pool p → p.from ≢ STRANGER

-- what is known of a world
record IsCleanWorld {S : Type 0} (setting : Setting S) (w : World) : Type 0 where
  bounded : AreBounded setting.scope w
  named : AreNamed w.pool
  bytes : (x : Given) → Contains w.injected x → ⊥

-- ---- who sends

-- an honest party has a number up to that of the Olympus
honest_low : {S : Type 0} (setting : Setting S) (g : ℕ) → setting.scope.rules.hosts ≤ 32 → is_honest setting g ≡ true → g ≤ 32
honest_low {S} setting g few = by (g == olympus) refl
  where
    by : (b : Bool) → (g == olympus) ≡ b → (b || (nat_lt g setting.scope.rules.hosts && not (setting.liars g))) ≡ true → g ≤ 32
    by true is honest = let same = eqb-true g olympus is in omega (arith, same)
    by false is honest =
        let low = (Decides-ltb g setting.scope.rules.hosts).0 (both_true (nat_lt g setting.scope.rules.hosts) (not (setting.liars g)) honest).0 in
        omega (arith, low, few)

-- more packets of a party
more_named : (pool packets : List Sent) (from : ℕ) → from ≤ 32 → AreNamed pool
    → ((p : Sent) → Contains packets p → p.from ≡ from) → AreNamed (pool ++ packets)
more_named pool packets from low named each p among is = elim (Contains-append_cases pool packets p among) [
  | inl old ↦ named p old is
  | inr new ↦ let same = each p new in omega (arith, same, is, low)
]

-- packets of a party's acts are its own
such_from : (me : ℕ) (Such : ℕ → Record → Type 0) (acts : Acts) → AreOfSuch me Such acts → (p : Sent) → Contains acts.packets p
    → p.from ≡ me
such_from me Such acts all p among =
    ap (λ (q : Sent). q.from) (All-contains (IsOfSuch me Such) acts.packets p all among).packet_is

-- what a node sends
step_named : {S : Type 0} (setting : Setting S) → setting.scope.rules.hosts ≤ 32 → (w : World) (g : ℕ) (v : View) (acts : Acts)
    → ActsAs setting w g v → IsCleanWorld setting w → AreTelling setting.scope v acts → AreNamed (w.pool ++ acts.packets)
step_named setting few w g v acts acting k tells =
    let me = (subst (IsBounded setting.scope g) acting.view (k.bounded g)).me in
    more_named w.pool acts.packets g (honest_low setting g few acting.honest) k.named
    (λ p among. such_from v.me (IsTelling setting.scope v) acts tells p among ∙ me)

-- what an event brings
brought_named : {S : Type 0} (setting : Setting S) → setting.scope.rules.hosts ≤ 32 → (w : World) (event : Plain) (packets : List Sent)
    → IsCleanOf setting event → Brings setting w event packets → AreNamed w.pool → AreNamed (w.pool ++ packets)
brought_named setting few w (Say a to st) packets may brings named =
    let low = may.0.is.hosts_are.0 in
    more_named w.pool packets a (omega (arith, low, few)) named
    (λ p among. (packets_of a (said_record setting.scope a st to) to packets brings p among).from_is)
brought_named setting few w (Bundle a to ks) packets may brings named =
    let low = may.0.is.hosts_are.0 in
    more_named w.pool packets a (omega (arith, low, few)) named
    (λ p among. (packets_of a (bundle_of w brings.0.statement ks) to packets brings.3 p among).from_is)
brought_named setting few w (Steal a to st) packets may brings named = absurd may.1
brought_named setting few w (Input x payload) packets may brings named = absurd brings
brought_named setting few w (Deliver k) packets may brings named = absurd brings
brought_named setting few w Flush packets may brings named = absurd brings
brought_named setting few w Exchange packets may brings named = absurd brings
brought_named setting few w (Ask x) packets may brings named = absurd brings
brought_named setting few w (Bytes to frame) packets may brings named = absurd brings
brought_named setting few w Wedge packets may brings named = absurd brings
brought_named setting few w (Decide x) packets may brings named = absurd brings
brought_named setting few w (Retire x) packets may brings named = absurd brings
brought_named setting few w Open packets may brings named = absurd brings

-- ---- each step

-- keeps the world clean
clean_keep : {S : Type 0} (setting : Setting S) → setting.scope.rules.hosts ≤ 32
    → TakesKeepBy setting (IsCleanOf setting) (IsCleanWorld setting)
clean_keep setting few = record {
  rules = λ w g v rule acting is k.
      let next = taken setting.scope v rule in
      let acts = acts_of setting.scope v rule in
      let may = (due_enabled setting.scope v rule is).1 in record {
        bounded = step_bounded setting.scope w g next acts
            (rule_bounded setting.scope g v rule may (subst (IsBounded setting.scope g) acting.view (k.bounded g))) k.bounded;
        named = step_named setting few w g v acts acting k (rule_telling setting.scope v rule may);
        bytes = k.bytes;
      };
  records = λ w g v r acting host is some told k.
      let next = noted setting.scope v r in
      let acts = acts_by setting.scope v r in record {
        bounded = step_bounded setting.scope w g next acts
            (record_bounded setting.scope g v r is (subst (IsBounded setting.scope g) acting.view (k.bounded g))) k.bounded;
        named = step_named setting few w g v acts acting k (record_telling setting.scope v r is);
        bytes = k.bytes;
      };
  inputs = λ w g v payload acting room k.
      let was = subst (IsBounded setting.scope g) acting.view (k.bounded g) in record {
        bounded = step_bounded setting.scope w g (with_input payload v) nothing
            (record { me = was.me; epoch = was.epoch; room = was.room }) k.bounded;
        named = step_named setting few w g v nothing acting k (λ i d low. absurd (omega (arith, low)));
        bytes = k.bytes;
      };
  asking = λ w g v acting k. record {
    bounded = step_bounded setting.scope w g v (questions setting.scope v)
        (subst (IsBounded setting.scope g) acting.view (k.bounded g)) k.bounded;
    named = step_named setting few w g v (questions setting.scope v) acting k
        (telling_else setting.scope v (questions setting.scope v) (else_questions setting.scope v));
    bytes = k.bytes;
  };
  hears = λ w r is some told k. record { bounded = k.bounded; named = k.named; bytes = k.bytes };
  wedges = λ w is k. record {
    bounded = k.bounded;
    named = more_named w.pool _ olympus (omega arith) k.named
        (such_from olympus IsElse (proclaimed setting.scope w.olympus.epoch body.Wedge (hosts_of setting.scope))
        (else_wedge setting.scope w.olympus.epoch (hosts_of setting.scope)));
    bytes = k.bytes;
  };
  decides = λ w x after answer decides k. record { bounded = k.bounded; named = k.named; bytes = k.bytes };
  retires = λ w x is k. record { bounded = k.bounded; named = k.named; bytes = k.bytes };
  epochs = λ w epoch is k. record {
    bounded = k.bounded;
    named = more_named w.pool _ olympus (omega arith) k.named
        (such_from olympus IsElse (opening_acts setting.scope w.olympus epoch) (else_opening setting.scope w.olympus epoch));
    bytes = k.bytes;
  };
  packets = λ w event packets may brings k. record {
    bounded = k.bounded;
    named = brought_named setting few w event packets may brings k.named;
    bytes = k.bytes;
  };
  given = λ w to frame may k. absurd may.1;
  told = λ w events delivered takes notes more k. record { bounded = k.bounded; named = k.named; bytes = k.bytes };
}

-- the first world is clean
first_clean : {S : Type 0} (setting : Setting S) → 1 ≤ setting.scope.epochs → IsCleanWorld setting (fresh_world setting)
unfolding fresh_world
first_clean setting some = record {
  bounded = world_bounded setting some;
  named = λ p among. absurd (omega (arith, among.1));
  bytes = λ x among. omega (arith, among.1);
}

-- both hold of each event
both_all : {S : Type 0} (setting : Setting S) (events : List Plain) → All (IsScheduled setting) events → All IsClean events
    → All (IsCleanOf setting) events
both_all setting events scheduled clean i d low = (scheduled i d low, clean i d low)

-- so is each world of clean events, and no slot is spoiled
pub spoils_nothing : {S : Type 0} (setting : Setting S) → 1 ≤ setting.scope.epochs → setting.scope.rules.hosts ≤ 32
    → SpoilsNothing setting
spoils_nothing setting some few events w scheduled clean happen e h s =
    let k = happen_taken setting (IsCleanOf setting) (IsCleanWorld setting) (clean_keep setting few) (fresh_world setting) w events
    (both_all setting events scheduled clean) happen (first_clean setting some) in record {
      packets = λ p among from is. k.named p among from;
      bytes = λ x among is. k.bytes x among;
    }

-- Where the rules and records of nodes are followed, each world that events make follows the machine.
use Rattle.std.proofs.Common.{◌≡◌, ◌≢◌, ℕ, ◌&&◌, ◌||◌, Bool, true, List, [], ◌∷◌, Some, None, Ok, refl, ap, sym, subst, ◌∙◌, inl, inr}
use Rattle.std.specs.Prelude.{nat_lt, not}
use Rattle.std.proofs.lemmas.Bool.{cases_eq, ne_eqb}
use Rattle.std.proofs.lemmas.Bool.Decides.{Decides-ltb}
use Rattle.nys_agreement.specs.After.{after_all}
use Rattle.nys_agreement.specs.Events.Event.{Hands}
use Rattle.nys_agreement.specs.Assembly as machine
use Rattle.nys_stmt.specs.declared.records.Record.{Record}
use Rattle.nys_rules.specs.declared.rule.Rule.{Rule}
use Rattle.nys_rules.specs.Dropping.{verdict}
use Rattle.nys_rules.specs.Events.{Plain}
use Rattle.nys_rules.specs.Handling.{acts_by}
use Rattle.nys_rules.specs.Happening.{HappenAll}
use Rattle.nys_rules.specs.Noting.{noted}
use Rattle.nys_rules.specs.Rules.{due}
use Rattle.nys_rules.specs.Scope.{olympus}
use Rattle.nys_rules.specs.Taking.{acts_of, taken}
use Rattle.nys_rules.specs.View.{entering, first_view, View, with_links}
use Rattle.nys_rules.specs.World.{fresh_world, is_honest, Setting, World}
use Rattle.nys_rules.proofs.CertificateLemmas.{both_true}
use Rattle.nys_laws.specs.Worlds.{InEachWorld}
use Rattle.nys_laws.proofs.EventKeeping.{ActsAs, happen_fact, IsAccepted, WorldsKeep}
use Rattle.nys_laws.proofs.GrownLemmas.{with_step}
use Rattle.nys_laws.proofs.LedgerLemmas.{none_made}
use Rattle.nys_laws.proofs.LiveLemmas.{not_true}
use Rattle.nys_laws.proofs.OlympusLemmas.{none_due}
use Rattle.nys_follows.specs.Follows.{FollowsMachine, IsTruthful, LeadsTo, Reached, statement_of, Tracks}
use Rattle.nys_follows.specs.Scenario.{IsScenario}
use Rattle.nys_follows.proofs.FeedingSteps.{known_steps}
use Rattle.nys_follows.proofs.FeedingWorlds.{decisive_known, followable_of, IsKnown, known_first, set_up_of}
use Rattle.nys_follows.proofs.InputSteps.{asking_tracks, input_tracks}
use Rattle.nys_follows.proofs.LeadingLemmas.{goes_further, leads_on, LeadsStill, stays}
use Rattle.nys_follows.proofs.OlympusOpens.{opens_track}
use Rattle.nys_follows.proofs.OlympusSteps.{decides_track, hears_track, retires_track, wedges_track}

-- each rule that is due at the node of an honest host is followed
abbrev pub RulesFollow : {S : Type 0} → Setting S → Type 0
RulesFollow setting = (w : World) (m : machine.Assembly) → IsKnown setting w → Reached setting m
    → Tracks setting w m
    → (g : ℕ) (v : View) (rule : Rule) → IsTruthful setting g → w.nodes g ≡ v → due setting.scope v ≡ Some rule
    → LeadsStill setting m (Tracks setting (with_step g (taken setting.scope v rule) (acts_of setting.scope v rule) w))

-- so is each record that it doesn't drop
abbrev pub RecordsFollow : {S : Type 0} → Setting S → Type 0
RecordsFollow setting = (w : World) (m : machine.Assembly) → IsKnown setting w → Reached setting m
    → Tracks setting w m
    → (g : ℕ) (v : View) (r : Record) → IsTruthful setting g → w.nodes g ≡ v → verdict setting.scope v r ≡ None
    → IsAccepted setting w v.me r
    → LeadsStill setting m (Tracks setting (with_step g (noted setting.scope v r) (acts_by setting.scope v r) w))

-- the first world is the machine's
pub first_tracks : {S : Type 0} (setting : Setting S) → Tracks setting (fresh_world setting) machine.beginning
unfolding fresh_world first_view entering with_links
first_tracks setting = record {
  nodes = record {
    each = λ g honest. record {
      me = refl;
      epoch_is = refl;
      wedged_is = refl;
      log_is = λ h. refl;
      waiting_is = refl;
      lives = λ h low. refl;
      begins = λ h low kept. refl;
    };
    no_others = λ g h liar. refl;
  };
  top = record {
    top_is = refl;
    wedged_is = refl;
    decided_is = λ h. refl;
    decided_now_is = λ h. refl;
    retired_is = λ h. refl;
    begins = λ h. refl;
    lives = λ h low kept. refl;
    still = λ h none. refl;
    apart = λ h decided_now. absurd (cc);
  };
  ledger = record {
    here = λ g s has. absurd (none_made g (statement_of s) has);
    there = λ g s has. absurd has;
    makers = λ g s has. absurd (none_made g (statement_of s) has);
    opened = λ e lengths has. absurd (none_made olympus _ has);
    inherited = λ e h s c has. absurd (none_made olympus _ has);
  };
  run = record { long = λ h. refl; run_is = refl };
}

-- an honest party that isn't the Olympus is a host that doesn't lie
pub truthful_of : {S : Type 0} (setting : Setting S) (g : ℕ) → g ≢ olympus → is_honest setting g ≡ true
    → IsTruthful setting g
truthful_of {S} setting g ne honest =
    let low = nat_lt g setting.scope.rules.hosts in
    let other = subst (λ (b : Bool). (b || (low && not (setting.liars g))) ≡ true) (ne_eqb g olympus ne) honest in
    let both = both_true low (not (setting.liars g)) other in
    record { host = (Decides-ltb g setting.scope.rules.hosts).0 both.0; honest = not_true (setting.liars g) both.1 }

-- a world that is known, and that the machine comes to by events that go on from a start
abbrev pub FollowsKnown : {S : Type 0} → Setting S → machine.Assembly → World → Type 0
FollowsKnown setting start w = IsKnown setting w × LeadsTo setting start (Tracks setting w)

-- each step of such a world
follow_step : {S : Type 0} (setting : Setting S) (start : machine.Assembly) → Reached setting start → (w next : World)
    → FollowsKnown setting start w
    → (IsKnown setting w → IsKnown setting next)
    → ((m : machine.Assembly) → Reached setting m → Tracks setting w m → LeadsTo setting m (Tracks setting next))
    → FollowsKnown setting start next
follow_step setting start from w next k known step =
    (known k.0, goes_further setting start (Tracks setting w) (Tracks setting next) from k.1 step)

-- each step that hands nothing
follow_on_still : {S : Type 0} (setting : Setting S) (start : machine.Assembly) → Reached setting start → (w next : World)
    → FollowsKnown setting start w
    → (IsKnown setting w → IsKnown setting next)
    → ((m : machine.Assembly) → Reached setting m → Tracks setting w m → LeadsStill setting m (Tracks setting next))
    → FollowsKnown setting start next
follow_on_still setting start from w next k known step =
    follow_step setting start from w next k known
    (λ m reached tracks. leads_on setting m (Tracks setting next) (step m reached tracks))

-- each step that the machine doesn't see
follow_still : {S : Type 0} (setting : Setting S) (start : machine.Assembly) (w next : World)
    → FollowsKnown setting start w
    → (IsKnown setting w → IsKnown setting next)
    → ((m : machine.Assembly) → Tracks setting w m → Tracks setting next m) → FollowsKnown setting start next
follow_still setting start w next k known same =
    (known k.0, record { events = k.1.events; follows = k.1.follows; fact = same _ k.1.fact })

-- a rule, at whatever number: none is due where the Olympus stands
pub rule_follows : {S : Type 0} (setting : Setting S) → IsScenario setting → RulesFollow setting → (w : World)
    → IsKnown setting w → (g : ℕ) (v : View) (rule : Rule) → ActsAs setting w g v
    → due setting.scope v ≡ Some rule
    → (m : machine.Assembly) → Reached setting m → Tracks setting w m
    → LeadsStill setting m (Tracks setting (with_step g (taken setting.scope v rule) (acts_of setting.scope v rule) w))
rule_follows setting asked rules w known g v rule acting is m reached k = elim (cases_eq g olympus) [
  | inl here ↦
      let same : w.nodes olympus ≡ v = ap w.nodes (sym here) ∙ acting.view in
      let me = subst (λ (x : View). x.me ≡ olympus) same known.history.1.nobody in
      absurd (none_due setting.scope (set_up_of setting asked) v me rule is)
  | inr other ↦ rules w m known reached k g v rule (truthful_of setting g other acting.honest) acting.view is
]

-- each step of a world keeps that it follows the machine, where rules and records are followed
pub follow_steps : {S : Type 0} (setting : Setting S) → IsScenario setting → RulesFollow setting
    → RecordsFollow setting → (start : machine.Assembly) → Reached setting start
    → WorldsKeep setting (FollowsKnown setting start)
follow_steps {S} setting asked rules records start from = record {
  rules = λ w g v rule acting is k.
      follow_on_still setting start from w _ k (known.rules w g v rule acting is)
      (rule_follows setting asked rules w k.0 g v rule acting is);
  records = λ w g v r acting host is some k.
      follow_on_still setting start from w _ k (known.records w g v r acting host is some)
      (λ m reached tracks.
      records w m k.0 reached tracks g v r (truthful_of setting g host acting.honest) acting.view is some);
  inputs = λ w g v payload may acting room k.
      follow_step setting start from w _ k (known.inputs w g v payload may acting room)
      (λ m reached tracks. record {
        events = Hands g payload ∷ [];
        follows = (tt, tt);
        fact = input_tracks setting w m g v payload acting tracks;
      });
  asking = λ w g v acting k.
      follow_still setting start w _ k (known.asking w g v acting)
      (λ m tracks. asking_tracks setting w m g v acting tracks);
  hears = λ w r is some k.
      follow_still setting start w _ k (known.hears w r is some) (λ m tracks. hears_track setting w m r tracks);
  wedges = λ w is k.
      follow_on_still setting start from w _ k (known.wedges w is) (λ m reached tracks. wedges_track setting w m tracks);
  decides = λ w h after answer decides k.
      follow_on_still setting start from w _ k (known.decides w h after answer decides)
      (λ m reached tracks.
      decides_track setting (followable_of setting asked) w m reached tracks (decisive_known setting asked w k.0)
      h after answer decides);
  retires = λ w h is k.
      follow_on_still setting start from w _ k (known.retires w h is) (λ m reached tracks. retires_track setting w m h tracks is);
  epochs = λ w epoch is k.
      follow_on_still setting start from w _ k (known.epochs w epoch is)
      (λ m reached tracks. opens_track setting (followable_of setting asked) w m reached tracks epoch is);
  packets = λ w event packets brings k.
      follow_still setting start w _ k (known.packets w event packets brings)
      (λ m t. record { nodes = t.nodes; top = t.top; ledger = t.ledger; run = t.run });
  told = λ w events delivered injected takes notes k.
      follow_still setting start w _ k (known.told w events delivered injected takes notes)
      (λ m t. record { nodes = t.nodes; top = t.top; ledger = t.ledger; run = t.run });
}
  where
    known : WorldsKeep setting (IsKnown setting)
    known = known_steps setting asked

-- whatever events follow a world, events of the machine go on from the one that it has of it
pub follow_on : {S : Type 0} (setting : Setting S) → IsScenario setting → RulesFollow setting → RecordsFollow setting
    → (w next : World) (events : List Plain) → HappenAll setting w events (Ok next) → IsKnown setting w
    → (m : machine.Assembly) → Reached setting m → Tracks setting w m → LeadsTo setting m (Tracks setting next)
follow_on setting asked rules records w next events happen known m from tracks =
    (happen_fact setting (FollowsKnown setting m) (follow_steps setting asked rules records m from) w next events happen
    (known, leads_on setting m (Tracks setting w) (stays setting m (Tracks setting w) tracks))).1

-- so each world follows it
pub follow_worlds : {S : Type 0} (setting : Setting S) → IsScenario setting → RulesFollow setting
    → RecordsFollow setting
    → InEachWorld setting (FollowsMachine setting)
follow_worlds setting asked rules records events w happen =
    let on = follow_on setting asked rules records (fresh_world setting) w events happen (known_first setting asked)
    machine.beginning (record { events = []; follows = tt; is = refl }) (first_tracks setting) in
    record {
      machine = after_all machine.beginning on.events;
      reached = record { events = on.events; follows = on.follows; is = refl };
      tracks = on.fact;
    }

-- What each event hands to honest hosts: the machine that a world follows has it as handed, and hands on
-- events of its own alone.
use Rattle.std.proofs.Common.{◌≡◌, ◌≢◌, ℕ, Bool, true, false, ℤ, List, [], ◌∷◌, ◌++◌, Ok, refl, ap, sym, subst, ◌∙◌, inl, inr, append-nil}
use Rattle.std.specs.Prelude.{◌==◌, ◌&&◌, if◌then◌else◌, length, nat_lt}
use Rattle.std.proofs.lemmas.Bool.{cases_eq, eq-eqb, ne_eqb}
use Rattle.nys_source.specs.Tables.{put}
use Rattle.nys_agreement.specs.After.{after, after_all}
use Rattle.nys_agreement.specs.Events.Event.{Hands}
use Rattle.nys_agreement.specs.Assembly as machine
use Rattle.nys_agreement.proofs.TableLemmas.{put_here, put_there}
use Rattle.nys_rules.specs.Events.{Plain}
use Rattle.nys_rules.specs.Events.Plain.{Input, Deliver, Flush, Exchange, Ask, Bytes, Say, Bundle, Steal, Wedge, Decide, Retire, Open}
use Rattle.nys_rules.specs.Handling.{with_input}
use Rattle.nys_rules.specs.Happening.{Happens}
use Rattle.nys_rules.specs.Packets.{nothing}
use Rattle.nys_rules.specs.View.{View}
use Rattle.nys_rules.specs.World.{is_honest, Setting, World}
use Rattle.nys_laws.specs.Worlds.{InEachWorld}
use Rattle.nys_laws.proofs.EventKeeping.{ActsAs, happens_by, input_by, IsHanded, Nothing, WorldsKeep, WorldsKeepBy}
use Rattle.nys_laws.proofs.GrownLemmas.{with_step}
use Rattle.nys_follows.specs.Follows.{FollowsMachine, Reached, Tracks}
use Rattle.nys_follows.specs.Promises.{inputs_kept, IsHonestHost}
use Rattle.nys_follows.specs.Scenario.{IsScenario}
use Rattle.nys_follows.proofs.FeedingFollows.{rule_follows, truthful_of}
use Rattle.nys_follows.proofs.FeedingRecords.{each_follows, records_follow}
use Rattle.nys_follows.proofs.FeedingRules.{rules_follow}
use Rattle.nys_follows.proofs.FeedingSteps.{known_steps}
use Rattle.nys_follows.proofs.FeedingWorlds.{decisive_known, followable_of, IsKnown, known_worlds}
use Rattle.nys_follows.proofs.HandedWorlds.{handed_is}
use Rattle.nys_follows.proofs.InputSteps.{asking_tracks, input_tracks}
use Rattle.nys_follows.proofs.LeadingLemmas.{leads_on, LeadsStill, reaches}
use Rattle.nys_follows.proofs.OlympusOpens.{opens_track}
use Rattle.nys_follows.proofs.OlympusSteps.{decides_track, hears_track, retires_track, same_put, wedges_track}
use Rattle.nys_follows.proofs.PromiseLemmas.{truthful_host}

-- what an event hands to a host: an input its payload, where fewer than 1,024 inputs wait at the node
abbrev pub handed_then : Plain → World → (h : ℕ) → List (List ℤ)
handed_then (Input g payload) w h =
    if g == h && nat_lt (length (w.nodes h).waiting) 1024 then payload ∷ [] else []
handed_then event w h = []

-- whatever event happens next, the node of an honest host keeps what it kept, and then what the event hands to it
abbrev pub EventsHand : {S : Type 0} → Setting S → World → Type 0
EventsHand setting w = (event : Plain) (next : World) → Happens setting w event (Ok next)
    → (h : ℕ) → IsHonestHost setting h → inputs_kept next h ≡ inputs_kept w h ++ handed_then event w h

-- a world that is known follows an assembly of the machine in which hosts were handed this
pub record HasHanded {S : Type 0} (setting : Setting S) (handed : ℕ → List (List ℤ)) (w : World) : Type 0 where
  pub known : IsKnown setting w
  pub m : machine.Assembly
  pub reached : Reached setting m
  pub tracks : Tracks setting w m
  pub same : (h : ℕ) → m.handed h ≡ handed h

-- a step that hands nothing
still_step : {S : Type 0} (setting : Setting S) (handed : ℕ → List (List ℤ)) (w next : World)
    → HasHanded setting handed w → (IsKnown setting w → IsKnown setting next)
    → ((m : machine.Assembly) → Reached setting m → Tracks setting w m → LeadsStill setting m (Tracks setting next))
    → HasHanded setting handed next
still_step setting handed w next k known step =
    let on = step k.m k.reached k.tracks in
    record {
      known = known k.known;
      m = after_all k.m on.events;
      reached = reaches setting k.m (Tracks setting next) k.reached (leads_on setting k.m (Tracks setting next) on);
      tracks = on.fact;
      same = λ h. on.still h ∙ k.same h;
    }

-- a step that the machine doesn't see
same_step : {S : Type 0} (setting : Setting S) (handed : ℕ → List (List ℤ)) (w next : World)
    → HasHanded setting handed w → (IsKnown setting w → IsKnown setting next)
    → ((m : machine.Assembly) → Tracks setting w m → Tracks setting next m) → HasHanded setting handed next
same_step setting handed w next k known same = record {
  known = known k.known;
  m = k.m;
  reached = k.reached;
  tracks = same k.m k.tracks;
  same = k.same;
}

-- each step but an input hands nothing
pub handed_steps : {S : Type 0} (setting : Setting S) → IsScenario setting → (handed : ℕ → List (List ℤ))
    → WorldsKeepBy setting Nothing (HasHanded setting handed)
handed_steps {S} setting asked handed = record {
  rules = λ w g v rule acting is k.
      still_step setting handed w _ k (known.rules w g v rule acting is)
      (rule_follows setting asked (rules_follow setting asked) w k.known g v rule acting is);
  records = λ w g v r acting host is some k.
      still_step setting handed w _ k (known.records w g v r acting host is some)
      (λ m reached tracks.
      records_follow setting asked w m k.known reached tracks g v r (truthful_of setting g host acting.honest)
      acting.view is some);
  inputs = λ w g v payload none acting room k. absurd none;
  asking = λ w g v acting k.
      same_step setting handed w _ k (known.asking w g v acting)
      (λ m tracks. asking_tracks setting w m g v acting tracks);
  hears = λ w r is some k.
      same_step setting handed w _ k (known.hears w r is some) (λ m tracks. hears_track setting w m r tracks);
  wedges = λ w is k.
      still_step setting handed w _ k (known.wedges w is) (λ m reached tracks. wedges_track setting w m tracks);
  decides = λ w h after answer decides k.
      still_step setting handed w _ k (known.decides w h after answer decides)
      (λ m reached tracks.
      decides_track setting (followable_of setting asked) w m reached tracks (decisive_known setting asked w k.known)
      h after answer decides);
  retires = λ w h is k.
      still_step setting handed w _ k (known.retires w h is)
      (λ m reached tracks. retires_track setting w m h tracks is);
  epochs = λ w epoch is k.
      still_step setting handed w _ k (known.epochs w epoch is)
      (λ m reached tracks. opens_track setting (followable_of setting asked) w m reached tracks epoch is);
  packets = λ w event packets brings k.
      same_step setting handed w _ k (known.packets w event packets brings)
      (λ m t. record { nodes = t.nodes; top = t.top; ledger = t.ledger; run = t.run });
  told = λ w events delivered injected takes notes k.
      same_step setting handed w _ k (known.told w events delivered injected takes notes)
      (λ m t. record { nodes = t.nodes; top = t.top; ledger = t.ledger; run = t.run });
}
  where
    known : WorldsKeep setting (IsKnown setting)
    known = known_steps setting asked

-- an input that finds room is handed
input_handed : {S : Type 0} (setting : Setting S) → IsScenario setting → (handed : ℕ → List (List ℤ)) (w : World) (g : ℕ) (v : View)
    (payload : List ℤ) → ActsAs setting w g v → nat_lt (length v.waiting) 1024 ≡ true → HasHanded setting handed w
    → HasHanded setting (put handed g (handed g ++ payload ∷ [])) (with_step g (with_input payload v) nothing w)
input_handed setting asked handed w g v payload acting room k =
    let next = with_step g (with_input payload v) nothing w in
    let tracks = input_tracks setting w k.m g v payload acting k.tracks in
    record {
      known = (known_steps setting asked).inputs w g v payload tt acting room k.known;
      m = after k.m (Hands g payload);
      reached = reaches setting k.m (Tracks setting next) k.reached
          (record { events = Hands g payload ∷ []; follows = (tt, tt); fact = tracks });
      tracks = tracks;
      same = same_put k.m.handed handed g (k.m.handed g ++ payload ∷ []) (handed g ++ payload ∷ []) k.same
          (ap (λ xs. xs ++ payload ∷ []) (k.same g));
    }

-- what an honest host was handed in such a world
handed_there : {S : Type 0} (setting : Setting S) → IsScenario setting → (handed : ℕ → List (List ℤ)) (w : World) (h : ℕ)
    → IsHonestHost setting h → HasHanded setting handed w → inputs_kept w h ≡ handed h
handed_there setting asked handed w h one k =
    sym (handed_is setting asked w k.m k.reached k.tracks h (truthful_host setting asked h one.host one.honest)) ∙ k.same h

-- an event that is no input
others_hand : {S : Type 0} (setting : Setting S) → IsScenario setting → (handed : ℕ → List (List ℤ)) (w next : World) (event : Plain)
    → ((g : ℕ) (payload : List ℤ) → IsHanded event g payload → ⊥) → Happens setting w event (Ok next)
    → HasHanded setting handed w
    → (h : ℕ) → IsHonestHost setting h → inputs_kept next h ≡ inputs_kept w h ++ []
others_hand setting asked handed w next event none happens k h one =
    let on = happens_by setting Nothing (HasHanded setting handed) (handed_steps setting asked handed) w next event none happens k in
    handed_there setting asked handed next h one on ∙ sym (handed_there setting asked handed w h one k)
    ∙ sym (append-nil (inputs_kept w h))

-- an input, by whether its host is honest and its queue has room
inputs_hand : {S : Type 0} (setting : Setting S) → IsScenario setting → (handed : ℕ → List (List ℤ)) (w next : World) (g : ℕ)
    (payload : List ℤ) → Happens setting w (Input g payload) (Ok next) → HasHanded setting handed w
    → (h : ℕ) → IsHonestHost setting h → inputs_kept next h ≡ inputs_kept w h ++ handed_then (Input g payload) w h
inputs_hand {S} setting asked handed w next g payload happens k h one =
    by (is_honest setting g) (nat_lt (length (w.nodes g).waiting) 1024) refl refl
  where
    Claim : Type 0
    Claim = inputs_kept next h ≡ inputs_kept w h ++ handed_then (Input g payload) w h

    -- another host, or no room: nothing is handed to h
    nothing_more : HasHanded setting handed next → handed_then (Input g payload) w h ≡ [] → Claim
    nothing_more on none =
        handed_there setting asked handed next h one on ∙ sym (handed_there setting asked handed w h one k)
        ∙ sym (append-nil (inputs_kept w h)) ∙ ap (λ xs. inputs_kept w h ++ xs) (sym none)

    other : g ≢ h → handed_then (Input g payload) w h ≡ []
    other ne = rw (ne_eqb g h ne) refl

    by : (honest room : Bool) → is_honest setting g ≡ honest → nat_lt (length (w.nodes g).waiting) 1024 ≡ room → Claim
    by true true honest room =
        let more = put handed g (handed g ++ payload ∷ []) in
        let on = input_by setting (HasHanded setting handed) (HasHanded setting more) (handed_steps setting asked more)
        (λ x notes b. (handed_steps setting asked handed).told x x.events x.delivered x.injected x.takes notes b) w next g payload
        (λ x acting is b. input_handed setting asked handed x g (w.nodes g) payload acting is b)
        (λ x is b. absurd (cc)) (λ lies b. absurd (cc)) happens k in
        elim (cases_eq g h) [
          | inl same ↦ subst (λ x. inputs_kept next x ≡ inputs_kept w x ++ handed_then (Input g payload) w x) same
              (handed_there setting asked more next g (subst (IsHonestHost setting) (sym same) one) on
              ∙ put_here handed g (handed g ++ payload ∷ [])
              ∙ ap (λ xs. xs ++ payload ∷ []) (sym (handed_there setting asked handed w g (subst (IsHonestHost setting) (sym same) one) k))
              ∙ rw (eq-eqb g g refl, room) refl)
          | inr ne ↦
              handed_there setting asked more next h one on
              ∙ put_there handed g (handed g ++ payload ∷ []) h (λ e. ne (sym e))
              ∙ sym (handed_there setting asked handed w h one k)
              ∙ sym (append-nil (inputs_kept w h)) ∙ ap (λ xs. inputs_kept w h ++ xs) (sym (other ne))
        ]
    by true false honest room =
        let on = input_by setting (HasHanded setting handed) (HasHanded setting handed) (handed_steps setting asked handed)
        (λ x notes b. (handed_steps setting asked handed).told x x.events x.delivered x.injected x.takes notes b) w next g payload
        (λ x acting is b. absurd (cc)) (λ x is b. b) (λ lies b. absurd (cc)) happens k in
        elim (cases_eq g h) [
          | inl same ↦ nothing_more on (subst (λ x. handed_then (Input g payload) w x ≡ []) same (rw (eq-eqb g g refl, room) refl))
          | inr ne ↦ nothing_more on (other ne)
        ]
    by false room honest is =
        let on = input_by setting (HasHanded setting handed) (HasHanded setting handed) (handed_steps setting asked handed)
        (λ x notes b. (handed_steps setting asked handed).told x x.events x.delivered x.injected x.takes notes b) w next g payload
        (λ x acting is b. let yes = acting.honest in absurd (cc)) (λ x is b. b) (λ lies b. b) happens k in
        nothing_more on (other (λ same. let yes = one.honest in let no = subst (λ x. is_honest setting x ≡ false) same honest in absurd (cc)))

-- each event hands what it says
pub events_hand : {S : Type 0} (setting : Setting S) → IsScenario setting → InEachWorld setting (EventsHand setting)
events_hand {S} setting asked events w happen event next happens h one = by event happens
  where
    f : FollowsMachine setting w
    f = each_follows setting asked events w happen

    start : HasHanded setting f.machine.handed w
    start = record {
      known = known_worlds setting asked events w happen;
      m = f.machine;
      reached = f.reached;
      tracks = f.tracks;
      same = λ x. refl;
    }

    still : (e : Plain) → ((g : ℕ) (payload : List ℤ) → IsHanded e g payload → ⊥) → Happens setting w e (Ok next)
        → inputs_kept next h ≡ inputs_kept w h ++ []
    still e none happens = others_hand setting asked f.machine.handed w next e none happens start h one

    by : (e : Plain) → Happens setting w e (Ok next) → inputs_kept next h ≡ inputs_kept w h ++ handed_then e w h
    by (Input g payload) happens = inputs_hand setting asked f.machine.handed w next g payload happens start h one
    by (Deliver k) happens = still (Deliver k) (λ g payload is. is) happens
    by Flush happens = still Flush (λ g payload is. is) happens
    by Exchange happens = still Exchange (λ g payload is. is) happens
    by (Ask x) happens = still (Ask x) (λ g payload is. is) happens
    by (Bytes to frame) happens = still (Bytes to frame) (λ g payload is. is) happens
    by (Say a to statement) happens = still (Say a to statement) (λ g payload is. is) happens
    by (Bundle a to packets) happens = still (Bundle a to packets) (λ g payload is. is) happens
    by (Steal a to statement) happens = still (Steal a to statement) (λ g payload is. is) happens
    by Wedge happens = still Wedge (λ g payload is. is) happens
    by (Decide x) happens = still (Decide x) (λ g payload is. is) happens
    by (Retire x) happens = still (Retire x) (λ g payload is. is) happens
    by Open happens = still Open (λ g payload is. is) happens

-- In each world of a scenario Delivers agree, logs are near to those of honest hosts, inputs are taken in
-- their order, and what is decided is handed over, whatever events follow.
use Rattle.std.proofs.Common.{◌≡◌, ℕ, ◌+◌, ◌≤◌, ◌⊎◌, true, ℤ, List, [], ◌∷◌, ◌++◌, length, Ok, refl, ap, sym, subst, ◌∙◌, inl, inr, arith, append-nil, append_assoc}
use Rattle.nys_bytes.specs.declared.content.Content.{Content}
use Rattle.nys_source.specs.Contents.{contents_taken}
use Rattle.nys_agreement.specs.After.{after, after_all, Follows}
use Rattle.nys_agreement.specs.Alone.{inputs_in}
use Rattle.nys_agreement.specs.Claims.{DeliverOne as OneDelivers, IsPrefixOf, TakeInputs}
use Rattle.nys_agreement.specs.Events.{Event}
use Rattle.nys_agreement.specs.Events.Event.{Decides, Enters, Hands, Inherits, Logs, Opens, Retires, Says, TopWedges, Wedges}
use Rattle.nys_agreement.specs.Said.{Said}
use Rattle.nys_agreement.specs.Assembly as machine
use Rattle.nys_agreement.proofs.Agreement.{delivers_one, hands_over}
use Rattle.nys_agreement.proofs.ListLemmas.{get_inside}
use Rattle.nys_agreement.proofs.Spelling.{takes_inputs}
use Rattle.nys_agreement.proofs.TableLemmas.{put_case}
use Rattle.nys_rules.specs.Events.{Plain}
use Rattle.nys_rules.specs.Forged.{HasMade}
use Rattle.nys_rules.specs.Happening.{HappenAll}
use Rattle.nys_rules.specs.Premises.{net_of}
use Rattle.nys_rules.specs.Spelling.{printed_run}
use Rattle.nys_rules.specs.World.{fresh_world, Setting, World}
use Rattle.nys_laws.specs.Once.{SayOnce, SaysOnce}
use Rattle.nys_laws.specs.Worlds.{InEachWorld}
use Rattle.nys_laws.proofs.OwnWorlds.{say_once}
use Rattle.nys_follows.specs.Follows.{FollowsMachine, IsTruthful, LeadsTo, Reached, statement_of, Tracks}
use Rattle.nys_follows.specs.Promises.{AreNear, DeliverOne, HandsOver, inputs_kept, InputsStay, IsHonestHost}
use Rattle.nys_follows.specs.Scenario.{IsScenario}
use Rattle.nys_follows.proofs.FeedingRecords.{each_follows, later_follows}
use Rattle.nys_follows.proofs.FeedingWorlds.{followable_of, known_worlds}
use Rattle.nys_follows.proofs.LeadingLemmas.{kept_there, reaches}
use Rattle.nys_follows.proofs.PromiseLemmas.{honest_one, log_there, machine_keeps, promised, taken_is, truthful_host}
use Rattle.nys_follows.proofs.SpelledWorlds.{truthful_log}

-- honest Delivers for one slot are of one content
pub deliver_one : {S : Type 0} (setting : Setting S) → IsScenario setting → InEachWorld setting DeliverOne
deliver_one setting asked events w happen a b e h s c d one other =
    let f = each_follows setting asked events w happen in
    promised setting asked OneDelivers (delivers_one setting.scope.rules) f.machine f.reached a b e h s c d
    (f.tracks.ledger.here a (Said.Deliver e h s c) one) (f.tracks.ledger.here b (Said.Deliver e h s d) other)

-- who made such a statement is a host that doesn't lie, and it made no other for the slot
says_one : {S : Type 0} (setting : Setting S) → IsScenario setting → (w : World) (f : FollowsMachine setting w) → SayOnce w
    → (g : ℕ) (e h s : ℕ) (c d : Content) (said : ℕ → ℕ → ℕ → Content → Said)
    → ((x : SaysOnce w.ledger g) → HasMade w.ledger g (statement_of (said e h s d)) → c ≡ d)
    → HasMade w.ledger g (statement_of (said e h s c)) → HasMade w.ledger g (statement_of (said e h s d)) → c ≡ d
says_one setting asked w f once g e h s c d said same one other =
    let maker = f.tracks.ledger.makers g (said e h s c) one in
    let low = maker.host in
    let few = asked.hosts in
    same (once g (λ is. omega (arith, low, few, is))) other

-- no party says two things of one kind for a slot
pub says_once : {S : Type 0} (setting : Setting S) → IsScenario setting
    → InEachWorld setting (λ w. (g : ℕ) → SaysOnce w.ledger g)
says_once setting asked events w happen g =
    let f = each_follows setting asked events w happen in
    let once = say_once setting events w happen in
    record {
      offers = λ e h s c d one other.
          says_one setting asked w f once g e h s c d Said.Offer (λ x more. x.offers e h s c d one more) one other;
      orders = λ e h s c d one other.
          says_one setting asked w f once g e h s c d Said.Order (λ x more. x.orders e h s c d one more) one other;
      delivers = λ e h s c d one other.
          says_one setting asked w f once g e h s c d Said.Deliver (λ x more. x.delivers e h s c d one more) one other;
    }

-- the last entry of a decided log was delivered by an honest guard whose log had reached it
decided_near : {S : Type 0} (setting : Setting S) → IsScenario setting → (w : World) (f : FollowsMachine setting w) (h : ℕ)
    (log : List Content) → f.machine.decided h ≡ log → (log ≡ [])
    ⊎ ((g : ℕ) × IsHonestHost setting g × (length log ≤ length ((w.nodes g).logs h) + 1))
decided_near setting asked w f h [] is = inl refl
decided_near setting asked w f h (c ∷ log) is =
    let ok = (machine_keeps setting asked w f).sound in
    let long = ap length is in
    let x = get_inside (f.machine.decided h) (length log) (omega (arith, long)) in
    let d = ok.evidence.decisions h (length log) x.0 x.1 in
    let said = Said.Deliver d.epoch h (length log) x.0 in
    let t = f.tracks.ledger.makers d.maker said (f.tracks.ledger.there d.maker said d.delivered) in
    let within = (ok.safe.votes.delivers d.maker d.epoch h (length log) x.0 d.delivered).within in
    let same = ap length (log_there setting w f d.maker h t) in
    inr (d.maker, honest_one setting d.maker t, omega (arith, within, same))

-- logs are near
pub are_near : {S : Type 0} (setting : Setting S) → IsScenario setting → InEachWorld setting (AreNear setting)
are_near setting asked events w happen =
    let f = each_follows setting asked events w happen in
    let taking = promised setting asked (TakeInputs setting.scope.rules) (takes_inputs setting.scope.rules) f.machine f.reached in
    record {
      decided = λ h. decided_near setting asked w f h (w.olympus.decided h) (f.tracks.top.decided_is h);
      own = λ g h one has.
          let host = truthful_host setting asked h one.host one.honest in
          let near = taking.own g h host.honest in
          let here = ap length (log_there setting w f g h (truthful_log setting asked w g h has)) in
          let own = ap length (log_there setting w f h h host) in
          omega (arith, near, here, own);
    }

-- what the machine has as handed to an honest host its node took in its own log, or keeps waiting
pub handed_is : {S : Type 0} (setting : Setting S) → IsScenario setting → (w : World) (m : machine.Assembly)
    → Reached setting m → Tracks setting w m → (h : ℕ) → IsTruthful setting h → m.handed h ≡ inputs_kept w h
handed_is setting asked w m reached tracks h t =
    let node = tracks.nodes.each h t in
    sym ((kept_there setting (followable_of setting asked) m reached).inputs.queue h)
    ∙ (ap (λ (z : List Content). inputs_in z ++ m.waiting h) (node.log_is h)
    ∙ ap (λ (z : List (List ℤ)). inputs_in ((w.nodes h).logs h) ++ z) node.waiting_is)

-- inputs are taken in the order in which the node keeps them
pub inputs_in_order : {S : Type 0} (setting : Setting S) → IsScenario setting → (events : List Plain) (w : World)
    → HappenAll setting (fresh_world setting) events (Ok w) → (h : ℕ) → IsHonestHost setting h
    → IsPrefixOf (inputs_in (contents_taken setting.scope.rules (printed_run setting.scope w) h)) (inputs_kept w h)
inputs_in_order setting asked events w happen h one =
    let f = each_follows setting asked events w happen in
    let rules = setting.scope.rules in
    let t = truthful_host setting asked h one.host one.honest in
    let taking = promised setting asked (TakeInputs rules) (takes_inputs rules) f.machine f.reached in
    let same = (machine_keeps setting asked w f).truth.run_ok.taken h ∙ sym (taken_is setting asked w f h) in
    subst (IsPrefixOf (inputs_in (contents_taken rules (printed_run setting.scope w) h)))
    (handed_is setting asked w f.machine f.reached f.tracks h t)
    (subst (λ (l : List Content). IsPrefixOf (inputs_in l) (f.machine.handed h)) same (taking.inputs h t.honest))

-- an event of the machine takes away nothing that was handed over
handed_after : (m : machine.Assembly) (event : Event) (h : ℕ) → IsPrefixOf (m.handed h) ((after m event).handed h)
handed_after m (Hands x payload) h =
    put_case (IsPrefixOf (m.handed h)) m.handed x (m.handed x ++ payload ∷ []) h
    (λ same. (payload ∷ [], ap (λ n. m.handed n ++ payload ∷ []) same)) (λ other. ([], append-nil (m.handed h)))
handed_after m (Says g said) h = ([], append-nil (m.handed h))
handed_after m (Logs g x c) h = ([], append-nil (m.handed h))
handed_after m (Wedges g) h = ([], append-nil (m.handed h))
handed_after m (Enters g e) h = ([], append-nil (m.handed h))
handed_after m (Inherits g x c) h = ([], append-nil (m.handed h))
handed_after m TopWedges h = ([], append-nil (m.handed h))
handed_after m (Decides x more) h = ([], append-nil (m.handed h))
handed_after m (Retires x) h = ([], append-nil (m.handed h))
handed_after m Opens h = ([], append-nil (m.handed h))

-- nor do more events
handed_later : (m : machine.Assembly) (events : List Event) (h : ℕ) → IsPrefixOf (m.handed h) ((after_all m events).handed h)
handed_later m [] h = ([], append-nil (m.handed h))
handed_later m (event ∷ events) h =
    let one = handed_after m event h in
    let rest = handed_later (after m event) events h in (
      one.0 ++ rest.0,
      sym (append_assoc (m.handed h) one.0 rest.0) ∙ (ap (λ (z : List (List ℤ)). z ++ rest.0) one.1 ∙ rest.1),
    )

-- the machine goes on from the world that it has of a world
goes_from : {S : Type 0} (setting : Setting S) → IsScenario setting → (before : List Plain) (w : World)
    → HappenAll setting (fresh_world setting) before (Ok w) → (f : FollowsMachine setting w)
    → (events : List Plain) (next : World) → HappenAll setting w events (Ok next)
    → LeadsTo setting f.machine (Tracks setting next)
goes_from setting asked before w happen f events next then =
    later_follows setting asked w next events then (known_worlds setting asked before w happen) f.machine f.reached f.tracks

-- so what was handed to an honest host stays
pub inputs_stay : {S : Type 0} (setting : Setting S) → IsScenario setting
    → InEachWorld setting (InputsStay setting)
inputs_stay setting asked before w happen events next then h one =
    let f = each_follows setting asked before w happen in
    let on = goes_from setting asked before w happen f events next then in
    let t = truthful_host setting asked h one.host one.honest in
    subst (λ (z : List (List ℤ)). IsPrefixOf z (inputs_kept next h)) (handed_is setting asked w f.machine f.reached f.tracks h t)
    (subst (IsPrefixOf (f.machine.handed h))
    (handed_is setting asked next (after_all f.machine on.events) (reaches setting f.machine (Tracks setting next) f.reached on)
    on.fact h t)
    (handed_later f.machine on.events h))

-- what the machine hands over from a world that is reached
handed_over : {S : Type 0} (setting : Setting S) → IsScenario setting → (m : machine.Assembly) → Reached setting m
    → (events : List Event) → Follows setting.scope.rules (net_of setting) m events → (g h : ℕ) → m.decided_now h ≡ true
    → (after_all m events).epoch g ≤ m.top → IsPrefixOf ((after_all m events).log g h) (m.decided h)
handed_over setting asked m r events =
    subst
    (λ (x : machine.Assembly). Follows setting.scope.rules (net_of setting) x events → (g h : ℕ) → x.decided_now h ≡ true
    → (after_all x events).epoch g ≤ x.top → IsPrefixOf ((after_all x events).log g h) (x.decided h))
    (sym r.is)
    (hands_over setting.scope.rules (net_of setting) (followable_of setting asked).few r.events events r.follows)

-- what is decided is handed over
pub hands_on : {S : Type 0} (setting : Setting S) → IsScenario setting → InEachWorld setting (HandsOver setting)
hands_on setting asked before w happen events next then g h decided_now has early =
    let f = each_follows setting asked before w happen in
    let on = goes_from setting asked before w happen f events next then in
    let node = on.fact.nodes.each g (truthful_log setting asked next g h has) in
    let there = node.epoch_is in
    let top = f.tracks.top.top_is in
    subst (λ (z : List Content). IsPrefixOf z (w.olympus.decided h)) (node.log_is h)
    (subst (IsPrefixOf ((after_all f.machine on.events).log g h)) (f.tracks.top.decided_is h)
    (handed_over setting asked f.machine f.reached on.events on.follows g h (f.tracks.top.decided_now_is h ∙ decided_now)
    (omega (arith, there, top, early))))

-- Each step of the run of a world has its evidence there: what a host takes stands in the log of an honest node or
-- in the decided log, and of a message that was voted for or reported an honest guard made an Order.
use Rattle.std.proofs.Common.{◌≡◌, ◌≢◌, ℕ, ◌<◌, List, length, subst, inl, inr, arith}
use Rattle.nys_bytes.specs.declared.content.Content.{Content}
use Rattle.nys_source.specs.Contents.{contents_taken}
use Rattle.nys_stmt.specs.declared.statement.Body.TheVariants as body
use Rattle.nys_stmt.specs.declared.statement.FilledKind.TheVariants as kind
use Rattle.nys_agreement.specs.Claims.{IsPrefixOf}
use Rattle.nys_agreement.specs.Said.Said.{Deliver, Order, Report}
use Rattle.nys_agreement.proofs.Agreement.{Sound, sound}
use Rattle.nys_agreement.proofs.Ledgers.{honest_vouch}
use Rattle.nys_agreement.proofs.ListLemmas.{prefix_all}
use Rattle.nys_rules.specs.Evidence.{AttestsSeen, HasEvidence}
use Rattle.nys_rules.specs.Forged.{HasMade}
use Rattle.nys_rules.specs.Premises.{net_of}
use Rattle.nys_rules.specs.Scope.{olympus}
use Rattle.nys_rules.specs.Sending.{said_in}
use Rattle.nys_rules.specs.Spelling.{printed_run, SpellsLogs}
use Rattle.nys_rules.specs.World.{Setting, World}
use Rattle.nys_laws.specs.Worlds.{InEachWorld}
use Rattle.nys_follows.specs.Follows.{FollowsMachine}
use Rattle.nys_follows.specs.Scenario.{IsScenario}
use Rattle.nys_follows.proofs.FeedingRecords.{each_follows}
use Rattle.nys_follows.proofs.FeedingWorlds.{followable_of, no_olympus}
use Rattle.nys_follows.proofs.PromiseLemmas.{promised}
use Rattle.nys_follows.proofs.SpelledWorlds.{spelled}
use Rattle.nys_evidence.specs.Shown.{IsEvident}
use Rattle.nys_evidence.proofs.SeenLemmas.{reaches_itself}
use Rattle.nys_evidence.proofs.ShownFacts.{AreBorne, AreShown, IsBorne}
use Rattle.nys_evidence.proofs.ShownWorlds.{shown_worlds}

-- what the machine keeps in a world that follows it
machine_sound : {S : Type 0} (setting : Setting S) → IsScenario setting → (w : World) (f : FollowsMachine setting w)
    → Sound (net_of setting) f.machine
machine_sound setting asked w f =
    promised setting asked Sound (sound setting.scope.rules) f.machine f.reached

-- where a party voted for a content, an honest guard ordered it, so its attestations were seen
delivered_seen : {S : Type 0} (setting : Setting S) → IsScenario setting → (w : World) (f : FollowsMachine setting w)
    → AreShown setting w w.nodes w.olympus w.ledger → (m e h s : ℕ) (content : Content)
    → HasMade w.ledger m (said_in e (body.Filled kind.Deliver h s content)) → AttestsSeen setting w e h content
delivered_seen setting asked w f shown m e h s content has =
    let ok = machine_sound setting asked w f in
    let there = f.tracks.ledger.here m (Deliver e h s content) has in
    let one = honest_vouch (net_of setting) (followable_of setting asked).few f.machine.ledger e h (Order e h s content)
    (ok.safe.ledger.backed m e h s content there) in
    let order = f.tracks.ledger.there one.0 (Order e h s content) one.2 in
    let host = no_olympus setting asked one.0 (f.tracks.ledger.makers one.0 (Order e h s content) order) in
    shown.orders one.0 e h s content host order

-- so too where a party reported it, since it or another voted for it
reported_seen : {S : Type 0} (setting : Setting S) → IsScenario setting → (w : World) (f : FollowsMachine setting w)
    → AreShown setting w w.nodes w.olympus w.ledger → (m e h s : ℕ) (content : Content)
    → HasMade w.ledger m (said_in e (body.Filled kind.Report h s content)) → AttestsSeen setting w e h content
reported_seen setting asked w f shown m e h s content has =
    let ok = machine_sound setting asked w f in
    let there = f.tracks.ledger.here m (Report e h s content) has in
    let voted = ok.evidence.reports m e h s content there in
    delivered_seen setting asked w f shown voted.maker e h s content
    (f.tracks.ledger.there voted.maker (Deliver e h s content) voted.delivered)

-- an entry that is borne has its evidence
evidence_of : {S : Type 0} (setting : Setting S) → IsScenario setting → (w : World) → FollowsMachine setting w
    → AreShown setting w w.nodes w.olympus w.ledger → (h s : ℕ) (content : Content) → IsBorne setting w h s content
    → HasEvidence setting w h s content
evidence_of setting asked w f shown h s content borne = record {
  epoch = borne.epoch;
  votes = borne.votes;
  message = elim borne.said [
    | inl voted ↦ delivered_seen setting asked w f shown borne.maker borne.epoch h s content voted
    | inr reported ↦ reported_seen setting asked w f shown borne.maker borne.epoch h s content reported
  ];
}

-- a log whose entries are borne bears those of each list that it is
same_log : {S : Type 0} (setting : Setting S) (w : World) (h : ℕ) (log taken : List Content) → IsPrefixOf log taken
    → length log ≡ length taken → AreBorne setting w h log → AreBorne setting w h taken
same_log setting w h log taken prefix same borne = subst (AreBorne setting w h) (prefix_all log taken prefix same) borne

-- a host of the protocol is no Olympus
below_olympus : {S : Type 0} (setting : Setting S) → IsScenario setting → (g : ℕ) → g < setting.scope.rules.hosts
    → g ≢ olympus
below_olympus setting asked g low same = let few = asked.hosts in omega (arith, few, low, same)

-- what a host takes in the printed run is borne
taken_borne : {S : Type 0} (setting : Setting S) → IsScenario setting → (w : World)
    → AreShown setting w w.nodes w.olympus w.ledger → SpellsLogs setting w
    → (h : ℕ) → h < setting.scope.rules.hosts
    → AreBorne setting w h (contents_taken setting.scope.rules (printed_run setting.scope w) h)
taken_borne setting asked w shown spells h low = elim (spells.longest h low).reached [
  | inl node ↦
      let g = node.0 in
      let has = node.1 in
      same_log setting w h ((w.nodes g).logs h) _ (spells.logs g h has) node.2
      ((shown.views g (below_olympus setting asked g has.host)).logs h)
  | inr top ↦ same_log setting w h (w.olympus.decided h) _ (spells.decided h low) top (shown.top.decided h)
]

-- each world is evident
pub evident_worlds : {S : Type 0} (setting : Setting S) → IsScenario setting → InEachWorld setting (IsEvident setting)
evident_worlds setting asked events w happen h s content low is =
    let shown = shown_worlds setting asked events w happen w (reaches_itself w) in
    let spells = spelled setting asked events w happen in
    evidence_of setting asked w (each_follows setting asked events w happen) shown h s content
    (taken_borne setting asked w shown spells h low s content is)

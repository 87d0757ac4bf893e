-- What an honest host's offer is good for: only its content is ordered, voted for and logged in its slot.
use Rattle.std.proofs.Common.{◌≡◌, ℕ, ◌+◌, ◌<◌, ◌≤◌, ◌&&◌, Some, sym, subst, inl, inr, arith}
use Rattle.std.specs.Prelude.{not, slice_get}
use Rattle.nys_agreement.proofs.ListLemmas.{get_inside}
use Rattle.nys_agreement.specs.Said.{Said, Vouches}
use Rattle.nys_bytes.specs.declared.content.Content.{Content}
use Rattle.nys_hosts.proofs.CountLemmas.{AtLeast-fewer}
use Rattle.nys_hosts.proofs.QuorumLemmas.{AtLeast-honest, honest_are_a_quorum}
use Rattle.nys_hosts.specs.Counts.{hosts_with}
use Rattle.nys_rules.specs.Exchanges.{IsHonestGuard}
use Rattle.nys_rules.specs.Forged.{HasMade}
use Rattle.nys_rules.specs.Premises.{net_of}
use Rattle.nys_rules.specs.Scope.{quorum_at}
use Rattle.nys_rules.specs.Sending.{said_in}
use Rattle.nys_rules.specs.View.{length_of}
use Rattle.nys_rules.specs.World.{Setting, World}
use Rattle.nys_laws.specs.Own.{HasSaid, own_at, Stage}
use Rattle.nys_laws.specs.Own.Stage.{Ordered}
use Rattle.nys_follows.proofs.FeedingFollows.{truthful_of}
use Rattle.nys_follows.proofs.FeedingWorlds.{few_liars_of}
use Rattle.nys_follows.proofs.PromiseLemmas.{machine_keeps}
use Rattle.nys_progress.specs.Statements.{deliver}
use Rattle.nys_progress.proofs.LoggedHere.{logged_here, no_olympus}
use Rattle.nys_progress.proofs.OrderLaw.{IsOffering, not_top, one_offer}
use Rattle.nys_progress.proofs.ReadyContents.{known_fits}
use Rattle.nys_progress.proofs.RelayStages.{many_of, sound_of}
use Rattle.nys_progress.proofs.RelayWorlds.{here_of, IsRelaying, IsStanding, IsVoting, now_of}
use Rattle.nys_progress.proofs.VotedEntries.{many_guards}

-- where all honest guards are
pub standing_of : {S : Type 0} (setting : Setting S) (e h slot : ℕ) (content : Content) (w : World)
    → IsOffering setting e h slot content w → IsStanding setting e h slot content w
standing_of setting e h slot content w r = record {
  reached = r.reached;
  place = r.place;
  going = r.going;
  host = r.host;
  epoch = r.epoch;
  room = r.room;
  tags = r.tags;
  carried = r.carried;
  here = λ g guard. (r.fine g guard).stands;
}

-- the host guards itself
pub own_guard : {S : Type 0} (setting : Setting S) (e h slot : ℕ) (content : Content) (w : World)
    → IsOffering setting e h slot content w → IsHonestGuard setting e h h
own_guard setting e h slot content w r =
    record { host = r.host; honest = r.honest; guards = (r.place.good e r.epoch).own h r.host }

-- an Order for the slot is of the content
pub order_one : {S : Type 0} (setting : Setting S) (e h slot : ℕ) (content : Content) (w : World)
    → IsOffering setting e h slot content w → (g : ℕ) (c : Content) → HasSaid w.ledger g Ordered e h slot c
    → c ≡ content
order_one setting e h slot content w r g c has =
    let ledger = r.place.machine.tracks.ledger in
    let was = (machine_keeps setting r.place.asked w r.place.machine).inputs.orders g e h slot c
    (truthful_of setting h (not_top setting e h slot content w r) r.honest).honest (ledger.here g (Said.Order e h slot c) has) in
    one_offer setting e h slot content w r c (ledger.there h (Said.Offer e h slot c) was)

-- a Deliver for the slot is
pub deliver_one : {S : Type 0} (setting : Setting S) (e h slot : ℕ) (content : Content) (w : World)
    → IsOffering setting e h slot content w → (g : ℕ) (c : Content) → HasMade w.ledger g (said_in e (deliver h slot c))
    → c ≡ content
unfolding quorum_at
deliver_one setting e h slot content w r g c has =
    let net = net_of setting in
    let m = r.place.machine.machine in
    let ledger = r.place.machine.tracks.ledger in
    let P = Vouches net m.ledger e h (Said.Order e h slot c) in
    let backed = (machine_keeps setting r.place.asked w r.place.machine).sound.safe.ledger.backed g e h slot c
    (ledger.here g (Said.Deliver e h slot c) has) in
    let one = AtLeast-honest (setting.scope.t e h) (setting.scope.guards e h) setting.liars P (λ x v. v.0)
    ((few_liars_of setting r.place.asked).few e h)
    (AtLeast-fewer (quorum_at setting.scope e h) (setting.scope.t e h + 1) P
    (many_guards setting r.place.asked r.place.good e h h ((r.place.good e r.epoch).own h r.host)) backed) in
    order_one setting e h slot content w r one.0 c (ledger.there one.0 (Said.Order e h slot c) (one.2.1 one.3))

-- what a guard that is past the slot voted for and logged there
record IsPast {S : Type 0} (setting : Setting S) (e h slot : ℕ) (content : Content) (w : World) (g : ℕ) : Type 0 where
  voted : HasMade w.ledger g (said_in e (deliver h slot content))
  entry : slice_get ((w.nodes g).logs h) slot ≡ Some content

-- is the content
past_is : {S : Type 0} (setting : Setting S) (e h slot : ℕ) (content : Content) (w : World)
    → IsOffering setting e h slot content w → (g : ℕ) → IsHonestGuard setting e h g → slot < length_of (w.nodes g) h
    → IsPast setting e h slot content w g
past_is {S} setting e h slot content w r g guard past = record {
  voted = subst (λ c. HasMade w.ledger g (said_in e (deliver h slot c))) same voted;
  entry = subst (λ c. slice_get ((w.nodes g).logs h) slot ≡ Some c) same mine.1;
}
  where
    stands : IsStanding setting e h slot content w
    stands = standing_of setting e h slot content w r

    mine : (c : Content) × (slice_get ((w.nodes g).logs h) slot ≡ Some c)
    mine = get_inside ((w.nodes g).logs h) slot past

    voted : HasMade w.ledger g (said_in e (deliver h slot mine.0))
    voted =
        let here = here_of setting e h slot content w stands g guard in
        (logged_here setting w r.place e h g r.going r.host guard (now_of setting e h slot content w stands g guard) here.lives
        slot mine.0 here.above mine.1).1

    same : mine.0 ≡ content
    same = deliver_one setting e h slot content w r g mine.0 voted

-- so it has the content there
pub past_entry : {S : Type 0} (setting : Setting S) (e h slot : ℕ) (content : Content) (w : World)
    → IsOffering setting e h slot content w → (g : ℕ) → IsHonestGuard setting e h g → slot < length_of (w.nodes g) h
    → slice_get ((w.nodes g).logs h) slot ≡ Some content
past_entry setting e h slot content w r g guard past = (past_is setting e h slot content w r g guard past).entry

-- the content alone is voted for
pub voting_of_offer : {S : Type 0} (setting : Setting S) (e h slot : ℕ) (content : Content) (w : World)
    → IsOffering setting e h slot content w → IsVoting setting e h slot content w
voting_of_offer setting e h slot content w r = record {
  stands = standing_of setting e h slot content w r;
  one = λ g other has. deliver_one setting e h slot content w r g other has;
  past = λ g guard past. (past_is setting e h slot content w r g guard past).voted;
  fits = λ g guard at.
      let now = now_of setting e h slot content w (standing_of setting e h slot content w r) g guard in
      known_fits setting w r.place g (let low = guard.host in let few = r.place.asked.hosts in omega (arith, low, few)) guard.honest
      (r.place.voted g (no_olympus setting w r.place e h g guard)).sound h content ((r.fine g guard).known now at);
}

-- and is relayed where an honest guard is past the slot
pub relaying_past : {S : Type 0} (setting : Setting S) (e h slot : ℕ) (content : Content) (w : World)
    → IsOffering setting e h slot content w → (g : ℕ) → IsHonestGuard setting e h g → slot < length_of (w.nodes g) h
    → IsRelaying setting e h slot content w
relaying_past setting e h slot content w r g guard past = record {
  stands = standing_of setting e h slot content w r;
  logger = g;
  logs = guard;
  entry = past_entry setting e h slot content w r g guard past;
}

-- what a guard said of the open slot stands on its desk
pub own_stands : {S : Type 0} (setting : Setting S) (e h slot : ℕ) (content : Content) (w : World)
    → IsStanding setting e h slot content w → (g : ℕ) → IsHonestGuard setting e h g → length_of (w.nodes g) h ≡ slot
    → (stage : Stage) (c : Content) → HasSaid w.ledger g stage e h slot c → own_at stage ((w.nodes g).desks h) ≡ Some c
own_stands setting e h slot content w r g guard at stage c said =
    elim ((sound_of setting e h slot content w r g guard).own.own.said stage h slot c
    (subst (λ n. HasSaid w.ledger g stage n h slot c) (sym (now_of setting e h slot content w r g guard)) said)) [
      | inl past ↦ absurd (omega (arith, past, at))
      | inr kept ↦ kept.1
    ]

-- and what stands there it said
pub own_said : {S : Type 0} (setting : Setting S) (e h slot : ℕ) (content : Content) (w : World)
    → IsStanding setting e h slot content w → (g : ℕ) → IsHonestGuard setting e h g → length_of (w.nodes g) h ≡ slot
    → (stage : Stage) (c : Content) → own_at stage ((w.nodes g).desks h) ≡ Some c → HasSaid w.ledger g stage e h slot c
own_said setting e h slot content w r g guard at stage c is =
    let made = (sound_of setting e h slot content w r g guard).own.own.kept stage h c is in
    subst (λ n. HasSaid w.ledger g stage n h slot c) (now_of setting e h slot content w r g guard)
    (subst (λ n. HasSaid w.ledger g stage (w.nodes g).epoch h n c) at made)

-- the honest guards are a quorum
pub honest_quorum : {S : Type 0} (setting : Setting S) (e h slot : ℕ) (content : Content) (w : World)
    → IsStanding setting e h slot content w
    → quorum_at setting.scope e h ≤ hosts_with (λ m. setting.scope.guards e h m && not (setting.liars m))
unfolding quorum_at
honest_quorum setting e h slot content w r =
    honest_are_a_quorum (setting.scope.t e h) (setting.scope.guards e h) setting.liars
    ((few_liars_of setting r.place.asked).few e h) (many_of setting e h slot content w r)

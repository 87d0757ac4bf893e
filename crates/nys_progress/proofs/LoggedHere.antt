-- What stands in the log of an honest guard from the base of its epoch on was logged by votes there, its own among them.
use Rattle.std.proofs.Common.{◌≡◌, ◌≢◌, ℕ, ◌+◌, ◌<◌, ◌≤◌, Bool, true, false, Some, refl, ap, sym, subst, ◌∙◌, inl, inr, arith}
use Rattle.std.specs.Prelude.{not, slice_get}
use Rattle.std.proofs.lemmas.Bool.{cases_order}
use Rattle.nys_bytes.specs.declared.content.Content.{Content}
use Rattle.nys_agreement.specs.Assembly as machine
use Rattle.nys_agreement.specs.Said.{Vouches}
use Rattle.nys_agreement.specs.Said.Said.{Deliver}
use Rattle.nys_agreement.proofs.Agreement.{Sound}
use Rattle.nys_agreement.proofs.Evidence.{below, Certified}
use Rattle.nys_hosts.proofs.CountLemmas.{AtLeast-fewer, AtLeast-map}
use Rattle.nys_hosts.proofs.QuorumLemmas.{AtLeast-honest}
use Rattle.nys_rules.specs.Exchanges.{IsHonestGuard}
use Rattle.nys_rules.specs.Forged.{HasMade}
use Rattle.nys_rules.specs.Premises.{HasGoodGuards, net_of}
use Rattle.nys_rules.specs.Scope.{olympus, quorum_at}
use Rattle.nys_rules.specs.Sending.{said_in}
use Rattle.nys_rules.specs.World.{Setting, World}
use Rattle.nys_laws.specs.Epochs.{FollowsHistory, History}
use Rattle.nys_laws.specs.Vouched.{IsVouched, QuorumVouches}
use Rattle.nys_laws.specs.Worlds.{InEachWorld}
use Rattle.nys_laws.proofs.EpochWorlds.{have_history}
use Rattle.nys_laws.proofs.WorldKeeping.{HoldsOfNodes}
use Rattle.nys_follows.proofs.FeedingFollows.{truthful_of}
use Rattle.nys_follows.proofs.FeedingRecords.{each_follows}
use Rattle.nys_follows.proofs.FeedingWorlds.{few_liars_of, hosts_of_scenario, set_up_of}
use Rattle.nys_follows.proofs.KnownLogs.{know_logs, KnowsLogs}
use Rattle.nys_follows.proofs.PromisedWorlds.{each_promised}
use Rattle.nys_follows.proofs.PromiseLemmas.{machine_keeps}
use Rattle.nys_follows.specs.Follows.{FollowsMachine, IsNode, IsTruthful, part_of}
use Rattle.nys_follows.specs.Promises.{IsPromised}
use Rattle.nys_follows.specs.Scenario.{IsScenario}
use Rattle.nys_progress.specs.Sent.{SaidIsSent}
use Rattle.nys_progress.specs.Statements.{deliver, inherit}
use Rattle.nys_progress.proofs.EndedEpochs.{IsGoing}
use Rattle.nys_progress.proofs.QuietNodes.{are_quiet, AreQuiet}
use Rattle.nys_progress.proofs.SentWorlds.{said_is_sent}
use Rattle.nys_progress.proofs.VotedEntries.{IsVotedIn, keep_voted, KeepsVoted, many_guards, WhyLogged}

-- what is known of each world of a scenario with good guards
pub record IsPlace {S : Type 0} (setting : Setting S) (w : World) : Type 0 where
  pub asked : IsScenario setting
  pub good : HasGoodGuards setting.scope
  pub voted : HoldsOfNodes (KeepsVoted setting) w
  pub history : History
  pub follows : FollowsHistory setting history w
  pub machine : FollowsMachine setting w
  pub promised : IsPromised setting w
  pub quiet : AreQuiet setting w
  pub sent : SaidIsSent setting w
  pub knows : HoldsOfNodes (λ g ledger v. KnowsLogs setting.scope v) w

-- each is one
pub place_of : {S : Type 0} (setting : Setting S) → IsScenario setting → HasGoodGuards setting.scope
    → InEachWorld setting (IsPlace setting)
place_of setting asked good events w happen =
    let history = have_history setting (set_up_of setting asked) events w happen in record {
      asked = asked;
      good = good;
      voted = keep_voted setting asked good events w happen;
      history = history.0;
      follows = history.1;
      machine = each_follows setting asked events w happen;
      promised = each_promised setting asked events w happen;
      quiet = are_quiet setting events w happen;
      sent = said_is_sent setting (hosts_of_scenario setting asked) events w happen;
      knows = know_logs setting events w happen;
    }

-- a guard is not the Olympus
pub no_olympus : {S : Type 0} (setting : Setting S) (w : World) → IsPlace setting w → (e h g : ℕ)
    → IsHonestGuard setting e h g → g ≢ olympus
no_olympus setting w p e h g guard is = let low = guard.host in let few = p.asked.hosts in omega (arith, low, few, is)

-- and doesn't lie
pub truthful : {S : Type 0} (setting : Setting S) (w : World) → IsPlace setting w → (e h g : ℕ)
    → IsHonestGuard setting e h g → IsTruthful setting g
truthful setting w p e h g guard = truthful_of setting g (no_olympus setting w p e h g guard) guard.honest

-- of a quorum of guards that vote for a content one is honest and did
pub honest_voter : {S : Type 0} (setting : Setting S) (w : World) → IsPlace setting w
    → (e h g slot : ℕ) (content : Content)
    → IsHonestGuard setting e h g → QuorumVouches setting w.ledger e h (deliver h slot content)
    → (m : ℕ) × HasMade w.ledger m (said_in e (deliver h slot content))
honest_voter setting w p e h g slot content guard quorum =
    let one = AtLeast-honest (setting.scope.t e h) (setting.scope.guards e h) setting.liars
    (IsVouched setting w.ledger e h (deliver h slot content)) (λ m v. v.0) ((few_liars_of setting p.asked).few e h)
    (AtLeast-fewer (quorum_at setting.scope e h) (setting.scope.t e h + 1) (IsVouched setting w.ledger e h (deliver h slot content))
    (many_guards setting p.asked p.good e h g guard.guards) quorum) in
    (one.0, one.2.1 one.3)

-- a host that isn't decided while its epoch goes on
undecided : {S : Type 0} (setting : Setting S) (w : World) (p : IsPlace setting w) (e h : ℕ) → IsGoing w e
    → w.olympus.decided_now h ≡ false
undecided {S} setting w p e h going = by (w.olympus.decided_now h) refl
  where
    by : (b : Bool) → w.olympus.decided_now h ≡ b → w.olympus.decided_now h ≡ false
    by false is = is
    by true is = absurd (let ending = p.follows.top.deciding h is in let no = sym ending ∙ going.active in cc)

-- an entry that was inherited stands below the base
pub inherited_below : {S : Type 0} (setting : Setting S) (w : World) (p : IsPlace setting w) (e h g : ℕ)
    → IsGoing w e
    → h < setting.scope.rules.hosts → g ≢ olympus → (w.nodes g).epoch ≡ e → (w.nodes g).retired h ≡ false
    → (d slot : ℕ) (content : Content) → HasMade w.ledger olympus (said_in d (inherit h slot content))
    → slot < (w.nodes g).base h
inherited_below setting w p e h g going host other epoch lives d slot content has =
    let may = p.follows.made (said_in d (inherit h slot content)) has in
    let node = p.follows.nodes g other in
    let at : (w.nodes g).epoch ≡ w.olympus.epoch = epoch ∙ sym going.epoch in
    let alive : p.history.retired w.olympus.epoch h ≡ false =
    ap (λ n. p.history.retired n h) (sym at) ∙ (sym (node.retired h) ∙ lives) in
    let one = may.below in
    let two = p.follows.top.logged d h may.past in
    let three = p.follows.top.undecided h (undecided setting w p e h going) in
    let four = p.follows.top.base h host alive in
    let five : p.history.base w.olympus.epoch h ≡ (w.nodes g).base h = ap (λ n. p.history.base n h) (sym at) ∙ sym (node.base h) in
    omega (arith, one, two, three, four, five)

-- so does one that was certified in an earlier epoch
certified_below : {S : Type 0} (setting : Setting S) (w : World) (p : IsPlace setting w) (e h g : ℕ)
    → IsGoing w e
    → h < setting.scope.rules.hosts → IsTruthful setting g → (w.nodes g).epoch ≡ e
    → (w.nodes g).retired h ≡ false
    → (slot : ℕ) (content : Content) → (why : IsVotedIn setting g w.ledger (w.nodes g).epoch h slot content)
    → why.epoch < e
    → slot < (w.nodes g).base h
unfolding quorum_at
certified_below {S} setting w p e h g going host honest epoch lives slot content why earlier =
    omega (arith, low, begins)
  where
    m : machine.Assembly
    m = p.machine.machine

    sound : Sound (net_of setting) m
    sound = (machine_keeps setting p.asked w p.machine).sound

    certified : Certified (net_of setting) m.ledger m.base why.epoch h slot content
    certified = record {
      above_base = (sound.safe.votes.delivers g why.epoch h slot why.own
          (p.machine.tracks.ledger.here g (Deliver why.epoch h slot why.own) why.made)).above_base;
      delivers = AtLeast-map (quorum_at setting.scope why.epoch h) (IsVouched setting w.ledger why.epoch h (deliver h slot content))
          (Vouches (net_of setting) m.ledger why.epoch h (Deliver why.epoch h slot content))
          (λ x v. (v.0, λ true_one. p.machine.tracks.ledger.here x (Deliver why.epoch h slot content) (v.1 true_one))) why.quorum;
    }

    node : IsNode setting g (part_of (w.nodes g)) (m.epoch g) (m.wedged g) (m.log g) (m.waiting g) m.base m.live
    node = p.machine.tracks.nodes.each g honest

    alive : m.live e h ≡ true
    alive = subst (λ n. m.live n h ≡ true) epoch (node.lives h host ∙ ap not lives)

    top : m.top ≡ e
    top = p.machine.tracks.top.top_is ∙ going.epoch

    low : slot < m.base e h
    low = below (net_of setting) m sound.safe why.epoch e h slot content certified earlier (omega (arith, top)) alive

    begins : m.base e h ≡ (w.nodes g).base h
    begins = subst (λ n. m.base n h ≡ (w.nodes g).base h) epoch (node.begins h host lives)

-- so from the base on each entry has a quorum and the node's own vote in the epoch
pub logged_here : {S : Type 0} (setting : Setting S) (w : World) (p : IsPlace setting w) (e h g : ℕ)
    → IsGoing w e
    → h < setting.scope.rules.hosts → IsHonestGuard setting e h g → (w.nodes g).epoch ≡ e
    → (w.nodes g).retired h ≡ false
    → (slot : ℕ) (content : Content) → (w.nodes g).base h ≤ slot
    → slice_get ((w.nodes g).logs h) slot ≡ Some content
    → QuorumVouches setting w.ledger e h (deliver h slot content) × HasMade w.ledger g (said_in e (deliver h slot content))
logged_here {S} setting w p e h g going host guard epoch lives slot content above get = by ((p.voted g other).logged h slot content get)
  where
    other : g ≢ olympus
    other = no_olympus setting w p e h g guard

    Claim : ℕ → Type 0
    Claim n = QuorumVouches setting w.ledger n h (deliver h slot content) × HasMade w.ledger g (said_in n (deliver h slot content))

    own_is : (why : IsVotedIn setting g w.ledger (w.nodes g).epoch h slot content) → why.epoch ≡ e
        → Claim why.epoch
    own_is why at =
        let guard_then = subst (λ n. IsHonestGuard setting n h g) (sym at) guard in
        let one = honest_voter setting w p why.epoch h g slot content guard_then why.quorum in
        let same = p.promised.one_content g one.0 why.epoch h slot why.own content why.made one.1 in
        (why.quorum, subst (λ c. HasMade w.ledger g (said_in why.epoch (deliver h slot c))) same why.made)

    by : WhyLogged setting g w.ledger (w.nodes g).epoch h slot content → Claim e
    by (inl why) = elim (cases_order why.epoch e) [
      | inl at ↦ subst Claim at (own_is why at)
      | inr (inl earlier) ↦ absurd
          (let low = certified_below setting w p e h g going host (truthful setting w p e h g guard) epoch lives slot content why earlier in
          omega (arith, low, above))
      | inr (inr later) ↦ absurd (let past = why.past in omega (arith, past, later, epoch))
    ]
    by (inr told) = absurd
        (let low = inherited_below setting w p e h g going host other epoch lives told.0 slot content told.1 in
        omega (arith, low, above))

-- What a log of an epoch has from the base on was ordered by a quorum in the epoch.
use Rattle.std.proofs.Common.{◌≡◌, ◌≢◌, ℕ, ◌+◌, ◌<◌, ◌≤◌, Bool, true, false, List, length, Some, refl, ap, sym, subst, ◌∙◌, inl, inr, arith}
use Rattle.std.specs.Prelude.{not, Ok, slice_get}
use Rattle.std.proofs.lemmas.Bool.{cases_order}
use Rattle.nys_agreement.specs.Assembly as machine
use Rattle.nys_agreement.specs.Said.{By, Has, Vouches}
use Rattle.nys_agreement.specs.Said.Said.{Deliver, Order}
use Rattle.nys_agreement.proofs.Agreement.{Sound}
use Rattle.nys_agreement.proofs.Evidence.{below, Certified, Decision, IsLogged}
use Rattle.nys_agreement.proofs.Ledgers.{honest_vouch}
use Rattle.nys_bytes.specs.declared.content.Content.{Content}
use Rattle.nys_hosts.specs.Counts.{AtLeast}
use Rattle.nys_rules.specs.Events.{Plain}
use Rattle.nys_rules.specs.Happening.{HappenAll}
use Rattle.nys_rules.specs.Premises.{net_of}
use Rattle.nys_rules.specs.Exchanges.{IsHonestGuard}
use Rattle.nys_rules.specs.Scope.{olympus, quorum_at}
use Rattle.nys_rules.specs.World.{Setting, World}
use Rattle.nys_laws.specs.Epochs.{GoesOn}
use Rattle.nys_laws.proofs.EpochWorlds.{histories_go_on}
use Rattle.nys_follows.specs.Follows.{IsNode, part_of}
use Rattle.nys_follows.proofs.FeedingWorlds.{set_up_of}
use Rattle.nys_follows.proofs.PromiseLemmas.{machine_keeps}
use Rattle.nys_progress.specs.Credits.{HoldsHead, IsLogOfEpoch}
use Rattle.nys_progress.proofs.LoggedHere.{IsPlace, no_olympus, truthful}

-- the machine of a world
abbrev pub machine_of : {S : Type 0} (setting : Setting S) (w : World) → IsPlace setting w → machine.Assembly
machine_of setting w p = p.machine.machine

-- h lives in the epoch, which begins its log with so many entries or fewer
pub record BeginsBy {S : Type 0} (setting : Setting S) (w : World) (p : IsPlace setting w) (e h n : ℕ) : Type 0 where
  pub lives : (machine_of setting w p).live e h ≡ true
  pub base : (machine_of setting w p).base e h ≤ n
  pub opened : e ≤ (machine_of setting w p).top

-- ---- how an epoch began is so in later worlds

-- where a guard holds a head the log had begun, and so it has later
pub begins_later : {S : Type 0} (setting : Setting S) (w next : World) (before : IsPlace setting w) (p : IsPlace setting next)
    (events : List Plain) → HappenAll setting w events (Ok next) → (e h q k g n : ℕ) → HoldsHead setting w e h q k g
    → length ((w.nodes g).logs h) ≤ n → (log : List Content) → IsLogOfEpoch setting next e h log → n < length log
    → BeginsBy setting next p e h n
begins_later {S} setting w next before p events comes e h q k g n holder few log is long = by is
  where
    m : machine.Assembly
    m = machine_of setting next p

    other : g ≢ olympus
    other = no_olympus setting w before e h g holder.guard

    host : h < setting.scope.rules.hosts
    host = (before.asked.guards e h g holder.guard.guards).host

    on : GoesOn setting w.olympus.epoch before.history next
    on = histories_go_on setting (set_up_of setting before.asked) events w next before.history comes before.follows

    early : e ≤ w.olympus.epoch
    early = let behind = (before.follows.nodes g other).behind in let at = holder.epoch in omega (arith, behind, at)

    base : on.later.base e h ≤ n
    base = let same = on.same.base e h early in
        let was : (w.nodes g).base h ≡ before.history.base e h =
        subst (λ x. (w.nodes g).base h ≡ before.history.base x h) holder.epoch ((before.follows.nodes g other).base h) in
        let reached = holder.reached in omega (arith, same, was, reached, few)

    lives : on.later.retired e h ≡ false
    lives = on.same.retired e h early
        ∙ (sym (subst (λ x. (w.nodes g).retired h ≡ before.history.retired x h) holder.epoch ((before.follows.nodes g other).retired h))
        ∙ holder.lives)

    at_node : (x : ℕ) → IsHonestGuard setting e h x → (next.nodes x).epoch ≡ e
        → BeginsBy setting next p e h n
    at_node x guard epoch =
        let ne = no_olympus setting next p e h x guard in
        let node = on.follows.nodes x ne in
        let known = p.machine.tracks.nodes.each x (truthful setting next p e h x guard) in
        let alive : (next.nodes x).retired h ≡ false = node.retired h ∙ (ap (λ y. on.later.retired y h) epoch ∙ lives) in
        let began : (next.nodes x).base h ≡ on.later.base e h = node.base h ∙ ap (λ y. on.later.base y h) epoch in
        let at_base = known.begins h host alive in
        let top = p.machine.tracks.top.top_is in
        let behind = node.behind in record {
          lives = subst (λ y. m.live y h ≡ true) epoch (known.lives h host ∙ ap not alive);
          base = let here = subst (λ y. m.base y h ≡ (next.nodes x).base h) epoch at_base in omega (arith, here, began, base);
          opened = omega (arith, top, behind, epoch);
        }

    at_top : next.olympus.epoch ≡ e → log ≡ next.olympus.decided h → (b : Bool) → next.olympus.decided_now h ≡ b
        → BeginsBy setting next p e h n
    at_top epoch same now is_now =
        let top = p.machine.tracks.top in
        let alive : on.later.retired next.olympus.epoch h ≡ false = ap (λ y. on.later.retired y h) epoch ∙ lives in
        let began : next.olympus.base h ≡ on.later.base e h =
        on.follows.top.base h host alive ∙ ap (λ y. on.later.base y h) epoch in
        let is_top = top.top_is in record {
          lives = subst (λ y. m.live y h ≡ true) epoch (top.lives h host (not_retired now is_now began));
          base = let here = subst (λ y. m.base y h ≡ next.olympus.base h) epoch (top.begins h) in omega (arith, here, began, base);
          opened = omega (arith, is_top, epoch);
        }
      where
        not_retired : (b : Bool) → next.olympus.decided_now h ≡ b → next.olympus.base h ≡ on.later.base e h
            → next.olympus.retired h ≡ false
        not_retired true is_now began = p.machine.tracks.top.apart h is_now
        not_retired false is_now began = absurd
            (let still = p.machine.tracks.top.still h is_now in let length_is = ap (λ (l : List Content). length l) same in
            omega (arith, still, length_is, began, base, long))

    by : IsLogOfEpoch setting next e h log → BeginsBy setting next p e h n
    by (inl node) = at_node node.0 node.1 node.2
    by (inr top) = at_top top.0 top.1 (next.olympus.decided_now h) refl

-- ---- who ordered an entry

-- a quorum ordered what an honest guard delivered in the epoch
abbrev OrderedBy : {S : Type 0} → Setting S → machine.Assembly → (e h s : ℕ) → Content → Type 0
OrderedBy setting m e h s c =
    AtLeast (quorum_at setting.scope e h) (Vouches (net_of setting) m.ledger e h (Order e h s c))

-- what was certified up to the epoch, from the base on, a quorum ordered in it
certified_ordered : {S : Type 0} (setting : Setting S) (w : World) (p : IsPlace setting w) (e h n s d : ℕ) (c : Content)
    → BeginsBy setting w p e h n → n ≤ s → d ≤ e
    → Certified (net_of setting) (machine_of setting w p).ledger (machine_of setting w p).base d h s c
    → OrderedBy setting (machine_of setting w p) e h s c
unfolding quorum_at
certified_ordered {S} setting w p e h n s d c begins le early why = elim (cases_order d e) [
  | inl same ↦
      let here = subst (λ y. Certified (net_of setting) m.ledger m.base y h s c) same why in
      let one = honest_vouch (net_of setting) sound.safe.few m.ledger e h (Deliver e h s c) here.delivers in
      sound.safe.ledger.backed one.0 e h s c one.2
  | inr (inl lt) ↦ absurd
      (let low = below (net_of setting) m sound.safe d e h s c why lt begins.opened begins.lives in
      let base = begins.base in omega (arith, low, base, le))
  | inr (inr gt) ↦ absurd (omega (arith, gt, early))
]
  where
    m : machine.Assembly
    m = machine_of setting w p

    sound : Sound (net_of setting) m
    sound = (machine_keeps setting p.asked w p.machine).sound

-- so it did with each entry of a log of the epoch
pub entry_ordered : {S : Type 0} (setting : Setting S) (w : World) (p : IsPlace setting w) (e h n s : ℕ) (c : Content)
    → BeginsBy setting w p e h n → n ≤ s → (log : List Content) → IsLogOfEpoch setting w e h log
    → slice_get log s ≡ Some c → OrderedBy setting (machine_of setting w p) e h s c
unfolding quorum_at
entry_ordered {S} setting w p e h n s c begins le log is get = by is
  where
    m : machine.Assembly
    m = machine_of setting w p

    sound : Sound (net_of setting) m
    sound = (machine_keeps setting p.asked w p.machine).sound

    logged : (now : ℕ) → now ≡ e → IsLogged (net_of setting) m.ledger m.base m.decided now h s c → OrderedBy setting m e h s c
    logged now at (inl why) =
        let early = why.1 in certified_ordered setting w p e h n s why.0 c begins le (omega (arith, early, at)) why.2
    logged now at (inr why) = absurd
        (let low = subst (λ y. s < m.base y h) at why.0 in let base = begins.base in omega (arith, low, base, le))

    decided : Decision m.ledger m.top m.base h s c → m.top ≡ e → OrderedBy setting m e h s c
    decided d top = elim d.bound [
      | inl last ↦
          sound.safe.ledger.backed d.maker e h s c
          (subst (λ y. Has m.ledger (By d.maker (Deliver y h s c))) (last ∙ top) d.delivered)
      | inr ended ↦ absurd
          (let lt = ended.0 in let low = ended.1 in
          let up = sound.safe.openings.rises (d.epoch + 1) e h (omega (arith, lt, top)) begins.opened in
          let base = begins.base in omega (arith, low, up, base, le))
    ]

    by : IsLogOfEpoch setting w e h log → OrderedBy setting m e h s c
    by (inl node) =
        let known = p.machine.tracks.nodes.each node.0 (truthful setting w p e h node.0 node.1) in
        let there : slice_get (m.log node.0 h) s ≡ Some c = ap (λ (l : List Content). slice_get l s) (known.log_is h ∙ sym node.3) ∙ get in
        logged (m.epoch node.0) (known.epoch_is ∙ node.2) (sound.evidence.logs node.0 h s c there)
    by (inr top) =
        let there : slice_get (m.decided h) s ≡ Some c =
        ap (λ (l : List Content). slice_get l s) (p.machine.tracks.top.decided_is h ∙ sym top.1) ∙ get in
        decided (sound.evidence.decisions h s c there) (p.machine.tracks.top.top_is ∙ top.0)

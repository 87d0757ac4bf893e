-- The credits, in each world of a scenario with good guards.
use Rattle.std.proofs.Common.{◌≡◌, ◌≢◌, ℕ, zero, suc, ◌+◌, ◌*◌, ◌-◌, ◌<◌, ◌≤◌, ◌⊎◌, ◌==◌, Bool, true, false, ℤ, List, [], ◌∷◌, ◌++◌, length, Some, None, Ok, refl, ap, sym, subst, ◌∙◌, inl, inr, arith}
use Rattle.std.specs.Prelude.{Option, slice_get}
use Rattle.std.proofs.lemmas.Bool.{eqb-true}
use Rattle.std.proofs.lemmas.Option.{slice_get_within}
use Rattle.nys_agreement.specs.Assembly as machine
use Rattle.nys_agreement.specs.Claims.{IsPrefixOf}
use Rattle.nys_agreement.specs.Said.{Made, Vouches}
use Rattle.nys_agreement.specs.Said.Said.{Order}
use Rattle.nys_agreement.proofs.ListLemmas.{get_inside, in_prefix, prefix_from}
use Rattle.nys_bytes.specs.declared.content.Content.{Content}
use Rattle.nys_bytes.specs.declared.content.Content.TheVariants.{External, Message}
use Rattle.nys_hosts.specs.Counts.{hosts_with}
use Rattle.nys_hosts.proofs.CountLemmas.{count_below-one, hosts_with-some, hosts_with-within}
use Rattle.nys_source.specs.Contents.{contents_taken}
use Rattle.nys_stmt.specs.declared.statement.Body.TheVariants as body
use Rattle.nys_stmt.specs.declared.statement.FilledKind.TheVariants as kind
use Rattle.nys_votes.specs.Seats.{seat_of}
use Rattle.nys_rules.specs.Events.{Plain}
use Rattle.nys_rules.specs.Exchanges.{IsHonestGuard}
use Rattle.nys_rules.specs.Forged.{HasMade}
use Rattle.nys_rules.specs.Happening.{HappenAll}
use Rattle.nys_rules.specs.Premises.{HasGoodGuards, net_of}
use Rattle.nys_rules.specs.Scope.{olympus, quorum_at}
use Rattle.nys_rules.specs.Sending.{said_in}
use Rattle.nys_rules.specs.Spelling.{HasLog, printed_run}
use Rattle.nys_rules.specs.View.{length_of, next_number}
use Rattle.nys_rules.specs.World.{Setting, World}
use Rattle.nys_laws.specs.Own.{HasSaid}
use Rattle.nys_laws.specs.Own.Stage.{Ordered}
use Rattle.nys_laws.specs.Worlds.{InEachWorld}
use Rattle.nys_laws.proofs.WorldKeeping.{worlds_keep}
use Rattle.nys_follows.proofs.FeedingFollows.{truthful_of}
use Rattle.nys_follows.proofs.FeedingWorlds.{low_or_not}
use Rattle.nys_follows.proofs.PromiseLemmas.{log_taken}
use Rattle.nys_follows.specs.Scenario.{GuardsWithin, IsScenario}
use Rattle.nys_progress.specs.Credits.{AreNeighbours, HasNobodyTaken, HoldsHead, IsLogOfEpoch, IsTakenBefore, IsWidelyHeld, TakesInCredit}
use Rattle.nys_progress.proofs.EpochOrders.{begins_later, BeginsBy, entry_ordered, machine_of}
use Rattle.nys_progress.proofs.GrownHeads.{IsOf}
use Rattle.nys_progress.proofs.HeldHeads.{are_recent, HasOf, HoldingAt, holding_steps, IsFair, IsHolding, IsInTurn, NoneOf, Watch}
use Rattle.nys_progress.proofs.LoggedHere.{IsPlace, no_olympus, place_of, truthful}
use Rattle.nys_progress.proofs.RelayWorlds.{entry_on, IsReached, reached_on}
use Rattle.nys_progress.proofs.TurnLemmas.{common_maker, first_number, HasNumber, no_room}

-- the head that is watched at guard g from a world on
abbrev pub watch : {S : Type 0} → Setting S → World → (e h p k n g : ℕ) → Watch S
watch setting w e h p k n g = record {
  rules = setting.scope.rules;
  credit = setting.scope.credit e;
  epoch = e;
  host = h;
  sender = p;
  number = k;
  guard = g;
  from = length_of (w.nodes g) h;
  top = n;
}

-- what is known where a log of the epoch is long enough
record IsEnd {S : Type 0} (setting : Setting S) (w next : World) (events : List Plain) (e h p k n : ℕ)
    (log : List Content) : Type 0 where
  ways : AreNeighbours setting.scope.rules
  reached : IsReached setting w
  before : IsPlace setting w
  place : IsPlace setting next
  held : IsWidelyHeld setting w e h p k n
  comes : HappenAll setting w events (Ok next)
  is : IsLogOfEpoch setting next e h log
  long : n + 2 * setting.scope.credit e ≤ length log
  some : 1 ≤ setting.scope.credit e

-- ---- the holders

-- an honest guard of h in an epoch of its node has a log of h
guard_log : {S : Type 0} (setting : Setting S) (w : World) (p : IsPlace setting w) (e h g : ℕ) → IsHonestGuard setting e h g
    → (w.nodes g).epoch ≡ e → HasLog setting w g h
guard_log setting w p e h g guard epoch =
    let other = no_olympus setting w p e h g guard in
    let host = (p.asked.guards e h g guard.guards).host in
    let me = (p.voted g other).sound.own.host in record {
      host = guard.host;
      honest = guard.honest;
      known = (p.knows g other).guarded h host
          (subst (λ n. setting.scope.guards n h (w.nodes g).me ≡ true) (sym epoch)
          (subst (λ x. setting.scope.guards e h x ≡ true) (sym me) guard.guards));
    }

-- a guard that holds the head
start_holding : {S : Type 0} (setting : Setting S) (w : World) → IsReached setting w → (before : IsPlace setting w) → (e h p k n g : ℕ)
    → IsWidelyHeld setting w e h p k n → 1 ≤ setting.scope.credit e → (holder : HoldsHead setting w e h p k g)
    → IsHolding (watch setting w e h p k n g) w.ledger (w.nodes g)
unfolding next_number
start_holding {S} setting w reached before e h p k n g held some holder = record {
  rises = let at = holder.epoch in omega (arith, at);
  long = omega arith;
  recent = recent;
  held = λ now. inr (record {
    at = holder.recorded.0;
    recorded = holder.recorded.1;
    early = let low = (recent p holder.recorded.0 holder.recorded.1).0 in omega (arith, low, few);
    next = holder.number;
  });
  orders = λ s c said late.
      let own = (before.voted g other).sound.own.own in
      let here = subst (λ d. HasSaid w.ledger g Ordered d h s c) (sym holder.epoch) said in
      elim (own.said Ordered h s c here) [
        | inl past ↦ absurd (omega (arith, past, few, late, some))
        | inr at ↦ absurd (let is = at.0 in omega (arith, is, few, late, some))
      ];
}
  where
    other : g ≢ olympus
    other = no_olympus setting w before e h g holder.guard

    recent : (q u : ℕ) → seat_of ((w.nodes g).heads h) q ≡ Some u
        → (u ≤ length ((w.nodes g).logs h)) × NoneOf q ((w.nodes g).logs h) u (length ((w.nodes g).logs h))
    recent = are_recent setting h reached.events w reached.happen g other

    few : length_of (w.nodes g) h ≤ n
    few = held.longest.logs g (guard_log setting w before e h g holder.guard holder.epoch)

-- holds it at the end, or was served, and its orders are fair
end_holding : {S : Type 0} (setting : Setting S) (w next : World) (events : List Plain) (e h p k n g : ℕ) (log : List Content)
    → IsEnd setting w next events e h p k n log → HoldsHead setting w e h p k g
    → IsHolding (watch setting w e h p k n g) next.ledger (next.nodes g)
end_holding {S} setting w next events e h p k n g log end holder =
    worlds_keep setting (HoldingAt x) (holding_steps setting x refl refl low) w next events end.comes
    (λ y ne same. subst (λ z. IsHolding x w.ledger (w.nodes z)) (sym same) start) g
    (no_olympus setting w end.before e h g holder.guard) refl
  where
    x : Watch S
    x = watch setting w e h p k n g

    low : p < 32
    low = let few = end.before.asked.hosts in let is = end.ways.hosts p h end.held.near in omega (arith, few, is)

    start : IsHolding x w.ledger (w.nodes g)
    start = start_holding setting w end.reached end.before e h p k n g end.held end.some holder

-- some guard holds it
first_holder : {S : Type 0} (setting : Setting S) (w : World) (e h p k n : ℕ) → IsWidelyHeld setting w e h p k n
    → (g : ℕ) × HoldsHead setting w e h p k g
first_holder setting w e h p k n held =
    let enough = held.holders.enough in
    let one = hosts_with-some held.holders.makers (omega (arith, enough)) in
    (one.0, held.holders.each one.0 one.2)

-- one host is one
only_one_host : (p : ℕ) → p < 32 → hosts_with (λ x. p == x) ≡ 1
unfolding hosts_with
only_one_host p low = count_below-one p 32 low

-- a host with a neighbour has credit
some_credit : {S : Type 0} (setting : Setting S) → HasGoodGuards setting.scope → setting.scope.rules.hosts ≤ 32
    → AreNeighbours setting.scope.rules → (e h p : ℕ) → e < setting.scope.epochs → h < setting.scope.rules.hosts
    → setting.scope.rules.linked p h ≡ true → 1 ≤ setting.scope.credit e
some_credit setting good hosts ways e h p epoch host near =
    let few = (good e epoch).near h host in
    let low = ways.hosts p h near in
    let one = hosts_with-within (λ x. p == x) (setting.scope.rules.linked h)
    (λ x less same. subst (λ y. setting.scope.rules.linked h y ≡ true) (eqb-true p x same) (ways.both p h near)) in
    let count = only_one_host p (omega (arith, low, hosts)) in
    omega (arith, few, one, count)

-- ---- the run

-- what h takes in the printed run
abbrev taken_in : {S : Type 0} → Setting S → World → ℕ → List Content
taken_in setting w h = contents_taken setting.scope.rules (printed_run setting.scope w) h

-- a log of the epoch is a prefix of it
log_in : {S : Type 0} (setting : Setting S) (w : World) (p : IsPlace setting w) (e h : ℕ) → h < setting.scope.rules.hosts
    → (log : List Content) → IsLogOfEpoch setting w e h log → IsPrefixOf log (taken_in setting w h)
log_in setting w p e h host log (inl node) =
    subst (λ (l : List Content). IsPrefixOf l (taken_in setting w h)) (sym node.3)
    (p.promised.spelled.logs node.0 h (guard_log setting w p e h node.0 node.1 node.2))
log_in setting w p e h host log (inr top) =
    subst (λ (l : List Content). IsPrefixOf l (taken_in setting w h)) (sym top.1) (p.promised.spelled.decided h host)

-- the later log of a guard goes on from the earlier one, and is a prefix of it
later_log : {S : Type 0} (setting : Setting S) (w next : World) (events : List Plain) (g h : ℕ) → g ≢ olympus
    → HappenAll setting w events (Ok next) → length ((w.nodes g).logs h) ≤ length ((next.nodes g).logs h)
    → IsPrefixOf ((w.nodes g).logs h) ((next.nodes g).logs h)
later_log setting w next events g h other comes le =
    prefix_from ((w.nodes g).logs h) ((next.nodes g).logs h) le
    (λ i c d one two. let kept = entry_on setting h i c g w next events other comes one in let both = sym kept ∙ two in cc)

-- ---- a slot of the window

-- the entry of the slot is in turn
record IsTurnAt {S : Type 0} (setting : Setting S) (e h p : ℕ) (run : List Content) (s : ℕ) : Type 0 where
  content : Content
  entry : slice_get run s ≡ Some content
  turn : IsInTurn setting.scope.rules h p (setting.scope.credit e) run s content

-- a number that stands in a prefix
number_in : (p k to end : ℕ) (log run : List Content) → IsPrefixOf log run → to ≤ end → HasNumber p k log to
    → HasNumber p k run end
number_in p k to end log run pre le has = record {
  slot = has.slot;
  payload = has.payload;
  entry = in_prefix log run pre has.slot (Message p k has.payload) has.entry;
  within = let low = has.within in omega (arith, low, le);
}

-- what is in turn by a prefix that reaches the slot is in turn
turn_in : {S : Type 0} (setting : Setting S) (e h p s : ℕ) (log run : List Content) (c : Content) → IsPrefixOf log run
    → s ≤ length log → IsInTurn setting.scope.rules h p (setting.scope.credit e) log s c
    → IsInTurn setting.scope.rules h p (setting.scope.credit e) run s c
turn_in setting e h p s log run c pre reach turn = record {
  sender = turn.sender;
  is = turn.is;
  other = turn.other;
  near = turn.near;
  since = turn.since;
  late = turn.late;
  none = λ i d above below get of.
      let here = get_inside log i (omega (arith, below, reach)) in
      let there = in_prefix log run pre i here.0 here.1 in
      let both = sym get ∙ there in
      let same : d ≡ here.0 = cc in
      turn.none i here.0 above below here.1 (subst (IsOf turn.sender) same of);
}

-- a guard that holds the head and ordered the entry of a slot
holder_slot : {S : Type 0} (setting : Setting S) (w next : World) (events : List Plain) (e h p k n g : ℕ) (log : List Content)
    → IsEnd setting w next events e h p k n log → HoldsHead setting w e h p k g → (s : ℕ) (c : Content)
    → s < n + 2 * setting.scope.credit e → slice_get (taken_in setting next h) s ≡ Some c
    → IsFair setting.scope.rules h p k (length_of (w.nodes g) h) (setting.scope.credit e) ((next.nodes g).logs h) s c
    → HasNumber p k (taken_in setting next h) (n + 2 * setting.scope.credit e)
    ⊎ IsTurnAt setting e h p (taken_in setting next h) s
unfolding next_number
holder_slot {S} setting w next events e h p k n g log end holder s c low get fair = by fair.why
  where
    limit : ℕ
    limit = n + 2 * setting.scope.credit e

    run : List Content
    run = taken_in setting next h

    other : g ≢ olympus
    other = no_olympus setting w end.before e h g holder.guard

    later : List Content
    later = (next.nodes g).logs h

    pre : IsPrefixOf later run
    pre = log_taken setting end.place.asked next end.place.machine g h (truthful setting w end.before e h g holder.guard)

    long : length_of (w.nodes g) h ≤ length later
    long = (end_holding setting w next events e h p k n g log end holder).long

    from : IsPrefixOf ((w.nodes g).logs h) later
    from = later_log setting w next events g h other end.comes long

    by : HasOf p later (length_of (w.nodes g) h) s
        ⊎ (((payload : List ℤ) × (c ≡ Message p k payload)) ⊎ IsInTurn setting.scope.rules h p (setting.scope.credit e) later s c)
        → HasNumber p k run limit ⊎ IsTurnAt setting e h p run s
    by (inl has) = inl
        (number_in p k s limit later run pre (omega (arith, low))
        (first_number setting.scope.rules h p k s later ((w.nodes g).logs h) from.0 (sym from.1)
        ((end.place.voted g other).sound.rests.logs h) holder.number has))
    by (inr (inl number)) = inl (record { slot = s; payload = number.0; entry = get ∙ ap Some number.1; within = low })
    by (inr (inr turn)) = inr (record { content = c; entry = get; turn = turn_in setting e h p s later run c pre fair.within turn })

-- each slot of the window
each_slot : {S : Type 0} (setting : Setting S) (w next : World) (events : List Plain) (e h p k n : ℕ) (log : List Content)
    → IsEnd setting w next events e h p k n log → (end_place : IsPlace setting next) → BeginsBy setting next end_place e h n
    → (s : ℕ) → n + setting.scope.credit e ≤ s → s < n + 2 * setting.scope.credit e
    → HasNumber p k (taken_in setting next h) (n + 2 * setting.scope.credit e)
    ⊎ IsTurnAt setting e h p (taken_in setting next h) s
each_slot {S} setting w next events e h p k n log end place begins s late low =
    holder_slot setting w next events e h p k n g log end common.2 s c low run_entry fair
  where
    ledger : List Made
    ledger = (machine_of setting next place).ledger

    there : (x : Content) × (slice_get log s ≡ Some x)
    there = get_inside log s (let long = end.long in omega (arith, long, low))

    c : Content
    c = there.0

    some_holder : (g : ℕ) × HoldsHead setting w e h p k g
    some_holder = first_holder setting w e h p k n end.held

    run_entry : slice_get (taken_in setting next h) s ≡ Some c
    run_entry =
        in_prefix log (taken_in setting next h)
        (log_in setting next place e h (place.asked.guards e h some_holder.0 some_holder.1.guard.guards).host log end.is) s c there.1

    common : (g : ℕ) × Vouches (net_of setting) ledger e h (Order e h s c) g × HoldsHead setting w e h p k g
    common =
        common_maker (setting.scope.guards e h) (quorum_at setting.scope e h)
        (hosts_with (setting.scope.guards e h) - quorum_at setting.scope e h + 1)
        (Vouches (net_of setting) ledger e h (Order e h s c)) (HoldsHead setting w e h p k) (λ g v. v.0) (λ g x. x.guard.guards)
        (enough (hosts_with (setting.scope.guards e h)) (quorum_at setting.scope e h))
        (entry_ordered setting next place e h n s c begins (omega (arith, late)) log end.is there.1) end.held.holders
      where
        enough : (all q : ℕ) → all < q + (all - q + 1)
        enough all q = omega arith

    g : ℕ
    g = common.0

    said : HasMade next.ledger g (said_in e (body.Filled kind.Order h s c))
    said = place.machine.tracks.ledger.there g (Order e h s c)
        (common.1.1 (truthful setting w end.before e h g common.2.guard).honest)

    fair : IsFair setting.scope.rules h p k (length_of (w.nodes g) h) (setting.scope.credit e) ((next.nodes g).logs h) s c
    fair = (end_holding setting w next events e h p k n g log end common.2).orders s c said late

-- all slots of the window are in turn, or the number stands in the log
all_slots : {S : Type 0} (setting : Setting S) (e h p k from end : ℕ) (run : List Content) (credit m : ℕ) → m ≤ credit
    → ((s : ℕ) → from ≤ s → s < from + credit → HasNumber p k run end ⊎ IsTurnAt setting e h p run s)
    → HasNumber p k run end ⊎ ((i : ℕ) → i < m → IsTurnAt setting e h p run (from + i))
all_slots setting e h p k from end run credit zero le each = inr (λ i low. absurd (omega (arith, low)))
all_slots setting e h p k from end run credit (suc m) le each =
    elim (all_slots setting e h p k from end run credit m (omega (arith, le)) each) [
      | inl has ↦ inl has
      | inr old ↦ elim (each (from + m) (omega arith) (omega (arith, le))) [
        | inl has ↦ inl has
        | inr new ↦ inr (λ i low. elim (low_or_not i m) [
          | inl less ↦ old i less
          | inr more ↦ let same : m ≡ i = omega (arith, low, more) in subst (λ j. IsTurnAt setting e h p run (from + j)) same new
        ])
      ]
    ]

-- the sender of what stands in a slot
sender_at : Option Content → ℕ
sender_at None = 0
sender_at (Some (External payload)) = 0
sender_at (Some (Message q k payload)) = q

sender_is : (q : ℕ) (c : Content) → IsOf q c → sender_at (Some c) ≡ q
unfolding sender_at
sender_is q (External payload) of = absurd of
sender_is q (Message x k payload) of = sym of

-- and of it
is_sender : (q : ℕ) (c : Content) → IsOf q c → (x : ℕ) → x ≡ q → IsOf x c
is_sender q c of x same = subst (λ y. IsOf y c) (sym same) of

-- as many slots as the credit are not all in turn
not_all_turn : {S : Type 0} (setting : Setting S) (e h p from : ℕ) (run : List Content) → AreNeighbours setting.scope.rules
    → setting.scope.rules.hosts ≤ 32 → hosts_with (setting.scope.rules.linked h) ≤ setting.scope.credit e
    → setting.scope.rules.linked p h ≡ true
    → ((i : ℕ) → i < setting.scope.credit e → IsTurnAt setting e h p run (from + setting.scope.credit e + i)) → ⊥
not_all_turn {S} setting e h p from run ways hosts few near turns =
    no_room (setting.scope.rules.linked h) p credit start link few (below p near) (ways.both p h near) each differ
  where
    credit : ℕ
    credit = setting.scope.credit e

    start : ℕ
    start = from + credit

    link : ℕ → ℕ
    link s = sender_at (slice_get run s)

    below : (x : ℕ) → setting.scope.rules.linked x h ≡ true → x < 32
    below x is = let low = ways.hosts x h is in omega (arith, low, hosts)

    is : (i : ℕ) → (low : i < credit) → link (start + i) ≡ (turns i low).turn.sender
    is i low = ap sender_at (turns i low).entry ∙ sender_is (turns i low).turn.sender (turns i low).content (turns i low).turn.is

    each : (i : ℕ) → i < credit
        → (link (start + i) < 32) × (setting.scope.rules.linked h (link (start + i)) ≡ true) × (p ≢ link (start + i))
    each i low =
        let t = (turns i low).turn in let same = is i low in (
          subst (λ x. x < 32) (sym same) (below t.sender t.near),
          subst (λ x. setting.scope.rules.linked h x ≡ true) (sym same) (ways.both t.sender h t.near),
          λ it. t.other (it ∙ same),
        )

    differ : (i j : ℕ) → i < j → j < credit → link (start + i) ≢ link (start + j)
    differ i j less low same =
        let early : i < credit = omega (arith, less, low) in
        let first = turns i early in
        let second = turns j low in
        let late = second.turn.late in
        let one = is i early in
        let two = is j low in
        second.turn.none (start + i) first.content (omega (arith, late, low)) (omega (arith, less)) first.entry
        (is_sender first.turn.sender first.content first.turn.is second.turn.sender (sym two ∙ (sym same ∙ one)))

-- ---- the law

-- the number stands in the run below the end of the window
taken_by : {S : Type 0} (setting : Setting S) (w next : World) (events : List Plain) (e h p k n : ℕ) (log : List Content)
    → IsEnd setting w next events e h p k n log → HasGoodGuards setting.scope
    → HasNumber p k (taken_in setting next h) (n + 2 * setting.scope.credit e)
taken_by {S} setting w next events e h p k n log end good =
    elim (all_slots setting e h p k (n + credit) (n + 2 * credit) (taken_in setting next h) credit credit (omega arith)
    (λ s above below. each_slot setting w next events e h p k n log end end.place begins s above (omega (arith, below)))) [
      | inl has ↦ has
      | inr turns ↦ absurd
          (not_all_turn setting e h p n (taken_in setting next h) end.ways end.place.asked.hosts
          ((good e within.epoch).near h within.host) end.held.near turns)
    ]
  where
    credit : ℕ
    credit = setting.scope.credit e

    one : (g : ℕ) × HoldsHead setting w e h p k g
    one = first_holder setting w e h p k n end.held

    within : GuardsWithin setting.scope e h one.0
    within = end.place.asked.guards e h one.0 one.1.guard.guards

    begins : BeginsBy setting next end.place e h n
    begins = begins_later setting w next end.before end.place events end.comes e h p k one.0 n one.1
        (end.held.longest.logs one.0 (guard_log setting w end.before e h one.0 one.1.guard one.1.epoch)) log end.is
        (let long = end.long in let some = end.some in omega (arith, long, some))

-- a log that had nobody's number has it behind the longest
behind_longest : {S : Type 0} (setting : Setting S) (w next : World) (events : List Plain) (e h p k n slot : ℕ) (payload : List ℤ) (log : List Content)
    → IsEnd setting w next events e h p k n log → slice_get (taken_in setting next h) slot ≡ Some (Message p k payload)
    → HasNobodyTaken setting w h p k → n ≤ slot
behind_longest {S} setting w next events e h p k n slot payload log end get nobody = elim (low_or_not slot n) [
  | inr past ↦ past
  | inl low ↦ absurd
      (let x = end.held.longest.reached in
      let other : x.0 ≢ olympus = λ same. let host = x.1.host in let few = end.before.asked.hosts in omega (arith, same, host, few) in
      let old = get_inside ((w.nodes x.0).logs h) slot (let long = x.2 in omega (arith, low, long)) in
      let kept = entry_on setting h slot old.0 x.0 w next events other end.comes old.1 in
      let there = in_prefix ((next.nodes x.0).logs h) (taken_in setting next h)
      (log_taken setting end.place.asked next end.place.machine x.0 h (truthful_of setting x.0 other x.1.honest)) slot old.0 kept in
      let both = sym there ∙ get in
      let same : old.0 ≡ Message p k payload = cc in
      nobody x.0 slot payload x.1 (old.1 ∙ ap Some same))
]

pub takes_in_credit : {S : Type 0} (setting : Setting S) → IsScenario setting → HasGoodGuards setting.scope
    → AreNeighbours setting.scope.rules → InEachWorld setting (TakesInCredit setting)
takes_in_credit {S} setting asked good ways first w happen e h p k n held events next comes log is long = record {
  slot = has.slot;
  payload = has.payload;
  entry = get_same log (taken_in setting next h)
      (log_in setting next end.place e h within.host log is) has.slot (Message p k has.payload)
      (let low = has.within in omega (arith, low, long)) has.entry;
  within = has.within;
  behind = λ nobody. behind_longest setting w next events e h p k n has.slot has.payload log end has.entry nobody;
}
  where
    one : (g : ℕ) × HoldsHead setting w e h p k g
    one = first_holder setting w e h p k n held

    within : GuardsWithin setting.scope e h one.0
    within = asked.guards e h one.0 one.1.guard.guards

    reached : IsReached setting w
    reached = record { events = first; happen = happen }

    later : IsReached setting next
    later = reached_on setting w next events reached comes

    end : IsEnd setting w next events e h p k n log
    end = record {
      ways = ways;
      reached = reached;
      before = place_of setting asked good first w happen;
      place = place_of setting asked good later.events next later.happen;
      held = held;
      comes = comes;
      is = is;
      long = long;
      some = some_credit setting good asked.hosts ways e h p within.epoch within.host held.near;
    }

    has : HasNumber p k (taken_in setting next h) (n + 2 * setting.scope.credit e)
    has = taken_by setting w next events e h p k n log end good

    get_same : (xs ys : List Content) → IsPrefixOf xs ys → (i : ℕ) (c : Content) → i < length xs → slice_get ys i ≡ Some c
        → slice_get xs i ≡ Some c
    get_same xs ys pre i c low get =
        let here = get_inside xs i low in
        let there = in_prefix xs ys pre i here.0 here.1 in
        let both = sym there ∙ get in
        let same : here.0 ≡ c = cc in here.1 ∙ ap Some same

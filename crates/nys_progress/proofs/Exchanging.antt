-- What an exchange brings: a packet in the pool, from an honest party to an honest guard, is taken by it.
use Rattle.std.proofs.Common.{◌≡◌, ℕ, zero, suc, ◌+◌, ◌<◌, ◌&&◌, Bool, true, false, List, [], ◌∷◌, ◌++◌, length, Some, Ok, Err, refl, ap, sym, subst, ◌∙◌, arith}
use Rattle.std.specs.Prelude.{Contains, cond, filter, Result, slice_get}
use Rattle.std.specs.List.{range_with_len}
use Rattle.std.proofs.lemmas.Option.{slice_get_within}
use Rattle.nys_agreement.proofs.ListLemmas.{append_some}
use Rattle.nys_rules.specs.declared.notice.End.{End}
use Rattle.nys_rules.specs.declared.notice.NoteKind.{NoteKind}
use Rattle.nys_rules.specs.declared.notice.NoteKind.TheVariants as tell
use Rattle.nys_rules.specs.Events.Plain.{Deliver}
use Rattle.nys_rules.specs.Forged.{Entry}
use Rattle.nys_rules.specs.Happening.{Delivers, DeliversAll, HappenAll, honest_packets, OlympusDecides, OlympusRetires, packets_with, Then, wedge_note}
use Rattle.nys_rules.specs.Olympus.{OlympusView}
use Rattle.nys_rules.specs.Packets.{Done, Sent}
use Rattle.nys_rules.specs.View.{View}
use Rattle.nys_rules.specs.World.{after_olympus, is_honest, Setting, with_decided, with_note, World}
use Rattle.nys_rules.proofs.WorldFrames.{after_olympus_ok, decided_frame, delivers_all_keep}
use Rattle.nys_laws.specs.Epochs.{FollowsHistory, History}
use Rattle.nys_laws.specs.SetUp.{IsSetUp}
use Rattle.nys_laws.proofs.EpochWorlds.{histories_go_on}
use Rattle.nys_laws.proofs.WorldKeeping.{HoldsOfNodes, StepsKeep, worlds_keep}
use Rattle.nys_progress.proofs.EndedEpochs.{ends_keep, EndsBy, going_on, IsGoing}
use Rattle.nys_progress.proofs.EventMoves.{delivers_moves, MovesKeep}

-- ---- packets stay in the pool

-- a packet of the pool keeps its place
abbrev pub PoolStays : World → World → Type 0
PoolStays w next = (k : ℕ) (p : Sent) → slice_get w.pool k ≡ Some p → slice_get next.pool k ≡ Some p

-- a pool that is as it was
same_pool : (w next : World) → next.pool ≡ w.pool → PoolStays w next
same_pool w next is k p get = ap (λ ps. slice_get ps k) is ∙ get

-- a pool to which packets came
longer_pool : (w next : World) (more : List Sent) → next.pool ≡ w.pool ++ more → PoolStays w next
longer_pool w next more is k p get = ap (λ ps. slice_get ps k) is ∙ append_some w.pool more k p get

-- the Olympus that acted
olympus_pool : (o : OlympusView) (done : Done) (kind : NoteKind) (w next : World)
    → after_olympus o done (with_note kind w) ≡ Ok next
    → PoolStays w next
olympus_pool o done kind w next is =
    longer_pool w next done.acts.packets (ap (λ (x : World). x.pool) (after_olympus_ok o done (with_note kind w) next is))

-- a decision
decide_pool : {S : Type 0} (setting : Setting S) (w next : World) (h : ℕ)
    → OlympusDecides setting w h (Ok next) → PoolStays w next
decide_pool setting w next h o =
    let was = record w { olympus = o.after } in
    let mid = with_decided h 0 (o.after.decided h) was in
    let is = o.result_is in
    let same : next ≡ with_note (tell.Decide h o.answer) mid = cc in
    same_pool w next
    (ap (λ (x : World). x.pool) same ∙ ap (λ (x : World). x.pool) (decided_frame h 0 (o.after.decided h) was))

-- a host that is given up, or not
retire_pool : (w next : World) (h : ℕ) → OlympusRetires w h (Ok next) → PoolStays w next
retire_pool w next h o =
    let is = o.result_is in
    let same : next ≡ with_note (tell.Retire h o.answer) (record w { olympus = o.after }) = cc in
    same_pool w next (ap (λ (x : World). x.pool) same)

-- each step
pub pool_keep : {S : Type 0} (setting : Setting S) → MovesKeep setting (Unit {0}) PoolStays
pool_keep setting = record {
  same = λ w k p get. get;
  both = λ w mid next one other k p get. other k p (one k p get);
  told = λ w events delivered injected takes stay k p get. get;
  noted = λ w kind k p get. get;
  node = λ w g after ledger more longest run called k p get. append_some w.pool more k p get;
  hears = λ w frame after done ledger more heard k p get. append_some w.pool more k p get;
  packets = λ w more k p get. append_some w.pool more k p get;
  wedges = λ may w next o. olympus_pool o.after o.done (wedge_note w.olympus o.did) w next (sym o.result_is);
  decides = λ w next h o. decide_pool setting w next h o;
  retires = λ w next h o. retire_pool w next h o;
  opens = λ w next o. olympus_pool o.after o.done (tell.Open o.answer) w next (sym o.result_is);
}

-- a packet that is given leaves the others
pub deliver_pool : {S : Type 0} (setting : Setting S) (w next : World) (k : ℕ)
    → Delivers setting w k (Ok next) → PoolStays w next
deliver_pool setting w next k d = delivers_moves setting (Unit {0}) PoolStays (pool_keep setting) w next k d

-- ---- which packets an exchange gives

-- what passes a test is among what passes
pub in_filter : {A : Type 0} (test : A → Bool) (xs : List A) (x : A) → test x ≡ true → Contains xs x
    → Contains (filter test xs) x
in_filter test [] x is among = absurd (omega (arith, among.1))
in_filter test (y ∷ xs) x is (zero, lt, at) = by (test y) (ap test at ∙ is)
  where
    by : (b : Bool) → b ≡ true → Contains (cond b (y ∷ filter test xs) (filter test xs)) x
    by true passes = (zero, omega arith, at)
    by false passes = absurd (cc)
in_filter test (y ∷ xs) x is (suc n, lt, at) = by (test y) (in_filter test xs x is (n, omega (arith, lt), at))
  where
    by : (b : Bool) → Contains (filter test xs) x
        → Contains (cond b (y ∷ filter test xs) (filter test xs)) x
    by true rest = (suc rest.0, omega (arith, rest.1), rest.2)
    by false rest = rest

-- a number below is in a range
in_range : (a n k : ℕ) → k < n → Contains (range_with_len a n) (a + k)
in_range a zero k lt = absurd (omega (arith, lt))
in_range a (suc n) zero lt = (zero, omega arith, omega arith)
in_range a (suc n) (suc k) lt =
    let rest = in_range (a + 1) n k (omega (arith, lt)) in
    let same : a + 1 + k ≡ a + suc k = omega arith in
    subst (Contains (range_with_len a (suc n))) same (suc rest.0, omega (arith, rest.1), rest.2)

-- an element has a place
pub place_in : {A : Type 0} (xs : List A) (x : A) → Contains xs x → (k : ℕ) × (slice_get xs k ≡ Some x)
place_in [] x among = absurd (omega (arith, among.1))
place_in (y ∷ xs) x (zero, lt, at) = (zero, ap Some at)
place_in (y ∷ xs) x (suc n, lt, at) = let rest = place_in xs x (n, omega (arith, lt), at) in (suc rest.0, rest.1)

-- a packet that passes a test is among those that pass it
packet_passes : (test : ℕ → Sent → Bool) (w : World) (k : ℕ) (p : Sent) → slice_get w.pool k ≡ Some p
    → test k p ≡ true
    → Contains (packets_with test w) k
packet_passes test w k p get is =
    let from_none : 0 + k ≡ k = omega arith in
    in_filter _ (range_with_len 0 (length w.pool)) k (rw get is)
    (subst (Contains (range_with_len 0 (length w.pool))) from_none
    (in_range 0 (length w.pool) k (slice_get_within w.pool k p get)))

-- an exchange gives each packet between honest parties
pub packet_given : {S : Type 0} (setting : Setting S) (w : World) (k : ℕ) (p : Sent)
    → slice_get w.pool k ≡ Some p
    → is_honest setting p.from ≡ true → is_honest setting p.to ≡ true
    → Contains (honest_packets setting w) k
packet_given setting w k p get from to =
    packet_passes (λ n x. is_honest setting x.from && is_honest setting x.to) w k p get
    (ap (λ (b : Bool). b && is_honest setting p.to) from ∙ to)

-- ---- packets, one after another

-- a fact that each packet keeps, and that this one brings to another, is brought to the other by packets with it
pub taken_among : {S : Type 0} (setting : Setting S) (Ready Marked : World → Type 0) (k : ℕ) (p : Sent)
    → ((w next : World) (n : ℕ) → Delivers setting w n (Ok next) → Ready w → Ready next)
    → ((w next : World) (n : ℕ) → Delivers setting w n (Ok next) → Marked w → Marked next)
    → ((w next : World) → Delivers setting w k (Ok next) → slice_get w.pool k ≡ Some p → Ready w → Marked next)
    → (w after : World) (ks : List ℕ) → DeliversAll setting w ks (Ok after) → Contains ks k
    → slice_get w.pool k ≡ Some p
    → Ready w → Marked after
taken_among {S} setting Ready Marked k p ready marked brings w after (n ∷ ks) given (zero, lt, at) get r =
    by given.0 given.1 given.2
  where
    by : (mid : Result World End) → Delivers setting w n mid
        → Then mid (Ok after) (λ x. DeliversAll setting x ks (Ok after)) → Marked after
    by (Err end) first rest = absurd (cc)
    by (Ok mid) first rest =
        delivers_all_keep setting Marked marked mid after ks rest
        (brings w mid (subst (λ j. Delivers setting w j (Ok mid)) at first) get r)
taken_among {S} setting Ready Marked k p ready marked brings w after (n ∷ ks) given (suc j, lt, at) get r =
    by given.0 given.1 given.2
    (λ mid rest is there. taken_among setting Ready Marked k p ready marked brings mid after ks rest (j, omega (arith, lt), at) there is)
  where
    by : (mid : Result World End) → Delivers setting w n mid
        → Then mid (Ok after) (λ x. DeliversAll setting x ks (Ok after))
        → ((x : World) → DeliversAll setting x ks (Ok after) → Ready x → slice_get x.pool k ≡ Some p → Marked after)
        → Marked after
    by (Err end) first rest later = absurd (cc)
    by (Ok mid) first rest later = later mid rest (ready w mid n first r) (deliver_pool setting w mid n first k p get)
taken_among setting Ready Marked k p ready marked brings w after [] given among get r = absurd (omega (arith, among.1))

-- ---- what each packet keeps

-- a packet that is given is an event, less its count
delivered_event : {S : Type 0} (setting : Setting S) (w next : World) (k : ℕ)
    → Delivers setting w k (Ok next)
    → HappenAll setting w (Deliver k ∷ []) (Ok (record next { events = next.events + 1 }))
delivered_event setting w next k d =
    (Ok (record next { events = next.events + 1 }), record { mid = Ok next; does = d; result_is = refl }, refl)

-- a fact of each node
pub deliver_nodes : {S : Type 0} (setting : Setting S) (Fact : ℕ → List Entry → View → Type 0)
    → StepsKeep setting Fact → (w next : World) (k : ℕ)
    → Delivers setting w k (Ok next) → HoldsOfNodes Fact w → HoldsOfNodes Fact next
deliver_nodes setting Fact keep w next k d all =
    worlds_keep setting Fact keep w (record next { events = next.events + 1 }) (Deliver k ∷ []) (delivered_event setting w next k d) all

-- the history, and that the epoch goes on
pub record IsGoingOn {S : Type 0} (setting : Setting S) (e : ℕ) (w : World) : Type 0 where
  pub history : History
  pub follows : FollowsHistory setting history w
  pub going : IsGoing w e

-- both stay
pub deliver_going : {S : Type 0} (setting : Setting S) → IsSetUp setting.scope
    → (e : ℕ) (w next : World) (k : ℕ)
    → Delivers setting w k (Ok next) → IsGoingOn setting e w → IsGoingOn setting e next
deliver_going setting set e w next k d on =
    let goes = histories_go_on setting set (Deliver k ∷ []) w (record next { events = next.events + 1 }) on.history
    (delivered_event setting w next k d) on.follows in record {
      history = goes.later;
      follows = record {
        top = goes.follows.top;
        made = goes.follows.made;
        nodes = goes.follows.nodes;
        nobody = goes.follows.nobody;
      };
      going = going_on w next e goes.rises (delivers_moves setting ⊥ (EndsBy ⊥) (ends_keep setting ⊥) w next k d) on.going;
    }

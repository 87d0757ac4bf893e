-- A relation of worlds that holds from each world to the next of each step holds over events. Steps are whole calls
-- of a node here, with the settling at their end.
use Rattle.std.proofs.Common.{◌≡◌, ℕ, suc, ◌+◌, ◌==◌, Bool, true, false, ℤ, List, [], ◌∷◌, ◌++◌, Some, None, Ok, Err, refl, sym, subst, arith}
use Rattle.std.proofs.lemmas.List.Elements.{Contains-append_left}
use Rattle.std.specs.Prelude.{Contains, Option, Result, find, if◌then◌else◌, length, nat_lt, not, slice_get}
use Rattle.nys_rules.specs.declared.cause.DropCause.{DropCause}
use Rattle.nys_rules.specs.declared.notice.End.{End}
use Rattle.nys_rules.specs.declared.notice.NoteKind.{NoteKind}
use Rattle.nys_rules.specs.declared.notice.NoteKind.TheVariants as tell
use Rattle.nys_rules.specs.declared.notice.Take.{Take}
use Rattle.nys_rules.specs.Events.{Plain}
use Rattle.nys_rules.specs.Events.Plain.{Input, Deliver, Flush, Exchange, Ask, Bytes, Say, Bundle, Steal, Wedge, Decide, Retire, Open}
use Rattle.nys_rules.specs.Forged.{Entry}
use Rattle.nys_rules.specs.Handling.{Asks, Handles, Takes}
use Rattle.nys_rules.specs.Happening.{bundle_or_end, counted, Delivers, DeliversAll, Does, first_frame, GivesPacket, HappenAll, Happens, honest_packets, IfHonest, IsGiven, NodeAsks, NodeIsHanded, OlympusDecides, OlympusOpens, OlympusRetires, OlympusWedges, sends_bundle, TakenBy, Then, undelivered, with_full_note, with_injected, with_take}
use Rattle.nys_rules.specs.Olympus.{Hears, OlympusView}
use Rattle.nys_rules.specs.Packets.{Done, Given, Sent}
use Rattle.nys_rules.specs.Scope.{olympus, Scope}
use Rattle.nys_rules.specs.View.{View}
use Rattle.nys_rules.specs.World.{after_node, after_olympus, is_honest, Setting, with_note, with_packets, World}
use Rattle.nys_rules.proofs.WorldFrames.{after_node_ok, after_olympus_ok, delivers_all_keep, happen_keep, packets_ok, unless_forged_ok}
use Rattle.nys_source.specs.Tables.{put}
use Rattle.nys_source.specs.declared.step.Step.{Step}
use Rattle.nys_stmt.specs.declared.records.Record.{Record}
use Rattle.nys_wire.specs.Reading.{whole_record}
use Rattle.nys_wire.specs.declared.fault.WireFault.{WireFault}
use Rattle.nys_progress.specs.Relay.{HasNoWedge}

-- a call of a node makes this of its view
pub data IsCalled {S : Type 0} (scope : Scope S) (v after : View) : Type 0 where
  Handled : (frame : List ℕ) (done : Done) → Handles scope v frame after done → IsCalled scope v after
  Handed : (payload : List ℤ) (done : Done) → Takes scope v payload after done → IsCalled scope v after
  Asked : (done : Done) → Asks scope v after done → IsCalled scope v after

-- the relation holds over no step, over steps one after another, and over each step; where the Olympus may be told
-- to end its epoch only if that may be
pub record MovesKeep {S : Type 0} (setting : Setting S) (MayWedge : Type 0) (R : World → World → Type 0) : Type 0 where
  pub same : (w : World) → R w w
  pub both : (w mid next : World) → R w mid → R mid next → R w next
  -- what is told of the events themselves: bytes that were given stay
  pub told : (w : World) (events : ℕ) (delivered : ℕ → Bool) (injected : List Given) (takes : List Take)
      → ((x : Given) → Contains w.injected x → Contains injected x)
      → R w (record w { events = events; delivered = delivered; injected = injected; takes = takes })
  pub noted : (w : World) (kind : NoteKind) → R w (with_note kind w)
  -- a node is called
  pub node : (w : World) (g : ℕ) (after : View) (ledger : List Entry) (sent : List Sent) (longest : ℕ → ℕ) (run : List Step)
      → IsCalled setting.scope (w.nodes g) after
      → R w (record w { nodes = put w.nodes g after; ledger = ledger; pool = w.pool ++ sent; longest = longest; run = run })
  -- the Olympus takes bytes
  pub hears : (w : World) (frame : List ℕ) (after : OlympusView) (done : Done) (ledger : List Entry) (sent : List Sent)
      → Hears setting.scope w.olympus frame after done
      → R w (record w { olympus = after; ledger = ledger; pool = w.pool ++ sent })
  -- packets come from elsewhere
  pub packets : (w : World) (sent : List Sent) → R w (record w { pool = w.pool ++ sent })
  -- the Olympus is told something
  pub wedges : MayWedge → (w next : World) → OlympusWedges setting w (Ok next) → R w next
  pub decides : (w next : World) (h : ℕ) → OlympusDecides setting w h (Ok next) → R w next
  pub retires : (w next : World) (h : ℕ) → OlympusRetires w h (Ok next) → R w next
  pub opens : (w next : World) → OlympusOpens setting w (Ok next) → R w next

-- nothing that happens
same_moves : {S : Type 0} (setting : Setting S) (MayWedge : Type 0) (R : World → World → Type 0)
    → MovesKeep setting MayWedge R
    → (w next : World) → ◌≡◌ {A = Result World End} (Ok next) (Ok w) → R w next
same_moves setting MayWedge R keep w next is = let same : next ≡ w = cc in subst (R w) (sym same) (keep.same w)

-- a node that acted
node_moves : {S : Type 0} (setting : Setting S) (MayWedge : Type 0) (R : World → World → Type 0)
    → MovesKeep setting MayWedge R
    → (g : ℕ) (v : View) (done : Done) (w next : World) → after_node g v done w ≡ Ok next
    → IsCalled setting.scope (w.nodes g) v → R w next
node_moves setting MayWedge R keep g v done w next is called =
    subst (R w) (sym (after_node_ok g v done w next is)) (keep.node w g v _ _ _ _ called)

-- bytes that are given to a party
given_moves : {S : Type 0} (setting : Setting S) (MayWedge : Type 0) (R : World → World → Type 0)
    → MovesKeep setting MayWedge R
    → (w next : World) (to : ℕ) (k : Option ℕ) (frame : List ℕ) → IsGiven setting w to k frame (Ok next)
    → R w next
given_moves {S} setting MayWedge R keep w next to k frame given = by (is_honest setting to) (to == olympus) given
  where
    by : (honest at_olympus : Bool) → TakenBy setting w honest at_olympus to k frame (Ok next) → R w next
    by false at_olympus is = same_moves setting MayWedge R keep w next is
    by true true o =
        let mid = with_take olympus k o.done.dropped w in
        let goes = unless_forged_ok setting w olympus o.done.statement _ (after_olympus o.after o.done mid) next o.ends in
        keep.both w mid next (keep.told w w.events w.delivered w.injected mid.takes (λ x among. among))
        (subst (R mid) (sym (after_olympus_ok o.after o.done mid next goes.1))
        (keep.hears mid frame o.after o.done _ _ o.hears))
    by true false n =
        let mid = with_take to k n.done.dropped w in
        let goes = unless_forged_ok setting w to n.done.statement _ (after_node to n.after n.done mid) next n.ends in
        keep.both w mid next (keep.told w w.events w.delivered w.injected mid.takes (λ x among. among))
        (node_moves setting MayWedge R keep to n.after n.done mid next goes.1 (Handled frame n.done n.handles))

-- a packet that is given
pub delivers_moves : {S : Type 0} (setting : Setting S) (MayWedge : Type 0) (R : World → World → Type 0)
    → MovesKeep setting MayWedge R
    → (w next : World) (k : ℕ) → Delivers setting w k (Ok next) → R w next
delivers_moves {S} setting MayWedge R keep w next k given = by (slice_get w.pool k) given
  where
    by : (p : Option Sent) → GivesPacket setting w k p (Ok next) → R w next
    by None is = absurd (cc)
    by (Some p) is =
        keep.both w _ next (keep.told w w.events (λ x. if x == k then true else w.delivered x) w.injected w.takes (λ x among. among))
        (given_moves setting MayWedge R keep _ next p.to (Some k) p.frame is)

-- packets that are given, one after another
delivers_all_moves : {S : Type 0} (setting : Setting S) (MayWedge : Type 0) (R : World → World → Type 0)
    → MovesKeep setting MayWedge R
    → (w next : World) (ks : List ℕ) → DeliversAll setting w ks (Ok next) → R w next
delivers_all_moves setting MayWedge R keep w next ks given =
    delivers_all_keep setting (R w) (λ x y k is before. keep.both w x y before (delivers_moves setting MayWedge R keep x y k is))
    w next ks given (keep.same w)

-- a node that is handed an input
handed_moves : {S : Type 0} (setting : Setting S) (MayWedge : Type 0) (R : World → World → Type 0)
    → MovesKeep setting MayWedge R
    → (w next : World) (h : ℕ) (payload : List ℤ) → NodeIsHanded setting w h payload (Ok next) → R w next
handed_moves {S} setting MayWedge R keep w next h payload n = by n.done.dropped (sym n.result_is)
  where
    by : (dropped : Option DropCause) → after_node h n.after n.done (with_full_note h dropped w) ≡ Ok next
        → R w next
    by None is = node_moves setting MayWedge R keep h n.after n.done w next is (Handed payload n.done n.takes)
    by (Some cause) is =
        keep.both w (with_note (tell.QueueFull h) w) next (keep.noted w (tell.QueueFull h))
        (node_moves setting MayWedge R keep h n.after n.done (with_note (tell.QueueFull h) w) next is (Handed payload n.done n.takes))

-- what happens to an honest host, or nothing
if_honest_moves : {S : Type 0} (setting : Setting S) (MayWedge : Type 0) (R : World → World → Type 0)
    → MovesKeep setting MayWedge R
    → (honest : Bool) (w next : World) (happens : Type 0) → (happens → R w next)
    → IfHonest honest w (Ok next) happens → R w next
if_honest_moves setting MayWedge R keep true w next happens moves is = moves is
if_honest_moves setting MayWedge R keep false w next happens moves is = same_moves setting MayWedge R keep w next is

-- packets that are sent
sent_moves : {S : Type 0} (setting : Setting S) (MayWedge : Type 0) (R : World → World → Type 0)
    → MovesKeep setting MayWedge R
    → (packets : List Sent) (w next : World) → with_packets packets w ≡ Ok next → R w next
sent_moves setting MayWedge R keep packets w next is =
    subst (R w) (sym (packets_ok packets w next is)) (keep.packets w packets)

-- a bundle
bundle_moves : {S : Type 0} (setting : Setting S) (MayWedge : Type 0) (R : World → World → Type 0)
    → MovesKeep setting MayWedge R
    → (w next : World) (a : ℕ) (to packets : List ℕ) (missing : Option ℕ)
    → Ok next ≡ bundle_or_end w a to packets missing → R w next
bundle_moves setting MayWedge R keep w next a to packets (Some k) is = absurd (cc)
bundle_moves {S} setting MayWedge R keep w next a to packets None is = by (whole_record (first_frame w packets)) is
  where
    by : (reading : Result Record WireFault) → Ok next ≡ sends_bundle w a to packets reading → R w next
    by (Err fault) is = same_moves setting MayWedge R keep w next is
    by (Ok r) is = sent_moves setting MayWedge R keep _ w next (sym is)

-- each kind of event
does_moves : {S : Type 0} (setting : Setting S) (MayWedge : Type 0) (R : World → World → Type 0)
    → MovesKeep setting MayWedge R
    → (w next : World) (event : Plain) → (event ≡ Wedge → MayWedge) → Does setting w event (Ok next)
    → R w next
does_moves setting MayWedge R keep w next (Input h payload) may d =
    if_honest_moves setting MayWedge R keep (is_honest setting h) w next (NodeIsHanded setting w h payload (Ok next))
    (handed_moves setting MayWedge R keep w next h payload) d
does_moves setting MayWedge R keep w next (Deliver k) may d = delivers_moves setting MayWedge R keep w next k d
does_moves setting MayWedge R keep w next Flush may d = delivers_all_moves setting MayWedge R keep w next (undelivered w) d
does_moves setting MayWedge R keep w next Exchange may d =
    delivers_all_moves setting MayWedge R keep w next (honest_packets setting w) d
does_moves setting MayWedge R keep w next (Ask h) may d =
    if_honest_moves setting MayWedge R keep (is_honest setting h) w next (NodeAsks setting w h (Ok next))
    (λ n. node_moves setting MayWedge R keep h n.after n.done w next (sym n.result_is) (Asked n.done n.asks)) d
does_moves setting MayWedge R keep w next (Bytes to frame) may d =
    let mid = with_injected to frame w in
    keep.both w mid next (keep.told w w.events w.delivered mid.injected w.takes (λ x among. Contains-append_left w.injected _ x among))
    (given_moves setting MayWedge R keep mid next to None frame d)
does_moves setting MayWedge R keep w next (Say a to statement) may d = sent_moves setting MayWedge R keep _ w next (sym d)
does_moves setting MayWedge R keep w next (Bundle a to packets) may d =
    bundle_moves setting MayWedge R keep w next a to packets (find (λ k. not (nat_lt k (length w.pool))) packets) d
does_moves setting MayWedge R keep w next (Steal a to statement) may d = sent_moves setting MayWedge R keep _ w next (sym d)
does_moves setting MayWedge R keep w next Wedge may d = keep.wedges (may refl) w next d
does_moves setting MayWedge R keep w next (Decide h) may d = keep.decides w next h d
does_moves setting MayWedge R keep w next (Retire h) may d = keep.retires w next h d
does_moves setting MayWedge R keep w next Open may d = keep.opens w next d

-- an event
pub happens_moves : {S : Type 0} (setting : Setting S) (MayWedge : Type 0) (R : World → World → Type 0)
    → MovesKeep setting MayWedge R
    → (w next : World) (event : Plain) → (event ≡ Wedge → MayWedge) → Happens setting w event (Ok next)
    → R w next
happens_moves {S} setting MayWedge R keep w next event may happens = by happens.mid happens.does happens.result_is
  where
    by : (mid : Result World End) → Does setting w event mid → Ok next ≡ counted mid → R w next
    by (Err end) does is = absurd (cc)
    by (Ok after) does is =
        keep.both w after next (does_moves setting MayWedge R keep w after event may does)
        (let moved = keep.told after (after.events + 1) after.delivered after.injected after.takes (λ x among. among) in
        let same : next ≡ record after { events = after.events + 1 } = cc in
        subst (R after) (sym same) moved)

-- events, one after another
pub happen_moves : {S : Type 0} (setting : Setting S) (R : World → World → Type 0)
    → MovesKeep setting (Unit {0}) R
    → (w next : World) (events : List Plain) → HappenAll setting w events (Ok next) → R w next
happen_moves setting R keep w next events happen =
    happen_keep setting (R w)
    (λ x y event happens before. keep.both w x y before (happens_moves setting (Unit {0}) R keep x y event (λ is. tt) happens))
    w next events happen (keep.same w)

-- the same where no event is a wedge
pub quiet_moves : {S : Type 0} (setting : Setting S) (R : World → World → Type 0) → MovesKeep setting ⊥ R
    → (w next : World) (events : List Plain) → HasNoWedge events → HappenAll setting w events (Ok next)
    → R w next
quiet_moves setting R keep w next [] none happen = same_moves setting ⊥ R keep w next happen
quiet_moves {S} setting R keep w next (event ∷ events) none happen =
    by happen.0 happen.1 happen.2
    (λ mid rest. quiet_moves setting R keep mid next events (λ x. none (suc x.0, omega (arith, x.1), x.2)) rest)
  where
    by : (mid : Result World End) → Happens setting w event mid
        → Then mid (Ok next) (λ x. HappenAll setting x events (Ok next))
        → ((x : World) → HappenAll setting x events (Ok next) → R x next) → R w next
    by (Err end) happens rest later = absurd (cc)
    by (Ok mid) happens rest later =
        keep.both w mid next
        (happens_moves setting ⊥ R keep w mid event (λ is. none (0, omega arith, is)) happens)
        (later mid rest)

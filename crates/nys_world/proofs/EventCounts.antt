-- What an event does leaves the count of events as it was, until the event is over.
use Rattle.std.proofs.Common.{◌≡◌, ℕ, ◌+◌, ◌==◌, Bool, true, false, List, Some, None, Ok, Err, refl, ap, sym, ◌∙◌}
use Rattle.std.specs.Prelude.{Option, Result, find, length, nat_lt, not, slice_get}
use Rattle.nys_rules.specs.declared.cause.DropCause.{DropCause}
use Rattle.nys_rules.specs.declared.notice.End.{End}
use Rattle.nys_rules.specs.Events.{Plain}
use Rattle.nys_rules.specs.Events.Plain.{Input, Deliver, Flush, Exchange, Ask, Bytes, Say, Bundle, Steal, Wedge, Decide, Retire, Open}
use Rattle.nys_rules.specs.Forged.{makers_told}
use Rattle.nys_rules.specs.Happening.{bundle_or_end, counted, Delivers, DeliversAll, Does, first_frame, GivesPacket, Happens, honest_packets, IfHonest, IsGiven, NodeAsks, NodeIsHanded, OlympusDecides, sends_bundle, TakenBy, undelivered, with_full_note, with_injected, with_take}
use Rattle.nys_rules.specs.Olympus.{OlympusView}
use Rattle.nys_rules.specs.Packets.{Done, Sent}
use Rattle.nys_rules.specs.Scope.{olympus}
use Rattle.nys_rules.specs.View.{View}
use Rattle.nys_rules.specs.World.{after_node, after_olympus, is_honest, Setting, with_packets, World}
use Rattle.nys_rules.proofs.WorldFrames.{after_node_ok, after_olympus_ok, decided_frame, delivers_all_keep, packets_ok, unless_forged_ok}
use Rattle.nys_stmt.specs.declared.records.Record.{Record}
use Rattle.nys_wire.specs.Reading.{whole_record}
use Rattle.nys_wire.specs.declared.fault.WireFault.{WireFault}

-- so many events are over
abbrev Counts : ℕ → World → Type 0
Counts n w = w.events ≡ n

-- the world itself
same_count : (n : ℕ) (w next : World) → ◌≡◌ {A = Result World End} (Ok next) (Ok w) → Counts n w → Counts n next
same_count n w next is c = let same : next ≡ w = cc in ap (λ (z : World). z.events) same ∙ c

-- a node that acted
node_count : (n g : ℕ) (v : View) (done : Done) (w next : World) → after_node g v done w ≡ Ok next → Counts n w → Counts n next
node_count n g v done w next is c = ap (λ (z : World). z.events) (after_node_ok g v done w next is) ∙ c

-- the Olympus that acted
olympus_count : (n : ℕ) (o : OlympusView) (done : Done) (w next : World) → after_olympus o done w ≡ Ok next → Counts n w → Counts n next
olympus_count n o done w next is c = ap (λ (z : World). z.events) (after_olympus_ok o done w next is) ∙ c

-- packets that are sent
packets_count : (n : ℕ) (packets : List Sent) (w next : World) → with_packets packets w ≡ Ok next → Counts n w → Counts n next
packets_count n packets w next is c = ap (λ (z : World). z.events) (packets_ok packets w next is) ∙ c

-- bytes that are given to a party
given_count : {S : Type 0} (setting : Setting S) (n : ℕ) (w next : World) (to : ℕ) (k : Option ℕ) (frame : List ℕ)
    → IsGiven setting w to k frame (Ok next) → Counts n w → Counts n next
given_count {S} setting n w next to k frame given c = by (is_honest setting to) (to == olympus) given
  where
    by : (honest at_olympus : Bool) → TakenBy setting w honest at_olympus to k frame (Ok next) → Counts n next
    by false at_olympus is = same_count n w next is c
    by true true o =
        let mid = with_take olympus k o.done.dropped w in
        let goes = unless_forged_ok setting w olympus o.done.statement (makers_told o.done)
        (after_olympus o.after o.done mid) next o.ends in
        olympus_count n o.after o.done mid next goes.1 c
    by true false g =
        let mid = with_take to k g.done.dropped w in
        let goes = unless_forged_ok setting w to g.done.statement (makers_told g.done)
        (after_node to g.after g.done mid) next g.ends in
        node_count n to g.after g.done mid next goes.1 c

-- a packet that is given
delivers_count : {S : Type 0} (setting : Setting S) (n : ℕ) (w next : World) (k : ℕ)
    → Delivers setting w k (Ok next) → Counts n w → Counts n next
delivers_count {S} setting n w next k given c = by (slice_get w.pool k) given
  where
    by : (p : Option Sent) → GivesPacket setting w k p (Ok next) → Counts n next
    by None is = absurd (cc)
    by (Some p) is = given_count setting n _ next p.to (Some k) p.frame is c

-- packets that are given
delivers_all_count : {S : Type 0} (setting : Setting S) (n : ℕ) (w next : World) (ks : List ℕ)
    → DeliversAll setting w ks (Ok next) → Counts n w → Counts n next
delivers_all_count setting n w next ks given c =
    delivers_all_keep setting (Counts n) (λ x y. delivers_count setting n x y) w next ks given c

-- a node that is handed an input
handed_count : {S : Type 0} (setting : Setting S) (n : ℕ) (w next : World) (h : ℕ) (done : Done) (after : View) (dropped : Option DropCause)
    → Ok next ≡ after_node h after done (with_full_note h dropped w) → Counts n w → Counts n next
handed_count setting n w next h done after None is c = node_count n h after done w next (sym is) c
handed_count setting n w next h done after (Some cause) is c =
    node_count n h after done (with_full_note h (Some cause) w) next (sym is) c

-- what happens to an honest host, or nothing
if_honest_count : (honest : Bool) (n : ℕ) (w next : World) (happens : Type 0) → (happens → Counts n next)
    → IfHonest honest w (Ok next) happens → Counts n w → Counts n next
if_honest_count true n w next happens keeps is c = keeps is
if_honest_count false n w next happens keeps is c = same_count n w next is c

-- a bundle
bundle_count : (n : ℕ) (w next : World) (a : ℕ) (to packets : List ℕ) (missing : Option ℕ)
    → Ok next ≡ bundle_or_end w a to packets missing → Counts n w → Counts n next
bundle_count n w next a to packets (Some k) is c = absurd (cc)
bundle_count n w next a to packets None is c = by (whole_record (first_frame w packets)) is
  where
    by : (reading : Result Record WireFault) → Ok next ≡ sends_bundle w a to packets reading → Counts n next
    by (Err fault) is = same_count n w next is c
    by (Ok r) is = packets_count n _ w next (sym is) c

-- the Olympus that decides a log
decides_count : {S : Type 0} (setting : Setting S) (n : ℕ) (w next : World) (h : ℕ)
    → OlympusDecides setting w h (Ok next) → Counts n w → Counts n next
decides_count setting n w next h o c =
    let was = record w { olympus = o.after } in
    same_count n _ next o.result_is (ap (λ (z : World). z.events) (decided_frame h 0 (o.after.decided h) was) ∙ c)

-- whatever an event does
does_count : {S : Type 0} (setting : Setting S) (n : ℕ) (w next : World) (event : Plain)
    → Does setting w event (Ok next) → Counts n w → Counts n next
does_count setting n w next (Input h payload) d c =
    if_honest_count (is_honest setting h) n w next (NodeIsHanded setting w h payload (Ok next))
    (λ g. handed_count setting n w next h g.done g.after g.done.dropped g.result_is c) d c
does_count setting n w next (Deliver k) d c = delivers_count setting n w next k d c
does_count setting n w next Flush d c = delivers_all_count setting n w next (undelivered w) d c
does_count setting n w next Exchange d c = delivers_all_count setting n w next (honest_packets setting w) d c
does_count setting n w next (Ask h) d c =
    if_honest_count (is_honest setting h) n w next (NodeAsks setting w h (Ok next))
    (λ g. node_count n h g.after g.done w next (sym g.result_is) c) d c
does_count setting n w next (Bytes to frame) d c = given_count setting n (with_injected to frame w) next to None frame d c
does_count setting n w next (Say a to statement) d c = packets_count n _ w next (sym d) c
does_count setting n w next (Bundle a to packets) d c =
    bundle_count n w next a to packets (find (λ k. not (nat_lt k (length w.pool))) packets) d c
does_count setting n w next (Steal a to statement) d c = packets_count n _ w next (sym d) c
does_count setting n w next Wedge d c = olympus_count n d.after d.done _ next (sym d.result_is) c
does_count setting n w next (Decide h) d c = decides_count setting n w next h d c
does_count setting n w next (Retire h) d c = same_count n _ next d.result_is c
does_count setting n w next Open d c = olympus_count n d.after d.done _ next (sym d.result_is) c

-- an event leaves the count as it was
pub does_same_count : {S : Type 0} (setting : Setting S) (w next : World) (event : Plain)
    → Does setting w event (Ok next) → next.events ≡ w.events
does_same_count setting w next event d = does_count setting w.events w next event d refl

-- and once it is over it is counted
pub happens_count : {S : Type 0} (setting : Setting S) (w next : World) (event : Plain)
    → Happens setting w event (Ok next) → next.events ≡ w.events + 1
happens_count {S} setting w next event happens = by happens.mid happens.does happens.result_is
  where
    by : (mid : Result World End) → Does setting w event mid → Ok next ≡ counted mid → next.events ≡ w.events + 1
    by (Err end) does is = absurd (cc)
    by (Ok after) does is =
        let same : next ≡ record after { events = after.events + 1 } = cc in
        ap (λ (z : World). z.events) same ∙ ap (λ k. k + 1) (does_same_count setting w after event does)

-- Which notes an event leaves, and that they tell what it does to the Olympus.
use Rattle.std.proofs.Common.{◌≡◌, ℕ, ◌+◌, Bool, true, false, ℤ, List, [], ◌∷◌, ◌++◌, length, Some, None, Ok, Err, refl, ap, sym, subst, ◌∙◌, arith, append-nil, length-append}
use Rattle.std.specs.Prelude.{Option, Result, find, map, nat_le, nat_lt, not, if◌then◌else◌}
use Rattle.nys_rules.specs.declared.cause.DropCause.{DropCause}
use Rattle.nys_rules.specs.declared.cause.DropCause.TheVariants.{QueueFull}
use Rattle.nys_rules.specs.declared.decision.Decision.{Decision}
use Rattle.nys_rules.specs.declared.decision.Decision.TheVariants as decide
use Rattle.nys_rules.specs.declared.decision.Opened.{Opened}
use Rattle.nys_rules.specs.declared.decision.Opened.TheVariants as opens
use Rattle.nys_rules.specs.declared.decision.Retired.{Retired}
use Rattle.nys_rules.specs.declared.decision.Retired.TheVariants as retire
use Rattle.nys_rules.specs.declared.notice.End.{End}
use Rattle.nys_rules.specs.declared.notice.NoteKind.{NoteKind}
use Rattle.nys_rules.specs.declared.notice.NoteKind.TheVariants as tell
use Rattle.nys_rules.specs.Events.{Plain}
use Rattle.nys_rules.specs.Events.Plain.{Input, Deliver, Flush, Exchange, Ask, Bytes, Say, Bundle, Steal, Wedge, Decide, Retire, Open}
use Rattle.nys_rules.specs.Handling.{TakesWhere}
use Rattle.nys_rules.specs.Happening.{bundle_or_end, counted, Does, first_frame, Happens, honest_packets, IfHonest, NodeAsks, NodeIsHanded, OlympusDecides, OlympusOpens, OlympusRetires, OlympusWedges, sends_bundle, undelivered, wedge_note, with_full_note, with_injected}
use Rattle.nys_rules.specs.Olympus.{after_decision, after_retirement, decision, first_bare, open_decision, OlympusView, OpensWith, frozen_at, supports, WedgesWhere}
use Rattle.nys_rules.specs.Scope.{quorum_at}
use Rattle.nys_rules.specs.Packets.{Done}
use Rattle.nys_rules.specs.World.{after_node, after_olympus, is_honest, Setting, with_decided, with_note, World}
use Rattle.nys_rules.proofs.WorldFrames.{after_node_ok, after_olympus_ok, decided_frame}
use Rattle.nys_stmt.specs.declared.records.Record.{Record}
use Rattle.nys_wire.specs.Reading.{whole_record}
use Rattle.nys_wire.specs.declared.fault.WireFault.{WireFault}
use Rattle.nys_laws.proofs.OlympusLemmas.{decided_pending}
use Rattle.nys_told.proofs.NoteLemmas.{IsOther, IsToldBy, noted_in, same_logs, SameLogs, told_decided, told_next, told_other, told_retired, told_same}
use Rattle.nys_told.proofs.QuietSteps.{delivers_all_quiet, delivers_quiet, given_quiet, IsQuiet, node_quiet, quiet_same, sent_quiet}

-- what is noted of an input, by whether the queue of its host has room
abbrev pub full_kinds : ℕ → Bool → List NoteKind
full_kinds h true = []
full_kinds h false = tell.QueueFull h ∷ []

-- an input to an honest host has a note where the queue has no room
abbrev pub IsFullWhere : {S : Type 0} → Setting S → World → Plain → List NoteKind → Type 0
IsFullWhere setting w (Input h payload) kinds =
    is_honest setting h ≡ true → kinds ≡ full_kinds h (nat_lt (length (w.nodes h).waiting) 1024)
IsFullWhere setting w event kinds = Unit {0}

-- the notes that lead from one world to another, whose numbers are that of the event; notes go on telling what the
-- Olympus keeps
pub record Notes {S : Type 0} (setting : Setting S) (w : World) (event : Plain) (next : World) : Type 0 where
  pub kinds : List NoteKind
  pub notes : next.notes ≡ w.notes ++ map (noted_in w.events) kinds
  pub full : IsFullWhere setting w event kinds
  pub told : IsToldBy w.notes w.olympus → IsToldBy next.notes next.olympus

-- what an event leaves before it is counted
record NotesBefore {S : Type 0} (setting : Setting S) (w : World) (event : Plain) (next : World) : Type 0 where
  events : next.events ≡ w.events
  noted : Notes setting w event next

-- a quiet step leaves none
quiet_notes : {S : Type 0} (setting : Setting S) (w : World) (event : Plain) (next : World) → IsFullWhere setting w event []
    → IsQuiet w next → NotesBefore setting w event next
quiet_notes setting w event next full quiet = record {
  events = quiet.events;
  noted = record {
    kinds = [];
    notes = quiet.notes ∙ sym (append-nil w.notes);
    full = full;
    told = λ told.
        subst (λ n. IsToldBy n next.olympus) (sym quiet.notes) (told_same w.notes w.olympus next.olympus quiet.logs told);
  };
}

-- a step with one note
one_note : {S : Type 0} (setting : Setting S) (w : World) (event : Plain) (kind : NoteKind) (next : World)
    → IsFullWhere setting w event (kind ∷ []) → next.events ≡ w.events → next.notes ≡ w.notes ++ noted_in w.events kind ∷ []
    → (IsToldBy w.notes w.olympus → IsToldBy (w.notes ++ noted_in w.events kind ∷ []) next.olympus)
    → NotesBefore setting w event next
one_note setting w event kind next full events notes told = record {
  events = events;
  noted = record {
    kinds = kind ∷ [];
    notes = notes;
    full = full;
    told = λ t. subst (λ n. IsToldBy n next.olympus) (sym notes) (told t);
  };
}

-- a note of something else, where the Olympus keeps the same
other_note : {S : Type 0} (setting : Setting S) (w : World) (event : Plain) (kind : NoteKind) (next : World)
    → IsFullWhere setting w event (kind ∷ []) → IsOther kind → next.events ≡ w.events
    → next.notes ≡ w.notes ++ noted_in w.events kind ∷ [] → SameLogs w.olympus next.olympus
    → NotesBefore setting w event next
other_note setting w event kind next full other events notes same =
    one_note setting w event kind next full events notes
    (λ t. told_same _ w.olympus next.olympus same (told_other w.notes w.events kind w.olympus other t))

-- an input is noted where the queue is full
handed_notes : {S : Type 0} (setting : Setting S) (w next : World) (h : ℕ) (payload : List ℤ)
    → NodeIsHanded setting w h payload (Ok next) → NotesBefore setting w (Input h payload) next
handed_notes {S} setting w next h payload n = by (nat_lt (length (w.nodes h).waiting) 1024) refl n.takes
  where
    Left : Option DropCause → Type 0
    Left dropped = after_node h n.after n.done (with_full_note h dropped w) ≡ Ok next

    quiet : Left None → (is_honest setting h ≡ true → [] ≡ full_kinds h (nat_lt (length (w.nodes h).waiting) 1024))
        → NotesBefore setting w (Input h payload) next
    quiet is full =
        quiet_notes setting w (Input h payload) next full
        (node_quiet h n.after n.done w w next (record { events = refl; notes = refl; logs = same_logs w.olympus }) is)

    noted : (cause : DropCause) → Left (Some cause)
        → (is_honest setting h ≡ true → tell.QueueFull h ∷ [] ≡ full_kinds h (nat_lt (length (w.nodes h).waiting) 1024))
        → NotesBefore setting w (Input h payload) next
    noted cause is full =
        let ok = after_node_ok h n.after n.done (with_full_note h (Some cause) w) next is in
        other_note setting w (Input h payload) (tell.QueueFull h) next full
        (record { decided = λ x len e. absurd (cc); retired = λ x e. absurd (cc) })
        (ap (λ (x : World). x.events) ok) (ap (λ (x : World). x.notes) ok)
        (subst (λ (x : World). SameLogs w.olympus x.olympus) (sym ok) (same_logs w.olympus))

    by : (room : Bool) → nat_lt (length (w.nodes h).waiting) 1024 ≡ room
        → TakesWhere setting.scope (w.nodes h) payload room n.after n.done → NotesBefore setting w (Input h payload) next
    by true is goes =
        quiet (subst Left (ap (λ (d : Done). d.dropped) goes.told) (sym n.result_is)) (λ honest. ap (full_kinds h) (sym is))
    by false is told =
        noted QueueFull (subst Left (ap (λ (d : Done). d.dropped) told.1) (sym n.result_is)) (λ honest. ap (full_kinds h) (sym is))

-- an input, by whether its host is honest
input_notes : {S : Type 0} (setting : Setting S) (w next : World) (h : ℕ) (payload : List ℤ) (honest : Bool)
    → is_honest setting h ≡ honest → IfHonest honest w (Ok next) (NodeIsHanded setting w h payload (Ok next))
    → NotesBefore setting w (Input h payload) next
input_notes setting w next h payload true is n = handed_notes setting w next h payload n
input_notes setting w next h payload false is same =
    quiet_notes setting w (Input h payload) next (λ honest. absurd (cc)) (quiet_same w next same)

-- questions
ask_quiet : {S : Type 0} (setting : Setting S) (w next : World) (h : ℕ) (honest : Bool)
    → IfHonest honest w (Ok next) (NodeAsks setting w h (Ok next)) → IsQuiet w next
ask_quiet setting w next h true n =
    node_quiet h n.after n.done w w next (record { events = refl; notes = refl; logs = same_logs w.olympus }) (sym n.result_is)
ask_quiet setting w next h false same = quiet_same w next same

-- a bundle
bundle_quiet : (w next : World) (a : ℕ) (to packets : List ℕ) (missing : Option ℕ)
    → Ok next ≡ bundle_or_end w a to packets missing → IsQuiet w next
bundle_quiet w next a to packets (Some k) is = absurd (cc)
bundle_quiet w next a to packets None is = by (whole_record (first_frame w packets)) is
  where
    by : (reading : Result Record WireFault) → Ok next ≡ sends_bundle w a to packets reading → IsQuiet w next
    by (Err fault) is = quiet_same w next is
    by (Ok r) is = sent_quiet _ w next (sym is)

-- the Olympus that acted in a world with one note more
noted_olympus : (o : OlympusView) (done : Done) (kind : NoteKind) (w next : World) → after_olympus o done (with_note kind w) ≡ Ok next
    → (next.events ≡ w.events) × (next.notes ≡ w.notes ++ noted_in w.events kind ∷ []) × (next.olympus ≡ o)
noted_olympus o done kind w next is =
    let ok = after_olympus_ok o done (with_note kind w) next is in
    (ap (λ (x : World). x.events) ok, ap (λ (x : World). x.notes) ok, ap (λ (x : World). x.olympus) ok)

-- the end of an epoch
wedge_notes : {S : Type 0} (setting : Setting S) (w next : World) → OlympusWedges setting w (Ok next)
    → NotesBefore setting w Wedge next
wedge_notes {S} setting w next o =
    let now = noted_olympus o.after o.done (wedge_note w.olympus o.did) w next (sym o.result_is) in
    other_note setting w Wedge (wedge_note w.olympus o.did) next tt (other o.did) now.0 now.1
    (subst (SameLogs w.olympus) (sym now.2) (by w.olympus.wedged o.wedges))
  where
    other : (did : Bool) → IsOther (wedge_note w.olympus did)
    other true = record { decided = λ h len e. absurd (cc); retired = λ h e. absurd (cc) }
    other false = record { decided = λ h len e. absurd (cc); retired = λ h e. absurd (cc) }

    by : (ending : Bool) → WedgesWhere setting.scope w.olympus ending o.after o.did o.done → SameLogs w.olympus o.after
    by true is = subst (SameLogs w.olympus) (sym is.0) (same_logs w.olympus)
    by false is =
        subst (SameLogs w.olympus) (sym is.0) (record { base = refl; decided = refl; decided_now = refl; retired = refl })

-- the length that is decided
decided_length : {S : Type 0} (setting : Setting S) (o : OlympusView) (h len : ℕ) → open_decision setting.scope o h ≡ decide.Decided len
    → o.base h + length (supports setting.scope o h) ≡ len
decided_length {S} setting o h len is =
    by (nat_le (quorum_at setting.scope o.epoch h) (frozen_at o h (first_bare setting.scope o h))) is
  where
    first : ℕ
    first = first_bare setting.scope o h

    by : (b : Bool)
        → (if b then decide.Decided first else decide.Undecided first (frozen_at o h first)) ≡ decide.Decided len → first ≡ len
    by true e = let same : first ≡ len = cc in same
    by false e = absurd (cc)

-- what a decision makes of the Olympus is told
decided_told : {S : Type 0} (setting : Setting S) (w : World) (h : ℕ) (answer : Decision) → answer ≡ decision setting.scope w.olympus h
    → IsToldBy w.notes w.olympus
    → IsToldBy (w.notes ++ noted_in w.events (tell.Decide h answer) ∷ []) (after_decision setting.scope w.olympus h answer)
decided_told setting w h (decide.Decided len) told t =
    let o = w.olympus in
    let more = supports setting.scope o h in
    let pending = decided_pending setting.scope o h len (sym told) in
    let long = decided_length setting o h len pending.1 in
    let still = t.still h pending.0.open_still in
    let sum : length (o.decided h) + length more ≡ len = omega (arith, still, long) in
    told_decided w.notes w.events h len more o (after_decision setting.scope o h (decide.Decided len)) refl refl refl refl sum
    (length-append (o.decided h) more ∙ sum) t
decided_told setting w h (decide.Undecided supported frozen) told t =
    told_other w.notes w.events _ w.olympus (record { decided = λ x len e. absurd (cc); retired = λ x e. absurd (cc) }) t
decided_told setting w h decide.NotWedged told t =
    told_other w.notes w.events _ w.olympus (record { decided = λ x len e. absurd (cc); retired = λ x e. absurd (cc) }) t
decided_told setting w h decide.Settled told t =
    told_other w.notes w.events _ w.olympus (record { decided = λ x len e. absurd (cc); retired = λ x e. absurd (cc) }) t

-- a decision
decide_notes : {S : Type 0} (setting : Setting S) (w next : World) (h : ℕ) → OlympusDecides setting w h (Ok next)
    → NotesBefore setting w (Decide h) next
decide_notes setting w next h o =
    let was = record w { olympus = o.after } in
    let mid = with_decided h 0 (o.after.decided h) was in
    let frame = decided_frame h 0 (o.after.decided h) was in
    let is = o.result_is in
    let same : next ≡ with_note (tell.Decide h o.answer) mid = cc in
    one_note setting w (Decide h) (tell.Decide h o.answer) next tt
    (ap (λ (x : World). x.events) same ∙ ap (λ (x : World). x.events) frame)
    (ap (λ (x : World). x.notes) same ∙ ap (λ (x : World). x.notes ++ noted_in x.events (tell.Decide h o.answer) ∷ []) frame)
    (λ t.
    subst (IsToldBy (w.notes ++ noted_in w.events (tell.Decide h o.answer) ∷ []))
    (sym (ap (λ (x : World). x.olympus) same ∙ ap (λ (x : World). x.olympus) frame ∙ o.decides.after_is))
    (decided_told setting w h o.answer o.decides.told t))

-- what it makes of the Olympus that a host is given up is told
retired_told : (w : World) (h : ℕ) (answer : Retired) → IsToldBy w.notes w.olympus
    → IsToldBy (w.notes ++ noted_in w.events (tell.Retire h answer) ∷ []) (after_retirement w.olympus h answer)
retired_told w h retire.Done t =
    told_retired w.notes w.events h w.olympus (after_retirement w.olympus h retire.Done) refl refl refl refl t
retired_told w h retire.NotWedged t =
    told_other w.notes w.events _ w.olympus (record { decided = λ x len e. absurd (cc); retired = λ x e. absurd (cc) }) t
retired_told w h retire.Settled t =
    told_other w.notes w.events _ w.olympus (record { decided = λ x len e. absurd (cc); retired = λ x e. absurd (cc) }) t

-- a host is given up, or not
retire_notes : {S : Type 0} (setting : Setting S) (w next : World) (h : ℕ) → OlympusRetires w h (Ok next)
    → NotesBefore setting w (Retire h) next
retire_notes setting w next h o =
    let is = o.result_is in
    let same : next ≡ with_note (tell.Retire h o.answer) (record w { olympus = o.after }) = cc in
    one_note setting w (Retire h) (tell.Retire h o.answer) next tt (ap (λ (x : World). x.events) same)
    (ap (λ (x : World). x.notes) same)
    (λ t.
    subst (IsToldBy (w.notes ++ noted_in w.events (tell.Retire h o.answer) ∷ []))
    (sym (ap (λ (x : World). x.olympus) same ∙ o.retires.after_is)) (retired_told w h o.answer t))

-- an opening
open_notes : {S : Type 0} (setting : Setting S) (w next : World) → OlympusOpens setting w (Ok next) → NotesBefore setting w Open next
open_notes {S} setting w next o =
    let now = noted_olympus o.after o.done (tell.Open o.answer) w next (sym o.result_is) in
    one_note setting w Open (tell.Open o.answer) next tt now.0 now.1
    (λ t.
    subst (IsToldBy (w.notes ++ noted_in w.events (tell.Open o.answer) ∷ [])) (sym now.2)
    (by o.answer o.opens.with_it
    (told_other w.notes w.events (tell.Open o.answer) w.olympus
    (record { decided = λ h len e. absurd (cc); retired = λ h e. absurd (cc) }) t)))
  where
    Claim : OlympusView → Type 0
    Claim x = IsToldBy (w.notes ++ noted_in w.events (tell.Open o.answer) ∷ []) x

    by : (answer : Opened) → OpensWith setting.scope w.olympus answer o.after o.done → Claim w.olympus → Claim o.after
    by (opens.Done epoch) is t = subst Claim (sym is.0) (told_next _ w.olympus t)
    by opens.NotWedged is t = subst Claim (sym is.0) t
    by opens.NoNext is t = subst Claim (sym is.0) t
    by (opens.NotAll h) is t = subst Claim (sym is.0) t

-- each kind of event
does_notes : {S : Type 0} (setting : Setting S) (w next : World) (event : Plain) → Does setting w event (Ok next)
    → NotesBefore setting w event next
does_notes setting w next (Input h payload) d = input_notes setting w next h payload (is_honest setting h) refl d
does_notes setting w next (Deliver k) d = quiet_notes setting w (Deliver k) next tt (delivers_quiet setting w next k d)
does_notes setting w next Flush d = quiet_notes setting w Flush next tt (delivers_all_quiet setting w next (undelivered w) d)
does_notes setting w next Exchange d =
    quiet_notes setting w Exchange next tt (delivers_all_quiet setting w next (honest_packets setting w) d)
does_notes setting w next (Ask h) d = quiet_notes setting w (Ask h) next tt (ask_quiet setting w next h (is_honest setting h) d)
does_notes setting w next (Bytes to frame) d =
    let quiet = given_quiet setting (with_injected to frame w) next to None frame d in
    quiet_notes setting w (Bytes to frame) next tt (record { events = quiet.events; notes = quiet.notes; logs = quiet.logs })
does_notes setting w next (Say a to statement) d = quiet_notes setting w (Say a to statement) next tt (sent_quiet _ w next (sym d))
does_notes setting w next (Bundle a to packets) d =
    quiet_notes setting w (Bundle a to packets) next tt
    (bundle_quiet w next a to packets (find (λ k. not (nat_lt k (length w.pool))) packets) d)
does_notes setting w next (Steal a to statement) d =
    quiet_notes setting w (Steal a to statement) next tt (sent_quiet _ w next (sym d))
does_notes setting w next Wedge d = wedge_notes setting w next d
does_notes setting w next (Decide h) d = decide_notes setting w next h d
does_notes setting w next (Retire h) d = retire_notes setting w next h d
does_notes setting w next Open d = open_notes setting w next d

-- an event is counted, and leaves its notes
pub record IsNotedEvent {S : Type 0} (setting : Setting S) (w : World) (event : Plain) (next : World) : Type 0 where
  pub count : next.events ≡ w.events + 1
  pub noted : Notes setting w event next

-- each event
pub happens_notes : {S : Type 0} (setting : Setting S) (w next : World) (event : Plain) → Happens setting w event (Ok next)
    → IsNotedEvent setting w event next
happens_notes {S} setting w next event happens = by happens.mid happens.does happens.result_is
  where
    by : (mid : Result World End) → Does setting w event mid → Ok next ≡ counted mid → IsNotedEvent setting w event next
    by (Err end) does is = absurd (cc)
    by (Ok after) does is =
        let before = does_notes setting w after event does in
        let same : next ≡ record after { events = after.events + 1 } = cc in
        subst (IsNotedEvent setting w event) (sym same) (record {
          count = ap (λ n. n + 1) before.events;
          noted = record {
            kinds = before.noted.kinds;
            notes = before.noted.notes;
            full = before.noted.full;
            told = before.noted.told;
          };
        })

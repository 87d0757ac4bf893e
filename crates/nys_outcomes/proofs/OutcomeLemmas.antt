-- Each call of a node and of the Olympus makes something of it, and each event of its world.
use Rattle.std.proofs.Common.{ℕ, Bool, true, false, ◌==◌, nat_lt, ℤ, List, [], ◌∷◌, length, Ok, Err, Some, None, refl}
use Rattle.std.specs.Prelude.{Option, Result, slice_get}
use Rattle.nys_rules.specs.Asking.{questions}
use Rattle.nys_rules.specs.Dropping.{accepted, verdict}
use Rattle.nys_rules.specs.Events.{Plain}
use Rattle.nys_rules.specs.Events.Plain.{Input, Deliver, Flush, Exchange, Ask, Bytes, Say, Bundle, Steal, Wedge, Decide, Retire, Open}
use Rattle.nys_rules.specs.Forged.{makers_told}
use Rattle.nys_rules.specs.Handling.{acts_by, AnswersTo, done_by, dropped_by, Goes, Handles, HandlesReading, noted_by, TakesWhere, with_input}
use Rattle.nys_rules.specs.Happening.{counted, Delivers, DeliversAll, Does, GivesPacket, HappenAll, Happens, honest_packets, IfHonest, IsGiven, TakenBy, Then, undelivered, with_full_note, with_injected, with_take}
use Rattle.nys_rules.specs.Noting.{noted}
use Rattle.nys_rules.specs.Olympus.{after_decision, after_retirement, decision, HearsOf, HearsReading, in_next_epoch, olympus_verdict, OlympusView, opening, opening_acts, OpensWith, proclaimed, hosts_of, retirement, testified, WedgesWhere}
use Rattle.nys_rules.specs.Packets.{Acts, Done, joined, nothing, Sent}
use Rattle.nys_rules.specs.Scope.{olympus, Scope}
use Rattle.nys_rules.specs.View.{View}
use Rattle.nys_rules.specs.World.{after_node, after_olympus, is_honest, Setting, World}
use Rattle.nys_rules.specs.declared.cause.DropCause.{DropCause}
use Rattle.nys_rules.specs.declared.cause.DropCause.TheVariants.{Malformed, QueueFull}
use Rattle.nys_rules.specs.declared.decision.Opened.{Opened}
use Rattle.nys_rules.specs.declared.decision.Opened.TheVariants as opens
use Rattle.nys_rules.specs.declared.notice.End.{End}
use Rattle.nys_rules.specs.declared.notice.End.TheVariants.{NoPacket}
use Rattle.nys_stmt.specs.declared.records.Record.{Record}
use Rattle.nys_stmt.specs.declared.statement.Body.TheVariants as body
use Rattle.nys_wire.specs.Reading.{whole_record}
use Rattle.nys_wire.specs.declared.fault.WireFault.{WireFault}
use Rattle.nys_wire.specs.declared.fault.WireFault.TheVariants as wire
use Rattle.nys_outcomes.specs.Outcomes.{HappenAlways, HasFewEffects}
use Rattle.nys_outcomes.proofs.ForgedLemmas.{unless_forged}
use Rattle.nys_outcomes.proofs.ReadLemmas.{HasCome, IsRecordRead, whole_comes}
use Rattle.nys_outcomes.proofs.SettleLemmas.{settle_always}

-- a relation holds of some view, or of what the Olympus knows, and what was told
abbrev Comes : {A B : Type 0} → (A → B → Type 0) → Type 0
Comes {A} {B} Rel = (x : A) × (y : B) × Rel x y

-- a relation holds of some result
abbrev Leads : (Result World End → Type 0) → Type 0
Leads Rel = (result : Result World End) × Rel result

-- ---- a node

-- a record, by the cause for which it is dropped
answers : {S : Type 0} (scope : Scope S) → HasFewEffects scope.rules → (v : View) (r : Record) (cause : Option DropCause)
    → Comes (AnswersTo scope v r cause)
answers scope few v r (Some cause) = (v, dropped_by cause, (refl, refl))
answers scope few v r None =
    let settled = settle_always scope few (noted scope v r) in (
      settled.after,
      noted_by (joined (acts_by scope v r) settled.acts) r (accepted scope r.statement.epoch v.me r),
      record { rest = settled.acts; settles = settled.settles; told = refl },
    )

-- bytes, by what they read as
handles_reading : {S : Type 0} (scope : Scope S) → HasFewEffects scope.rules → (v : View) (reading : Result Record WireFault) → HasCome IsRecordRead reading
    → Comes (HandlesReading scope v reading)
handles_reading scope few v (Ok r) has = answers scope few v r (verdict scope v r)
handles_reading scope few v (Err (wire.At place kind)) has = (v, dropped_by (Malformed place kind), (refl, refl))
handles_reading scope few v (Err wire.NoMemory) has = absurd has

-- bytes that a node is given
handles : {S : Type 0} (scope : Scope S) → HasFewEffects scope.rules → (v : View) (frame : List ℕ) → Comes (Handles scope v frame)
handles scope few v frame = handles_reading scope few v (whole_record frame) (whole_comes frame)

-- a node that settles after what it did at once
goes : {S : Type 0} (scope : Scope S) → HasFewEffects scope.rules → (v : View) (first : Acts) → Comes (Goes scope v first)
goes scope few v first =
    let settled = settle_always scope few v in (
      settled.after,
      done_by (joined first settled.acts),
      record { rest = settled.acts; settles = settled.settles; told = refl },
    )

-- an input that finds room or doesn't
takes_where : {S : Type 0} (scope : Scope S) → HasFewEffects scope.rules → (v : View) (payload : List ℤ) (room : Bool)
    → Comes (TakesWhere scope v payload room)
takes_where scope few v payload true = goes scope few (with_input payload v) nothing
takes_where scope few v payload false = (v, dropped_by QueueFull, (refl, refl))

-- ---- the Olympus

-- a record, by the cause for which it is dropped
hears_of : {S : Type 0} (scope : Scope S) (o : OlympusView) (r : Record) (cause : Option DropCause) → Comes (HearsOf scope o r cause)
hears_of scope o r (Some cause) = (o, dropped_by cause, (refl, refl))
hears_of scope o r None =
    (testified scope o r, noted_by nothing r (accepted scope r.statement.epoch olympus r), (refl, refl))

-- bytes, by what they read as
hears_reading : {S : Type 0} (scope : Scope S) (o : OlympusView) (reading : Result Record WireFault) → HasCome IsRecordRead reading
    → Comes (HearsReading scope o reading)
hears_reading scope o (Ok r) has = hears_of scope o r (olympus_verdict scope o r)
hears_reading scope o (Err (wire.At place kind)) has = (o, dropped_by (Malformed place kind), (refl, refl))
hears_reading scope o (Err wire.NoMemory) has = absurd has

-- the Olympus that begins to end its epoch, or does already
wedges_where : {S : Type 0} (scope : Scope S) (o : OlympusView) (ending : Bool)
    → (after : OlympusView) × (did : Bool) × (done : Done) × WedgesWhere scope o ending after did done
wedges_where scope o true = (o, false, done_by nothing, (refl, refl, refl))
wedges_where scope o false =
    (record o { wedged = true }, true, done_by (proclaimed scope o.epoch body.Wedge (hosts_of scope)), (refl, refl, refl))

-- the Olympus that opens an epoch, by its answer
opens_with : {S : Type 0} (scope : Scope S) (o : OlympusView) (answer : Opened) → Comes (OpensWith scope o answer)
opens_with scope o (opens.Done epoch) = (in_next_epoch o, done_by (opening_acts scope o epoch), (refl, refl))
opens_with scope o opens.NotWedged = (o, done_by nothing, (refl, refl))
opens_with scope o opens.NoNext = (o, done_by nothing, (refl, refl))
opens_with scope o (opens.NotAll h) = (o, done_by nothing, (refl, refl))

-- ---- worlds

-- who takes bytes
taken_by : {S : Type 0} (setting : Setting S) → HasFewEffects setting.scope.rules → (w : World) (honest at_olympus : Bool) (to : ℕ) (k : Option ℕ)
    (frame : List ℕ) → Leads (TakenBy setting w honest at_olympus to k frame)
taken_by setting few w false at_olympus to k frame = (Ok w, refl)
taken_by setting few w true true to k frame =
    let heard = hears_reading setting.scope w.olympus (whole_record frame) (whole_comes frame) in
    let next = after_olympus heard.0 heard.1 (with_take olympus k heard.1.dropped w) in
    let ends = unless_forged setting w olympus heard.1.statement (makers_told heard.1) next in
    (ends.0, record { after = heard.0; done = heard.1; hears = heard.2; ends = ends.1 })
taken_by setting few w true false to k frame =
    let handled = handles setting.scope few (w.nodes to) frame in
    let next = after_node to handled.0 handled.1 (with_take to k handled.1.dropped w) in
    let ends = unless_forged setting w to handled.1.statement (makers_told handled.1) next in
    (ends.0, record { after = handled.0; done = handled.1; handles = handled.2; ends = ends.1 })

-- bytes that are given to a party
given : {S : Type 0} (setting : Setting S) → HasFewEffects setting.scope.rules → (w : World) (to : ℕ) (k : Option ℕ) (frame : List ℕ)
    → Leads (IsGiven setting w to k frame)
given setting few w to k frame = taken_by setting few w (is_honest setting to) (to == olympus) to k frame

-- a packet, where there is one
gives : {S : Type 0} (setting : Setting S) → HasFewEffects setting.scope.rules → (w : World) (k : ℕ) (p : Option Sent)
    → Leads (GivesPacket setting w k p)
gives setting few w k None = (Err (NoPacket w.events k (length w.pool)), refl)
gives setting few w k (Some p) = given setting few _ p.to (Some k) p.frame

-- a packet that is named
delivers : {S : Type 0} (setting : Setting S) → HasFewEffects setting.scope.rules → (w : World) (k : ℕ) → Leads (Delivers setting w k)
delivers setting few w k = gives setting few w k (slice_get w.pool k)

-- what follows a world, or an end
follows : (mid : Result World End) (Rest : World → Result World End → Type 0) → ((next : World) → Leads (Rest next))
    → Leads (λ result. Then mid result (λ next. Rest next result))
follows (Ok next) Rest rest = rest next
follows (Err end) Rest rest = (Err end, refl)

-- packets, one after another
delivers_all : {S : Type 0} (setting : Setting S) → HasFewEffects setting.scope.rules → (w : World) (ks : List ℕ)
    → Leads (DeliversAll setting w ks)
delivers_all setting few w [] = (Ok w, refl)
delivers_all setting few w (k ∷ ks) =
    let first = delivers setting few w k in
    let rest = follows first.0 (λ next result. DeliversAll setting next ks result) (λ next. delivers_all setting few next ks) in
    (rest.0, (first.0, first.1, rest.1))

-- what happens to an honest host, or nothing
if_honest : (honest : Bool) (w : World) (Happens : Result World End → Type 0) → Leads Happens
    → Leads (λ result. IfHonest honest w result (Happens result))
if_honest true w Happens happens = happens
if_honest false w Happens happens = (Ok w, refl)

-- each kind of event
does : {S : Type 0} (setting : Setting S) → HasFewEffects setting.scope.rules → (w : World) (event : Plain) → Leads (Does setting w event)
does setting few w (Input h payload) =
    let took = takes_where setting.scope few (w.nodes h) payload (nat_lt (length (w.nodes h).waiting) 1024) in
    if_honest (is_honest setting h) w _
    (after_node h took.0 took.1 (with_full_note h took.1.dropped w), record { after = took.0; done = took.1; takes = took.2; result_is = refl })
does setting few w (Deliver k) = delivers setting few w k
does setting few w Flush = delivers_all setting few w (undelivered w)
does setting few w Exchange = delivers_all setting few w (honest_packets setting w)
does setting few w (Ask h) =
    let asked = goes setting.scope few (w.nodes h) (questions setting.scope (w.nodes h)) in
    if_honest (is_honest setting h) w _
    (after_node h asked.0 asked.1 w, record { after = asked.0; done = asked.1; asks = asked.2; result_is = refl })
does setting few w (Bytes to frame) = given setting few (with_injected to frame w) to None frame
does setting few w (Say a to statement) = (_, refl)
does setting few w (Bundle a to packets) = (_, refl)
does setting few w (Steal a to statement) = (_, refl)
does setting few w Wedge =
    let did = wedges_where setting.scope w.olympus w.olympus.wedged in
    (_, record { after = did.0; did = did.1; done = did.2; wedges = did.3; result_is = refl })
does setting few w (Decide h) =
    let answer = decision setting.scope w.olympus h in
    (_, record { after = after_decision setting.scope w.olympus h answer; answer = answer; decides = record { told = refl; after_is = refl }; result_is = refl })
does setting few w (Retire h) =
    let answer = retirement w.olympus h in
    (_, record { after = after_retirement w.olympus h answer; answer = answer; retires = record { told = refl; after_is = refl }; result_is = refl })
does setting few w Open =
    let answer = opening setting.scope w.olympus in
    let opened = opens_with setting.scope w.olympus answer in
    (_, record { after = opened.0; answer = answer; done = opened.1; opens = record { told = refl; with_it = opened.2 }; result_is = refl })

-- an event that is counted
happens : {S : Type 0} (setting : Setting S) → HasFewEffects setting.scope.rules → (w : World) (event : Plain) → Leads (Happens setting w event)
happens setting few w event =
    let did = does setting few w event in (counted did.0, record { mid = did.0; does = did.1; result_is = refl })

-- events, one after another
all_happen : {S : Type 0} (setting : Setting S) → HasFewEffects setting.scope.rules → (w : World) (events : List Plain)
    → Leads (HappenAll setting w events)
all_happen setting few w [] = (Ok w, refl)
all_happen setting few w (event ∷ events) =
    let first = happens setting few w event in
    let rest = follows first.0 (λ next result. HappenAll setting next events result) (λ next. all_happen setting few next events) in
    (rest.0, (first.0, first.1, rest.1))

-- each list of events has an outcome
pub happen_always : {S : Type 0} (setting : Setting S) → HasFewEffects setting.scope.rules → HappenAlways setting
happen_always setting few w events =
    let all = all_happen setting few w events in record { outcome = all.0; happen = all.1 }

-- A fact of whole worlds that each elementary step keeps holds in each world that events make, where of each
-- record that is noted it is known which packet or bytes it was read from, and that a take tells so.
use Rattle.std.proofs.Common.{◌≡◌, ◌≢◌, ℕ, ◌==◌, Bool, true, false, ℤ, List, [], ◌∷◌, ◌++◌, Some, None, Ok, Err, refl, ap, sym, subst, append-nil, arith}
use Rattle.std.specs.Prelude.{All, Contains, Option, Result, find, length, map, nat_lt, not, slice_get}
use Rattle.std.proofs.lemmas.Bool.Decides.{Decides-eqb}
use Rattle.std.proofs.lemmas.List.Elements.{All-cons, All-head, All-nil, All-tail, Contains-append_left, Contains-append_right}
use Rattle.nys_agreement.proofs.TableLemmas.{put_here}
use Rattle.nys_rules.specs.declared.cause.DropCause.{DropCause}
use Rattle.nys_rules.specs.declared.decision.Decision.{Decision}
use Rattle.nys_rules.specs.declared.decision.Opened.{Opened}
use Rattle.nys_rules.specs.declared.decision.Opened.TheVariants as opens
use Rattle.nys_rules.specs.declared.decision.Retired.{Retired}
use Rattle.nys_rules.specs.declared.decision.Retired.TheVariants as retire
use Rattle.nys_rules.specs.declared.notice.End.{End}
use Rattle.nys_rules.specs.declared.notice.Note.{Note}
use Rattle.nys_rules.specs.declared.notice.NoteKind.TheVariants as tell
use Rattle.nys_rules.specs.declared.notice.Take.{Take}
use Rattle.nys_rules.specs.declared.rule.Rule.{Rule}
use Rattle.nys_rules.specs.Asking.{questions}
use Rattle.nys_rules.specs.Dropping.{verdict}
use Rattle.nys_rules.specs.Events.{Plain}
use Rattle.nys_rules.specs.Events.Plain.{Input, Deliver, Flush, Exchange, Ask, Bytes, Say, Bundle, Steal, Wedge, Decide, Retire, Open}
use Rattle.nys_rules.specs.Evidence.{IsFrameOf}
use Rattle.nys_rules.specs.Forged.{makers_told}
use Rattle.nys_rules.specs.Handling.{acts_by, AnswersTo, done_by, Goes, Handles, HandlesReading, TakesWhere, with_input}
use Rattle.nys_rules.specs.Happening.{bundle_of, bundle_or_end, counted, Delivers, Does, GivesPacket, HappenAll, Happens, honest_packets, IfHonest, IsGiven, NodeAsks, NodeIsHanded, OlympusDecides, OlympusOpens, OlympusRetires, OlympusWedges, sends_bundle, first_frame, TakenBy, Then, undelivered, wedge_note, with_full_note, with_injected, with_take}
use Rattle.nys_rules.specs.Noting.{noted}
use Rattle.nys_rules.specs.Olympus.{after_retirement, Decides, Hears, HearsOf, HearsReading, hosts_of, in_next_epoch, olympus_verdict, OlympusView, opening, opening_acts, OpensWith, proclaimed, retirement, testified, WedgesWhere}
use Rattle.nys_rules.specs.Packets.{Acts, Done, Given, joined, nothing, Sent}
use Rattle.nys_rules.specs.Rules.{due}
use Rattle.nys_rules.specs.Scope.{olympus}
use Rattle.nys_rules.specs.Sending.{packet}
use Rattle.nys_rules.specs.Settling.{Settles, SettlesInto}
use Rattle.nys_rules.specs.Taking.{acts_of, taken}
use Rattle.nys_rules.specs.View.{View}
use Rattle.nys_rules.specs.World.{after_node, after_olympus, fresh_world, is_honest, Setting, with_decided, with_note, with_packets, World}
use Rattle.nys_rules.proofs.CertificateLemmas.{not_equal}
use Rattle.nys_rules.proofs.WorldFrames.{after_olympus_ok, decided_frame, delivers_all_keep, packets_ok, TrueWhere, unless_forged_ok}
use Rattle.nys_source.specs.Tables.{put}
use Rattle.nys_stmt.specs.declared.records.Record.{Record}
use Rattle.nys_stmt.specs.declared.statement.Body.TheVariants as body
use Rattle.nys_wire.specs.Reading.{whole_record}
use Rattle.nys_wire.specs.declared.fault.WireFault.{WireFault}
use Rattle.nys_wire.specs.declared.fault.WireFault.TheVariants.{At, NoMemory}
use Rattle.nys_laws.specs.Worlds.{InEachWorld}
use Rattle.nys_laws.proofs.EventKeeping.{ActsAs, Brings, IsAccepted, with_log, with_olympus}
use Rattle.nys_laws.proofs.GrownLemmas.{acted_is, HasSlots, no_slots, no_step, noted_slots, questions_slots, settles_stay, taken_slots, two_steps, with_step}

-- what the first list contains the second contains too
abbrev pub StayIn : {A : Type 0} → List A → List A → Type 0
StayIn {A} old new = (x : A) → Contains old x → Contains new x

-- the record was read from bytes that the party was given and that it didn't drop, and a take tells so
pub record IsTaken (w : World) (g : ℕ) (r : Record) : Type 0 where
  pub take : Take
  pub told : Contains w.takes take
  pub taker : take.to ≡ g
  pub kept : take.dropped ≡ None
  pub frame : List ℕ
  pub frame_is : IsFrameOf w take take.packet frame
  pub reads : whole_record frame ≡ Ok r

-- each elementary step keeps a fact of worlds, where only these events give bytes and bring packets
pub record TakesKeepBy {S : Type 0} (setting : Setting S) (May : Plain → Type 0) (Fact : World → Type 0) : Type 0 where
  -- a rule that is due at a node
  pub rules : (w : World) (g : ℕ) (v : View) (rule : Rule) → ActsAs setting w g v
      → due setting.scope v ≡ Some rule → Fact w
      → Fact (with_step g (taken setting.scope v rule) (acts_of setting.scope v rule) w)
  -- a record that a node doesn't drop
  pub records : (w : World) (g : ℕ) (v : View) (r : Record) → ActsAs setting w g v → g ≢ olympus
      → verdict setting.scope v r ≡ None → IsAccepted setting w v.me r → IsTaken w g r → Fact w
      → Fact (with_step g (noted setting.scope v r) (acts_by setting.scope v r) w)
  -- an input that finds room
  pub inputs : (w : World) (g : ℕ) (v : View) (payload : List ℤ) → ActsAs setting w g v
      → nat_lt (length v.waiting) 1024 ≡ true → Fact w
      → Fact (with_step g (with_input payload v) nothing w)
  -- questions
  pub asking : (w : World) (g : ℕ) (v : View) → ActsAs setting w g v → Fact w
      → Fact (with_step g v (questions setting.scope v) w)
  -- a record that the Olympus doesn't drop
  pub hears : (w : World) (r : Record) → olympus_verdict setting.scope w.olympus r ≡ None
      → IsAccepted setting w olympus r → IsTaken w olympus r → Fact w
      → Fact (record w { olympus = testified setting.scope w.olympus r })
  -- the Olympus that begins to end its epoch
  pub wedges : (w : World) → w.olympus.wedged ≡ false → Fact w
      → Fact (with_olympus (record w.olympus { wedged = true })
      (proclaimed setting.scope w.olympus.epoch body.Wedge (hosts_of setting.scope)) w)
  -- the Olympus that is told to decide, whatever it answers
  pub decides : (w : World) (h : ℕ) (after : OlympusView) (answer : Decision)
      → Decides setting.scope w.olympus h after answer → Fact w → Fact (with_log after h w)
  -- the Olympus that gives a host up
  pub retires : (w : World) (h : ℕ) → retirement w.olympus h ≡ retire.Done → Fact w
      → Fact (record w { olympus = record w.olympus { retired = put w.olympus.retired h true } })
  -- the Olympus that opens the next epoch
  pub epochs : (w : World) (epoch : ℕ) → opening setting.scope w.olympus ≡ opens.Done epoch → Fact w
      → Fact (with_olympus (in_next_epoch w.olympus) (opening_acts setting.scope w.olympus epoch) w)
  -- packets that come from elsewhere
  pub packets : (w : World) (event : Plain) (packets : List Sent) → May event → Brings setting w event packets → Fact w
      → Fact (record w { pool = w.pool ++ packets })
  -- bytes that an event gives to a party
  pub given : (w : World) (to : ℕ) (frame : List ℕ) → May (Bytes to frame) → Fact w → Fact (with_injected to frame w)
  -- what is told of the events themselves: takings that were told stay
  pub told : (w : World) (events : ℕ) (delivered : ℕ → Bool) (takes : List Take) (notes : List Note)
      → StayIn w.takes takes → Fact w
      → Fact (record w { events = events; delivered = delivered; takes = takes; notes = notes })

-- the same where any event may: what is told of events are bytes too, and those that were told stay
pub record TakesKeep {S : Type 0} (setting : Setting S) (Fact : World → Type 0) : Type 0 where
  -- a rule that is due at a node
  pub rules : (w : World) (g : ℕ) (v : View) (rule : Rule) → ActsAs setting w g v
      → due setting.scope v ≡ Some rule → Fact w
      → Fact (with_step g (taken setting.scope v rule) (acts_of setting.scope v rule) w)
  -- a record that a node doesn't drop
  pub records : (w : World) (g : ℕ) (v : View) (r : Record) → ActsAs setting w g v → g ≢ olympus
      → verdict setting.scope v r ≡ None → IsAccepted setting w v.me r → IsTaken w g r → Fact w
      → Fact (with_step g (noted setting.scope v r) (acts_by setting.scope v r) w)
  -- an input that finds room
  pub inputs : (w : World) (g : ℕ) (v : View) (payload : List ℤ) → ActsAs setting w g v
      → nat_lt (length v.waiting) 1024 ≡ true → Fact w
      → Fact (with_step g (with_input payload v) nothing w)
  -- questions
  pub asking : (w : World) (g : ℕ) (v : View) → ActsAs setting w g v → Fact w
      → Fact (with_step g v (questions setting.scope v) w)
  -- a record that the Olympus doesn't drop
  pub hears : (w : World) (r : Record) → olympus_verdict setting.scope w.olympus r ≡ None
      → IsAccepted setting w olympus r → IsTaken w olympus r → Fact w
      → Fact (record w { olympus = testified setting.scope w.olympus r })
  -- the Olympus that begins to end its epoch
  pub wedges : (w : World) → w.olympus.wedged ≡ false → Fact w
      → Fact (with_olympus (record w.olympus { wedged = true })
      (proclaimed setting.scope w.olympus.epoch body.Wedge (hosts_of setting.scope)) w)
  -- the Olympus that is told to decide, whatever it answers
  pub decides : (w : World) (h : ℕ) (after : OlympusView) (answer : Decision)
      → Decides setting.scope w.olympus h after answer → Fact w → Fact (with_log after h w)
  -- the Olympus that gives a host up
  pub retires : (w : World) (h : ℕ) → retirement w.olympus h ≡ retire.Done → Fact w
      → Fact (record w { olympus = record w.olympus { retired = put w.olympus.retired h true } })
  -- the Olympus that opens the next epoch
  pub epochs : (w : World) (epoch : ℕ) → opening setting.scope w.olympus ≡ opens.Done epoch → Fact w
      → Fact (with_olympus (in_next_epoch w.olympus) (opening_acts setting.scope w.olympus epoch) w)
  -- packets that come from elsewhere
  pub packets : (w : World) (event : Plain) (packets : List Sent) → Brings setting w event packets → Fact w
      → Fact (record w { pool = w.pool ++ packets })
  -- what is told of the events themselves: takings and bytes that were told stay
  pub told : (w : World) (events : ℕ) (delivered : ℕ → Bool) (injected : List Given) (takes : List Take)
      (notes : List Note) → StayIn w.injected injected → StayIn w.takes takes → Fact w
      → Fact (record w { events = events; delivered = delivered; injected = injected; takes = takes; notes = notes })

-- what all lists contain
stay : {A : Type 0} (xs : List A) → StayIn xs xs
stay xs x among = among

-- what one more joins stays
stay_with : {A : Type 0} (xs more : List A) → StayIn xs (xs ++ more)
stay_with xs more x among = Contains-append_left xs more x among

-- what is told of events by notes, numbers and deliveries
noted_fact : {S : Type 0} (setting : Setting S) (May : Plain → Type 0) (Fact : World → Type 0) → TakesKeepBy setting May Fact
    → (w : World) (notes : List Note) → Fact w → Fact (record w { notes = notes })
noted_fact setting May Fact keep w notes f =
    keep.told w w.events w.delivered w.takes notes (stay w.takes) f

-- settling is a step, and it keeps the fact
settles_fact : {S : Type 0} (setting : Setting S) (May : Plain → Type 0) (Fact : World → Type 0)
    → TakesKeepBy setting May Fact
    → (g : ℕ) (v : View) (rules : List Rule) (after : View) (acts : Acts) (w : World) → ActsAs setting w g v
    → Settles setting.scope v rules after acts → Fact w → Fact (with_step g after acts w)
settles_fact setting May Fact keep g v [] after acts w acts_as settles f =
    subst (λ a. Fact (with_step g after a w)) (sym settles.2)
    (subst (λ x. Fact (with_step g x nothing w)) (sym settles.1) (subst Fact (sym (no_step g v w acts_as.view)) f))
settles_fact setting May Fact keep g v (rule ∷ rules) after acts w acts_as settles f =
    let first = acts_of setting.scope v rule in
    let mid = taken setting.scope v rule in
    let rest = settles.1.0 in
    let later = settles_fact setting May Fact keep g mid rules after rest (with_step g mid first w)
    (record { honest = acts_as.honest; view = put_here w.nodes g mid }) settles.1.1 (keep.rules w g v rule acts_as settles.0 f) in
    subst (λ a. Fact (with_step g after a w)) (sym settles.1.2)
    (subst Fact (two_steps g mid after first rest w (settles_stay setting.scope mid rules after rest settles.1.1)
    (taken_slots setting.scope v rule)) later)

-- settling behind a step
settles_behind : {S : Type 0} (setting : Setting S) (May : Plain → Type 0) (Fact : World → Type 0)
    → TakesKeepBy setting May Fact
    → (g : ℕ) (mid : View) (first : Acts) (after : View) (rest : Acts) (w : World) → is_honest setting g ≡ true
    → HasSlots mid first.grew → SettlesInto setting.scope mid after rest → Fact (with_step g mid first w)
    → Fact (with_step g after (joined first rest) w)
settles_behind setting May Fact keep g mid first after rest w honest has s f =
    subst Fact (two_steps g mid after first rest w (settles_stay setting.scope mid s.rules after rest s.settles) has)
    (settles_fact setting May Fact keep g mid s.rules after rest (with_step g mid first w)
    (record { honest = honest; view = put_here w.nodes g mid }) s.settles f)

-- bytes that a node is given
handles_fact : {S : Type 0} (setting : Setting S) (May : Plain → Type 0) (Fact : World → Type 0)
    → TakesKeepBy setting May Fact
    → (g : ℕ) (v : View) (frame : List ℕ) (after : View) (done : Done) (w : World) → ActsAs setting w g v → g ≢ olympus
    → ((r : Record) → done.dropped ≡ None → whole_record frame ≡ Ok r → IsTaken w g r)
    → Handles setting.scope v frame after done → TrueWhere setting w done.statement (makers_told done)
    → Fact w → Fact (with_step g after done.acts w)
handles_fact {S} setting May Fact keep g v frame after done w acts_as host takes handles true_all f =
    by_reading (whole_record frame) refl handles
  where
    Claim : View → Done → Type 0
    Claim x d = Fact (with_step g x d.acts w)

    unchanged : (d : Done) → d.acts ≡ nothing → after ≡ v → done ≡ d → Claim after done
    unchanged d none same is =
        subst (Claim after) (sym is) (subst (λ (a : Acts). Fact (with_step g after a w)) (sym none)
        (subst (λ x. Fact (with_step g x nothing w)) (sym same) (subst Fact (sym (no_step g v w acts_as.view)) f)))

    by_verdict : (r : Record) (cause : Option DropCause) → whole_record frame ≡ Ok r
        → verdict setting.scope v r ≡ cause → AnswersTo setting.scope v r cause after done → Claim after done
    by_verdict r (Some cause) read is answers = unchanged _ refl answers.0 answers.1
    by_verdict r None read is answers =
        let true_makers = subst (λ (d : Done). TrueWhere setting w d.statement (makers_told d)) answers.told true_all in
        let told = takes r (ap (λ (d : Done). d.dropped) answers.told) read in
        let noted_one =
        keep.records w g v r acts_as host is (record { frame = frame; read = read; made = true_makers }) told f in
        subst (Claim after) (sym answers.told)
        (settles_behind setting May Fact keep g (noted setting.scope v r) (acts_by setting.scope v r) after answers.rest w
        acts_as.honest (noted_slots setting.scope v r) answers.settles noted_one)

    by_reading : (reading : Result Record WireFault) → whole_record frame ≡ reading
        → HandlesReading setting.scope v reading after done → Claim after done
    by_reading (Ok r) read answers = by_verdict r (verdict setting.scope v r) read refl answers
    by_reading (Err (At place fault)) read answers = unchanged _ refl answers.0 answers.1
    by_reading (Err NoMemory) read answers = absurd answers

-- a node that settles after what it did
goes_fact : {S : Type 0} (setting : Setting S) (May : Plain → Type 0) (Fact : World → Type 0)
    → TakesKeepBy setting May Fact
    → (g : ℕ) (v : View) (first : Acts) (after : View) (done : Done) (w : World) → is_honest setting g ≡ true
    → HasSlots v first.grew → Goes setting.scope v first after done → Fact (with_step g v first w)
    → Fact (with_step g after done.acts w)
goes_fact setting May Fact keep g v first after done w honest has goes f =
    subst (λ (d : Done). Fact (with_step g after d.acts w)) (sym goes.told)
    (settles_behind setting May Fact keep g v first after goes.rest w honest has goes.settles f)

-- a node that acted
node_fact : (Fact : World → Type 0) (g : ℕ) (v : View) (done : Done) (w next : World) → after_node g v done w ≡ Ok next
    → Fact (with_step g v done.acts w) → Fact next
node_fact Fact g v done w next is f = subst Fact (sym (acted_is g v done w next is)) f

-- the Olympus that acted
olympus_fact : (Fact : World → Type 0) (o : OlympusView) (done : Done) (w next : World) → after_olympus o done w ≡ Ok next
    → Fact (with_olympus o done.acts w) → Fact next
olympus_fact Fact o done w next is f = subst Fact (sym (after_olympus_ok o done w next is)) f

-- the Olympus that does nothing
idle_fact : (Fact : World → Type 0) (o : OlympusView) (acts : Acts) (w : World) → o ≡ w.olympus → acts ≡ nothing
    → Fact w → Fact (with_olympus o acts w)
idle_fact Fact o acts w same none f =
    subst (λ (a : Acts). Fact (with_olympus o a w)) (sym none) (subst (λ x. Fact (with_olympus x nothing w)) (sym same)
    (subst (λ l. Fact (record w { ledger = l; pool = w.pool ++ [] })) (sym (append-nil w.ledger))
    (subst (λ p. Fact (record w { pool = p })) (sym (append-nil w.pool)) f)))

-- bytes that the Olympus is given
hears_fact : {S : Type 0} (setting : Setting S) (May : Plain → Type 0) (Fact : World → Type 0)
    → TakesKeepBy setting May Fact
    → (frame : List ℕ) (after : OlympusView) (done : Done) (w : World)
    → ((r : Record) → done.dropped ≡ None → whole_record frame ≡ Ok r → IsTaken w olympus r)
    → Hears setting.scope w.olympus frame after done
    → TrueWhere setting w done.statement (makers_told done) → Fact w → Fact (with_olympus after done.acts w)
hears_fact {S} setting May Fact keep frame after done w takes hears true_all f = by_reading (whole_record frame) refl hears
  where
    Claim : OlympusView → Done → Type 0
    Claim x d = Fact (with_olympus x d.acts w)

    by_verdict : (r : Record) (cause : Option DropCause) → whole_record frame ≡ Ok r
        → olympus_verdict setting.scope w.olympus r ≡ cause → HearsOf setting.scope w.olympus r cause after done
        → Claim after done
    by_verdict r (Some cause) read is answers =
        idle_fact Fact after done.acts w answers.0 (ap (λ (d : Done). d.acts) answers.1) f
    by_verdict r None read is answers =
        let true_makers = subst (λ (d : Done). TrueWhere setting w d.statement (makers_told d)) answers.1 true_all in
        let told = takes r (ap (λ (d : Done). d.dropped) answers.1) read in
        let heard = keep.hears w r is (record { frame = frame; read = read; made = true_makers }) told f in
        subst (Claim after) (sym answers.1) (subst (λ x. Fact (with_olympus x nothing w)) (sym answers.0)
        (idle_fact Fact (testified setting.scope w.olympus r) nothing
        (record w { olympus = testified setting.scope w.olympus r }) refl refl heard))

    by_reading : (reading : Result Record WireFault) → whole_record frame ≡ reading
        → HearsReading setting.scope w.olympus reading after done → Claim after done
    by_reading (Ok r) read answers = by_verdict r (olympus_verdict setting.scope w.olympus r) read refl answers
    by_reading (Err (At place fault)) read answers =
        idle_fact Fact after done.acts w answers.0 (ap (λ (d : Done). d.acts) answers.1) f
    by_reading (Err NoMemory) read answers = absurd answers

-- nothing that happens
same_fact : (Fact : World → Type 0) (w next : World) → ◌≡◌ {A = Result World End} (Ok next) (Ok w) → Fact w → Fact next
same_fact Fact w next is f = let same : next ≡ w = cc in subst Fact (sym same) f

-- the frame is that of the packet, or of the bytes that the event gave to the party
abbrev IsGivenAs : World → (to : ℕ) → Option ℕ → List ℕ → Type 0
IsGivenAs w to k frame =
    IsFrameOf w (record { event = w.events; to = to; packet = k; dropped = None }) k frame

-- the take of a record that was noted
taken_of : (w : World) (to : ℕ) (k : Option ℕ) (frame : List ℕ) (dropped : Option DropCause) (r : Record)
    → IsGivenAs w to k frame → dropped ≡ None → whole_record frame ≡ Ok r → IsTaken (with_take to k dropped w) to r
taken_of w to k frame dropped r from kept reads =
    let take : Take = record { event = w.events; to = to; packet = k; dropped = dropped } in
    record {
      take = take;
      told = Contains-append_right w.takes (take ∷ []) take (0, omega arith, refl);
      taker = refl;
      kept = kept;
      frame = frame;
      frame_is = same_frame k from;
      reads = reads;
    }
  where
    same_frame : (o : Option ℕ) → IsFrameOf w (record { event = w.events; to = to; packet = k; dropped = None }) o frame
        → IsFrameOf (with_take to k dropped w) (record { event = w.events; to = to; packet = k; dropped = dropped }) o frame
    same_frame None has = has
    same_frame (Some n) has = has

-- bytes that are given to a party
given_fact : {S : Type 0} (setting : Setting S) (May : Plain → Type 0) (Fact : World → Type 0) → TakesKeepBy setting May Fact
    → (w next : World) (to : ℕ) (k : Option ℕ) (frame : List ℕ) → IsGivenAs w to k frame
    → IsGiven setting w to k frame (Ok next) → Fact w → Fact next
given_fact {S} setting May Fact keep w next to k frame from given f =
    by (is_honest setting to) (to == olympus) refl refl given
  where
    taking : (g : ℕ) (dropped : Option DropCause) → Fact (with_take g k dropped w)
    taking g dropped = keep.told w w.events w.delivered (with_take g k dropped w).takes w.notes (stay_with w.takes _) f

    by : (honest at_olympus : Bool) → is_honest setting to ≡ honest → (to == olympus) ≡ at_olympus
        → TakenBy setting w honest at_olympus to k frame (Ok next) → Fact next
    by false at_olympus a b is = same_fact Fact w next is f
    by true true a b o =
        let mid = with_take olympus k o.done.dropped w in
        let goes = unless_forged_ok setting w olympus o.done.statement (makers_told o.done)
        (after_olympus o.after o.done mid) next o.ends in
        let here = (Decides-eqb to olympus).0 b in
        olympus_fact Fact o.after o.done mid next goes.1
        (hears_fact setting May Fact keep frame o.after o.done mid
        (λ r kept reads. taken_of w olympus k frame o.done.dropped r (subst (λ g. IsGivenAs w g k frame) here from) kept reads)
        o.hears goes.0 (taking olympus o.done.dropped))
    by true false a b n =
        let mid = with_take to k n.done.dropped w in
        let goes = unless_forged_ok setting w to n.done.statement (makers_told n.done)
        (after_node to n.after n.done mid) next n.ends in
        node_fact Fact to n.after n.done mid next goes.1
        (handles_fact setting May Fact keep to (w.nodes to) frame n.after n.done mid (record { honest = a; view = refl })
        (not_equal to olympus b) (λ r kept reads. taken_of w to k frame n.done.dropped r from kept reads)
        n.handles goes.0 (taking to n.done.dropped))

-- a packet that is given
delivers_fact : {S : Type 0} (setting : Setting S) (May : Plain → Type 0) (Fact : World → Type 0) → TakesKeepBy setting May Fact
    → (w next : World) (k : ℕ) → Delivers setting w k (Ok next) → Fact w → Fact next
delivers_fact {S} setting May Fact keep w next k given f = by (slice_get w.pool k) refl given
  where
    by : (p : Option Sent) → slice_get w.pool k ≡ p → GivesPacket setting w k p (Ok next) → Fact next
    by None there is = absurd (cc)
    by (Some p) there is =
        given_fact setting May Fact keep _ next p.to (Some k) p.frame (p, there, refl) is
        (keep.told w w.events _ w.takes w.notes (stay w.takes) f)

-- a node that is handed an input
handed_fact : {S : Type 0} (setting : Setting S) (May : Plain → Type 0) (Fact : World → Type 0) → TakesKeepBy setting May Fact
    → (w next : World) (h : ℕ) (payload : List ℤ) → is_honest setting h ≡ true
    → NodeIsHanded setting w h payload (Ok next) → Fact w → Fact next
handed_fact {S} setting May Fact keep w next h payload honest n f = by n.done.dropped (sym n.result_is)
  where
    v : View
    v = w.nodes h

    by_room : (x : World) → ActsAs setting x h v → Fact x → (room : Bool) → nat_lt (length v.waiting) 1024 ≡ room
        → TakesWhere setting.scope v payload room n.after n.done → Fact (with_step h n.after n.done.acts x)
    by_room x acts_as g true is goes =
        goes_fact setting May Fact keep h (with_input payload v) nothing n.after n.done x acts_as.honest
        (no_slots (with_input payload v)) goes (keep.inputs x h v payload acts_as is g)
    by_room x acts_as g false is told =
        subst (λ (d : Done). Fact (with_step h n.after d.acts x)) (sym told.1)
        (subst (λ y. Fact (with_step h y nothing x)) (sym told.0)
        (subst Fact (sym (no_step h v x acts_as.view)) g))

    here : (x : World) → ActsAs setting x h v → Fact x → Fact (with_step h n.after n.done.acts x)
    here x acts_as g = by_room x acts_as g (nat_lt (length v.waiting) 1024) refl n.takes

    by : (dropped : Option DropCause) → after_node h n.after n.done (with_full_note h dropped w) ≡ Ok next → Fact next
    by None is = node_fact Fact h n.after n.done w next is (here w (record { honest = honest; view = refl }) f)
    by (Some cause) is =
        let mid = with_full_note h (Some cause) w in
        node_fact Fact h n.after n.done mid next is
        (here mid (record { honest = honest; view = refl }) (noted_fact setting May Fact keep w mid.notes f))

-- a node that is told to ask
asks_fact : {S : Type 0} (setting : Setting S) (May : Plain → Type 0) (Fact : World → Type 0)
    → TakesKeepBy setting May Fact
    → (w next : World) (h : ℕ) → is_honest setting h ≡ true → NodeAsks setting w h (Ok next) → Fact w → Fact next
asks_fact setting May Fact keep w next h honest n f =
    node_fact Fact h n.after n.done w next (sym n.result_is)
    (goes_fact setting May Fact keep h (w.nodes h) (questions setting.scope (w.nodes h)) n.after n.done w honest
    (questions_slots setting.scope (w.nodes h)) n.asks
    (keep.asking w h (w.nodes h) (record { honest = honest; view = refl }) f))

-- what happens to an honest host, or nothing
if_honest_fact : (Fact : World → Type 0) (test honest : Bool) (w next : World) (happens : Type 0) → test ≡ honest
    → (test ≡ true → happens → Fact next) → IfHonest honest w (Ok next) happens → Fact w → Fact next
if_honest_fact Fact test true w next happens same keeps is f = keeps same is
if_honest_fact Fact test false w next happens same keeps is f = same_fact Fact w next is f

-- packets that are sent
sent_fact : {S : Type 0} (setting : Setting S) (May : Plain → Type 0) (Fact : World → Type 0)
    → TakesKeepBy setting May Fact
    → (event : Plain) (packets : List Sent) (w next : World) → May event → Brings setting w event packets
    → with_packets packets w ≡ Ok next → Fact w → Fact next
sent_fact setting May Fact keep event packets w next may brings is f =
    subst Fact (sym (packets_ok packets w next is)) (keep.packets w event packets may brings f)

-- a bundle
bundle_fact : {S : Type 0} (setting : Setting S) (May : Plain → Type 0) (Fact : World → Type 0)
    → TakesKeepBy setting May Fact
    → (w next : World) (a : ℕ) (to packets : List ℕ) (missing : Option ℕ) → May (Bundle a to packets)
    → find (λ k. not (nat_lt k (length w.pool))) packets ≡ missing
    → Ok next ≡ bundle_or_end w a to packets missing → Fact w → Fact next
bundle_fact setting May Fact keep w next a to packets (Some k) may all is f = absurd (cc)
bundle_fact {S} setting May Fact keep w next a to packets None may all is f = by (whole_record (first_frame w packets)) refl is
  where
    by : (reading : Result Record WireFault) → whole_record (first_frame w packets) ≡ reading
        → Ok next ≡ sends_bundle w a to packets reading → Fact next
    by (Err fault) read is = same_fact Fact w next is f
    by (Ok r) read is =
        sent_fact setting May Fact keep (Bundle a to packets) (map (λ g. packet a g (bundle_of w r.statement packets)) to) w next
        may (r, read, all, refl) (sym is) f

-- the Olympus that is told to end its epoch
wedges_fact : {S : Type 0} (setting : Setting S) (May : Plain → Type 0) (Fact : World → Type 0)
    → TakesKeepBy setting May Fact
    → (w next : World) → OlympusWedges setting w (Ok next) → Fact w → Fact next
wedges_fact {S} setting May Fact keep w next o f =
    olympus_fact Fact o.after o.done mid next (sym o.result_is)
    (by w.olympus.wedged refl o.wedges (noted_fact setting May Fact keep w mid.notes f))
  where
    mid : World
    mid = with_note (wedge_note w.olympus o.did) w

    by : (ending : Bool) → w.olympus.wedged ≡ ending → WedgesWhere setting.scope w.olympus ending o.after o.did o.done
        → Fact mid → Fact (with_olympus o.after o.done.acts mid)
    by true is where_is g = idle_fact Fact o.after o.done.acts mid where_is.0 (ap (λ (d : Done). d.acts) where_is.2) g
    by false is where_is g =
        subst (λ (d : Done). Fact (with_olympus o.after d.acts mid)) (sym where_is.2)
        (subst (λ x. Fact (with_olympus x (proclaimed setting.scope w.olympus.epoch body.Wedge (hosts_of setting.scope)) mid))
        (sym where_is.0) (keep.wedges mid is g))

-- the Olympus that is told to decide a log
decides_fact : {S : Type 0} (setting : Setting S) (May : Plain → Type 0) (Fact : World → Type 0)
    → TakesKeepBy setting May Fact
    → (w next : World) (h : ℕ) → OlympusDecides setting w h (Ok next) → Fact w → Fact next
decides_fact setting May Fact keep w next h o f =
    let was = record w { olympus = o.after } in
    let mid = with_decided h 0 (o.after.decided h) was in
    let held = subst Fact (sym (decided_frame h 0 (o.after.decided h) was))
    (keep.decides w h o.after o.answer o.decides f) in
    same_fact Fact _ next o.result_is (noted_fact setting May Fact keep mid _ held)

-- the Olympus that is told to give a host up
retires_fact : {S : Type 0} (setting : Setting S) (May : Plain → Type 0) (Fact : World → Type 0)
    → TakesKeepBy setting May Fact
    → (w next : World) (h : ℕ) → OlympusRetires w h (Ok next) → Fact w → Fact next
retires_fact {S} setting May Fact keep w next h o f =
    same_fact Fact _ next o.result_is
    (noted_fact setting May Fact keep (record w { olympus = o.after }) _ (by o.answer o.retires.told o.retires.after_is))
  where
    by : (answer : Retired) → answer ≡ retirement w.olympus h
        → o.after ≡ after_retirement w.olympus h answer → Fact (record w { olympus = o.after })
    by retire.Done told is = subst (λ x. Fact (record w { olympus = x })) (sym is) (keep.retires w h (sym told) f)
    by retire.NotWedged told is = subst (λ x. Fact (record w { olympus = x })) (sym is) f
    by retire.Settled told is = subst (λ x. Fact (record w { olympus = x })) (sym is) f

-- the Olympus that is told to open the next epoch
opens_fact : {S : Type 0} (setting : Setting S) (May : Plain → Type 0) (Fact : World → Type 0)
    → TakesKeepBy setting May Fact
    → (w next : World) → OlympusOpens setting w (Ok next) → Fact w → Fact next
opens_fact {S} setting May Fact keep w next o f =
    olympus_fact Fact o.after o.done mid next (sym o.result_is)
    (by o.answer o.opens.told o.opens.with_it (noted_fact setting May Fact keep w mid.notes f))
  where
    mid : World
    mid = with_note (tell.Open o.answer) w

    idle : (after : OlympusView) (done : Done) → (after ≡ w.olympus) × (done ≡ done_by nothing)
        → Fact mid → Fact (with_olympus after done.acts mid)
    idle after done is g = idle_fact Fact after done.acts mid is.0 (ap (λ (d : Done). d.acts) is.1) g

    by : (answer : Opened) → answer ≡ opening setting.scope w.olympus → OpensWith setting.scope w.olympus answer o.after o.done
        → Fact mid → Fact (with_olympus o.after o.done.acts mid)
    by (opens.Done epoch) told is g =
        subst (λ (d : Done). Fact (with_olympus o.after d.acts mid)) (sym is.1)
        (subst (λ x. Fact (with_olympus x (opening_acts setting.scope w.olympus epoch) mid)) (sym is.0)
        (keep.epochs mid epoch (sym told) g))
    by opens.NotWedged told is g = idle o.after o.done is g
    by opens.NoNext told is g = idle o.after o.done is g
    by (opens.NotAll h) told is g = idle o.after o.done is g

-- each kind of event
does_fact : {S : Type 0} (setting : Setting S) (May : Plain → Type 0) (Fact : World → Type 0) → TakesKeepBy setting May Fact
    → (w next : World) (event : Plain) → May event → Does setting w event (Ok next) → Fact w → Fact next
does_fact setting May Fact keep w next (Input h payload) may d f =
    if_honest_fact Fact (is_honest setting h) (is_honest setting h) w next (NodeIsHanded setting w h payload (Ok next)) refl
    (λ honest n. handed_fact setting May Fact keep w next h payload honest n f) d f
does_fact setting May Fact keep w next (Deliver k) may d f = delivers_fact setting May Fact keep w next k d f
does_fact setting May Fact keep w next Flush may d f =
    delivers_all_keep setting Fact (delivers_fact setting May Fact keep) w next (undelivered w) d f
does_fact setting May Fact keep w next Exchange may d f =
    delivers_all_keep setting Fact (delivers_fact setting May Fact keep) w next (honest_packets setting w) d f
does_fact setting May Fact keep w next (Ask h) may d f =
    if_honest_fact Fact (is_honest setting h) (is_honest setting h) w next (NodeAsks setting w h (Ok next)) refl
    (λ honest n. asks_fact setting May Fact keep w next h honest n f) d f
does_fact setting May Fact keep w next (Bytes to frame) may d f =
    let given : Given = record { event = w.events; to = to; frame = frame } in
    given_fact setting May Fact keep (with_injected to frame w) next to None frame
    (Contains-append_right w.injected (given ∷ []) given (0, omega arith, refl)) d
    (keep.given w to frame may f)
does_fact setting May Fact keep w next (Say a to statement) may d f =
    sent_fact setting May Fact keep (Say a to statement) _ w next may refl (sym d) f
does_fact setting May Fact keep w next (Bundle a to packets) may d f =
    bundle_fact setting May Fact keep w next a to packets (find (λ k. not (nat_lt k (length w.pool))) packets) may refl d f
does_fact setting May Fact keep w next (Steal a to statement) may d f =
    sent_fact setting May Fact keep (Steal a to statement) _ w next may refl (sym d) f
does_fact setting May Fact keep w next Wedge may d f = wedges_fact setting May Fact keep w next d f
does_fact setting May Fact keep w next (Decide h) may d f = decides_fact setting May Fact keep w next h d f
does_fact setting May Fact keep w next (Retire h) may d f = retires_fact setting May Fact keep w next h d f
does_fact setting May Fact keep w next Open may d f = opens_fact setting May Fact keep w next d f

-- any event
happens_fact : {S : Type 0} (setting : Setting S) (May : Plain → Type 0) (Fact : World → Type 0) → TakesKeepBy setting May Fact
    → (w next : World) (event : Plain) → May event → Happens setting w event (Ok next) → Fact w → Fact next
happens_fact {S} setting May Fact keep w next event may happens f = by happens.mid happens.does happens.result_is
  where
    by : (mid : Result World End) → Does setting w event mid → Ok next ≡ counted mid → Fact next
    by (Err end) does is = absurd (cc)
    by (Ok after) does is =
        same_fact Fact _ next is
        (keep.told after _ after.delivered after.takes after.notes (stay after.takes)
        (does_fact setting May Fact keep w after event may does f))

-- events, one after another, each of which may
pub happen_taken : {S : Type 0} (setting : Setting S) (May : Plain → Type 0) (Fact : World → Type 0)
    → TakesKeepBy setting May Fact → (w next : World) (events : List Plain) → All May events
    → HappenAll setting w events (Ok next) → Fact w → Fact next
happen_taken setting May Fact keep w next [] may happen f = same_fact Fact w next happen f
happen_taken {S} setting May Fact keep w next (event ∷ events) may happen f =
    by happen.0 happen.1 happen.2
    (λ mid rest held. happen_taken setting May Fact keep mid next events (All-tail May event events may) rest held)
  where
    by : (mid : Result World End) → Happens setting w event mid → Then mid (Ok next) (λ x. HappenAll setting x events (Ok next))
        → ((x : World) → HappenAll setting x events (Ok next) → Fact x → Fact next) → Fact next
    by (Err end) happens rest later = absurd (cc)
    by (Ok mid) happens rest later =
        later mid rest (happens_fact setting May Fact keep w mid event (All-head May event events may) happens f)

-- any event may
any_may : (events : List Plain) → All (λ (event : Plain). Unit {0}) events
any_may [] = All-nil (λ (event : Plain). Unit {0})
any_may (event ∷ events) = All-cons (λ (x : Plain). Unit {0}) event events tt (any_may events)

-- the same of all events
pub by_any : {S : Type 0} (setting : Setting S) (Fact : World → Type 0) → TakesKeep setting Fact
    → TakesKeepBy setting (λ event. Unit {0}) Fact
by_any setting Fact keep = record {
  rules = keep.rules;
  records = keep.records;
  inputs = keep.inputs;
  asking = keep.asking;
  hears = keep.hears;
  wedges = keep.wedges;
  decides = keep.decides;
  retires = keep.retires;
  epochs = keep.epochs;
  packets = λ w event packets may brings f. keep.packets w event packets brings f;
  given = λ w to frame may f.
      keep.told w w.events w.delivered (with_injected to frame w).injected w.takes w.notes (stay_with w.injected _)
      (stay w.takes) f;
  told = λ w events delivered takes notes more f.
      keep.told w events delivered w.injected takes notes (stay w.injected) more f;
}

-- so it holds in each world, where it holds of the first
pub in_each_taken : {S : Type 0} (setting : Setting S) (Fact : World → Type 0) → Fact (fresh_world setting)
    → TakesKeep setting Fact → InEachWorld setting Fact
in_each_taken setting Fact first keep events w happen =
    happen_taken setting (λ event. Unit {0}) Fact (by_any setting Fact keep) (fresh_world setting) w events (any_may events)
    happen first

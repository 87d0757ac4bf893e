-- What the steps of each node keep holds in each world that events make.
use Rattle.std.proofs.Common.{◌≡◌, ◌≢◌, ℕ, ◌==◌, Bool, true, false, ℤ, List, [], ◌∷◌, ◌++◌, map, Some, None, Ok, Err, refl, ap, sym, subst, ◌∙◌, append-nil}
use Rattle.std.specs.Prelude.{Option, Result, find, length, nat_lt, not, slice_get}
use Rattle.std.proofs.lemmas.List.{append_assoc, map-append}
use Rattle.nys_agreement.proofs.TableLemmas.{put_case}
use Rattle.nys_source.specs.Tables.{put}
use Rattle.nys_stmt.specs.declared.records.Record.{Record}
use Rattle.nys_stmt.specs.declared.statement.Statement.{Statement}
use Rattle.nys_wire.specs.Reading.{whole_record}
use Rattle.nys_wire.specs.declared.fault.WireFault.{WireFault}
use Rattle.nys_wire.specs.declared.fault.WireFault.TheVariants.{At, NoMemory}
use Rattle.nys_rules.specs.declared.cause.DropCause.{DropCause}
use Rattle.nys_rules.specs.declared.notice.End.{End}
use Rattle.nys_rules.specs.declared.rule.Rule.{Rule}
use Rattle.nys_rules.specs.Asking.{questions}
use Rattle.nys_rules.specs.Dropping.{accepted, verdict}
use Rattle.nys_rules.specs.Events.{Plain}
use Rattle.nys_rules.specs.Events.Plain.{Input, Deliver, Flush, Exchange, Ask, Bytes, Say, Bundle, Steal, Wedge, Decide, Retire, Open}
use Rattle.nys_rules.specs.Forged.{Entry, makers_told, with_made}
use Rattle.nys_rules.specs.Handling.{acts_by, AnswersTo, Goes, Handles, HandlesReading, noted_by, Takes, TakesWhere, with_input}
use Rattle.nys_rules.specs.Happening.{AreTrue, bundle_or_end, counted, Delivers, DeliversAll, Does, GivesPacket, HappenAll, Happens, honest_packets, IfHonest, IsGiven, NodeAsks, NodeIsHanded, OlympusDecides, sends_bundle, first_frame, TakenBy, undelivered, with_full_note, with_injected, with_take}
use Rattle.nys_rules.specs.Noting.{noted}
use Rattle.nys_rules.specs.Olympus.{OlympusView}
use Rattle.nys_rules.specs.Packets.{Acts, Done, joined, nothing, Sent}
use Rattle.nys_rules.specs.Rules.{due}
use Rattle.nys_rules.specs.Scope.{olympus}
use Rattle.nys_rules.specs.Settling.{Settles, SettlesInto}
use Rattle.nys_rules.specs.Taking.{acts_of, taken}
use Rattle.nys_rules.specs.View.{first_view, View}
use Rattle.nys_rules.specs.World.{after_node, after_olympus, fresh_world, is_honest, Setting, with_decided, with_packets, World}
use Rattle.nys_rules.proofs.WorldFrames.{after_node_ok, after_olympus_ok, decided_frame, delivers_all_keep, happen_keep, packets_ok, TrueWhere, unless_forged_ok}
use Rattle.nys_laws.specs.Worlds.{InEachWorld}

-- some bytes read as the record
abbrev pub IsRead : Record → Type 0
IsRead r = (frame : List ℕ) × (whole_record frame ≡ Ok r)

-- a fact of a node's view beside the ledger, which each step of the node keeps
pub record StepsKeep {S : Type 0} (setting : Setting S) (Fact : ℕ → List Entry → View → Type 0) : Type 0 where
  -- what another party makes keeps it
  pub beside : (party : ℕ) (made : List Statement) (g : ℕ) (ledger : List Entry) (v : View)
      → party ≢ g → Fact g ledger v
      → Fact g (with_made party made ledger) v
  -- so does each rule that is due, with what is made by it
  pub rules : (g : ℕ) (ledger : List Entry) (v : View) (rule : Rule)
      → due setting.scope v ≡ Some rule → Fact g ledger v
      → Fact g (with_made g (acts_of setting.scope v rule).made ledger) (taken setting.scope v rule)
  -- so does each record that is read and isn't dropped, where its honest makers made its statement
  pub records : (g : ℕ) (ledger : List Entry) (v : View) (r : Record) → IsRead r
      → verdict setting.scope v r ≡ None
      → AreTrue setting ledger r.statement
      (makers_told (noted_by nothing r (accepted setting.scope r.statement.epoch v.me r)))
      → Fact g ledger v
      → Fact g (with_made g (acts_by setting.scope v r).made ledger) (noted setting.scope v r)
  -- so does an input that waits
  pub inputs : (g : ℕ) (ledger : List Entry) (v : View) (payload : List ℤ) → Fact g ledger v
      → Fact g ledger (with_input payload v)
  -- so do questions
  pub asking : (g : ℕ) (ledger : List Entry) (v : View) → Fact g ledger v
      → Fact g (with_made g (questions setting.scope v).made ledger) v

-- what a party makes by two acts it makes one after the other
made_twice : (g : ℕ) (a b : List Statement) (ledger : List Entry)
    → with_made g (a ++ b) ledger ≡ with_made g b (with_made g a ledger)
made_twice g a b ledger =
    ap (λ more. ledger ++ more) (map-append entry a b) ∙ sym (append_assoc ledger (map entry a) (map entry b))
  where
    entry : Statement → Entry
    entry s = record { party = g; statement = s }

-- what holds with the ledger as it was holds where nothing was made
none_more : (Fact : ℕ → List Entry → View → Type 0) (g : ℕ) (ledger : List Entry) (v : View)
    → Fact g ledger v
    → Fact g (with_made g [] ledger) v
none_more Fact g ledger v f = subst (λ l. Fact g l v) (sym (append-nil ledger)) f

-- settling
settles_steps : {S : Type 0} (setting : Setting S) (Fact : ℕ → List Entry → View → Type 0)
    → StepsKeep setting Fact
    → (g : ℕ) (ledger : List Entry) (v : View) (rules : List Rule) (after : View) (acts : Acts)
    → Settles setting.scope v rules after acts → Fact g ledger v
    → Fact g (with_made g acts.made ledger) after
settles_steps setting Fact keep g ledger v [] after acts s f =
    subst (λ (a : Acts). Fact g (with_made g a.made ledger) after) (sym s.2)
    (subst (λ x. Fact g (with_made g [] ledger) x) (sym s.1) (none_more Fact g ledger v f))
settles_steps setting Fact keep g ledger v (rule ∷ rules) after acts s f =
    let first = acts_of setting.scope v rule in
    let next = with_made g first.made ledger in
    let rest = settles_steps setting Fact keep g next (taken setting.scope v rule) rules after s.1.0 s.1.1
    (keep.rules g ledger v rule s.0 f) in
    subst (λ (a : Acts). Fact g (with_made g a.made ledger) after) (sym s.1.2)
    (subst (λ l. Fact g l after) (sym (made_twice g first.made s.1.0.made ledger)) rest)

-- settling behind what was done at once
settles_behind : {S : Type 0} (setting : Setting S) (Fact : ℕ → List Entry → View → Type 0)
    → StepsKeep setting Fact
    → (g : ℕ) (ledger : List Entry) (v : View) (first rest : Acts) (after : View)
    → SettlesInto setting.scope v after rest → Fact g (with_made g first.made ledger) v
    → Fact g (with_made g (joined first rest).made ledger) after
settles_behind setting Fact keep g ledger v first rest after s f =
    subst (λ l. Fact g l after) (sym (made_twice g first.made rest.made ledger))
    (settles_steps setting Fact keep g (with_made g first.made ledger) v s.rules after rest s.settles f)

-- bytes that a node is given
handles_steps : {S : Type 0} (setting : Setting S) (Fact : ℕ → List Entry → View → Type 0)
    → StepsKeep setting Fact
    → (g : ℕ) (w : World) (v : View) (frame : List ℕ) (after : View) (done : Done)
    → Handles setting.scope v frame after done
    → TrueWhere setting w done.statement (makers_told done) → Fact g w.ledger v
    → Fact g (with_made g done.acts.made w.ledger) after
handles_steps {S} setting Fact keep g w v frame after done handles true_all f =
    by_reading (whole_record frame) refl handles
  where
    Claim : View → Done → Type 0
    Claim x d = Fact g (with_made g d.acts.made w.ledger) x

    unchanged : (d : Done) → d.acts ≡ nothing → after ≡ v → done ≡ d → Claim after done
    unchanged d none same is =
        subst (Claim after) (sym is) (subst (λ (a : Acts). Fact g (with_made g a.made w.ledger) after) (sym none)
        (subst (λ x. Fact g (with_made g [] w.ledger) x) (sym same) (none_more Fact g w.ledger v f)))

    by_verdict : (r : Record) (cause : Option DropCause) → IsRead r
        → verdict setting.scope v r ≡ cause
        → AnswersTo setting.scope v r cause after done → Claim after done
    by_verdict r (Some cause) read is answers = unchanged _ refl answers.0 answers.1
    by_verdict r None read is answers =
        let true_makers = subst (λ (d : Done). TrueWhere setting w d.statement (makers_told d)) answers.told true_all in
        let noted_one = keep.records g w.ledger v r read is true_makers f in
        subst (Claim after) (sym answers.told)
        (settles_behind setting Fact keep g w.ledger (noted setting.scope v r) (acts_by setting.scope v r) answers.rest after
        answers.settles noted_one)

    by_reading : (reading : Result Record WireFault) → whole_record frame ≡ reading
        → HandlesReading setting.scope v reading after done → Claim after done
    by_reading (Ok r) is answers =
        by_verdict r (verdict setting.scope v r) (frame, is) refl answers
    by_reading (Err (At place kind)) is answers = unchanged _ refl answers.0 answers.1
    by_reading (Err NoMemory) is answers = absurd answers

-- a node that settles after what it did
goes_steps : {S : Type 0} (setting : Setting S) (Fact : ℕ → List Entry → View → Type 0)
    → StepsKeep setting Fact
    → (g : ℕ) (ledger : List Entry) (v : View) (first : Acts) (after : View) (done : Done)
    → Goes setting.scope v first after done → Fact g (with_made g first.made ledger) v
    → Fact g (with_made g done.acts.made ledger) after
goes_steps setting Fact keep g ledger v first after done goes f =
    subst (λ (d : Done). Fact g (with_made g d.acts.made ledger) after) (sym goes.told)
    (settles_behind setting Fact keep g ledger v first goes.rest after goes.settles f)

-- an input that it is handed
takes_steps : {S : Type 0} (setting : Setting S) (Fact : ℕ → List Entry → View → Type 0)
    → StepsKeep setting Fact
    → (g : ℕ) (ledger : List Entry) (v : View) (payload : List ℤ) (after : View) (done : Done)
    → Takes setting.scope v payload after done → Fact g ledger v
    → Fact g (with_made g done.acts.made ledger) after
takes_steps {S} setting Fact keep g ledger v payload after done takes f =
    by_room (nat_lt (length v.waiting) 1024) takes
  where
    by_room : (room : Bool) → TakesWhere setting.scope v payload room after done
        → Fact g (with_made g done.acts.made ledger) after
    by_room true goes =
        goes_steps setting Fact keep g ledger (with_input payload v) nothing after done goes
        (none_more Fact g ledger (with_input payload v) (keep.inputs g ledger v payload f))
    by_room false told =
        subst (λ (d : Done). Fact g (with_made g d.acts.made ledger) after) (sym told.1)
        (subst (λ x. Fact g (with_made g [] ledger) x) (sym told.0) (none_more Fact g ledger v f))

-- the fact holds of the nodes of all hosts
abbrev pub HoldsOfNodes : (ℕ → List Entry → View → Type 0) → World → Type 0
HoldsOfNodes Fact w = (g : ℕ) → g ≢ olympus → Fact g w.ledger (w.nodes g)

-- a node that acted
acted_nodes : {S : Type 0} (setting : Setting S) (Fact : ℕ → List Entry → View → Type 0)
    → StepsKeep setting Fact
    → (g : ℕ) (v : View) (done : Done) (w next : World) → after_node g v done w ≡ Ok next
    → (g ≢ olympus → Fact g (with_made g done.acts.made w.ledger) v) → HoldsOfNodes Fact w
    → HoldsOfNodes Fact next
acted_nodes {S} setting Fact keep g v done w next is here all =
    subst (HoldsOfNodes Fact) (sym (after_node_ok g v done w next is)) each
  where
    made : List Entry
    made = with_made g done.acts.made w.ledger

    each : (x : ℕ) → x ≢ olympus → Fact x made (put w.nodes g v x)
    each x ne = put_case (Fact x made) w.nodes g v x
        (λ same. subst (λ y. Fact y made v) (sym same) (here (subst (λ y. y ≢ olympus) same ne)))
        (λ other. keep.beside g done.acts.made x w.ledger (w.nodes x) (λ same. other (sym same)) (all x ne))

-- the Olympus that acted
olympus_nodes : {S : Type 0} (setting : Setting S) (Fact : ℕ → List Entry → View → Type 0)
    → StepsKeep setting Fact
    → (o : OlympusView) (done : Done) (w next : World) → after_olympus o done w ≡ Ok next
    → HoldsOfNodes Fact w → HoldsOfNodes Fact next
olympus_nodes setting Fact keep o done w next is all =
    subst (HoldsOfNodes Fact) (sym (after_olympus_ok o done w next is))
    (λ x ne. keep.beside olympus done.acts.made x w.ledger (w.nodes x) (λ same. ne (sym same)) (all x ne))

-- packets that are sent
packets_nodes : (Fact : ℕ → List Entry → View → Type 0) (packets : List Sent) (w next : World)
    → with_packets packets w ≡ Ok next → HoldsOfNodes Fact w → HoldsOfNodes Fact next
packets_nodes Fact packets w next is all =
    subst (HoldsOfNodes Fact) (sym (packets_ok packets w next is)) all

-- an event ends in the world
abbrev EndsIn : Result World End → World → Type 0
EndsIn result w = result ≡ Ok w

-- nothing that happens
same_nodes : (Fact : ℕ → List Entry → View → Type 0) (w next : World) → EndsIn (Ok next) w
    → HoldsOfNodes Fact w → HoldsOfNodes Fact next
same_nodes Fact w next is all = let same : next ≡ w = cc in subst (HoldsOfNodes Fact) (sym same) all

-- bytes that are given to a party
given_nodes : {S : Type 0} (setting : Setting S) (Fact : ℕ → List Entry → View → Type 0)
    → StepsKeep setting Fact
    → (w next : World) (to : ℕ) (k : Option ℕ) (frame : List ℕ)
    → IsGiven setting w to k frame (Ok next)
    → HoldsOfNodes Fact w → HoldsOfNodes Fact next
given_nodes {S} setting Fact keep w next to k frame given all =
    by (is_honest setting to) (to == olympus) given
  where
    by : (honest at_olympus : Bool) → TakenBy setting w honest at_olympus to k frame (Ok next)
        → HoldsOfNodes Fact next
    by false at_olympus is = same_nodes Fact w next is all
    by true true o =
        let goes = unless_forged_ok setting w olympus o.done.statement (makers_told o.done)
        (after_olympus o.after o.done (with_take olympus k o.done.dropped w)) next o.ends in
        olympus_nodes setting Fact keep o.after o.done (with_take olympus k o.done.dropped w) next goes.1 all
    by true false n =
        let goes = unless_forged_ok setting w to n.done.statement (makers_told n.done)
        (after_node to n.after n.done (with_take to k n.done.dropped w)) next n.ends in
        acted_nodes setting Fact keep to n.after n.done (with_take to k n.done.dropped w) next goes.1
        (λ ne. handles_steps setting Fact keep to w (w.nodes to) frame n.after n.done n.handles goes.0 (all to ne)) all

-- a packet that is given
delivers_nodes : {S : Type 0} (setting : Setting S) (Fact : ℕ → List Entry → View → Type 0)
    → StepsKeep setting Fact
    → (w next : World) (k : ℕ) → Delivers setting w k (Ok next) → HoldsOfNodes Fact w
    → HoldsOfNodes Fact next
delivers_nodes {S} setting Fact keep w next k given all = by (slice_get w.pool k) given
  where
    by : (p : Option Sent) → GivesPacket setting w k p (Ok next) → HoldsOfNodes Fact next
    by None is = absurd (cc)
    by (Some p) is = given_nodes setting Fact keep _ next p.to (Some k) p.frame is all

-- packets that are given
delivers_all_nodes : {S : Type 0} (setting : Setting S) (Fact : ℕ → List Entry → View → Type 0)
    → StepsKeep setting Fact
    → (w next : World) (ks : List ℕ) → DeliversAll setting w ks (Ok next) → HoldsOfNodes Fact w
    → HoldsOfNodes Fact next
delivers_all_nodes setting Fact keep w next ks given all =
    delivers_all_keep setting (HoldsOfNodes Fact) (delivers_nodes setting Fact keep) w next ks given all

-- a node that is handed an input
handed_nodes : {S : Type 0} (setting : Setting S) (Fact : ℕ → List Entry → View → Type 0)
    → StepsKeep setting Fact
    → (w next : World) (h : ℕ) (payload : List ℤ) → NodeIsHanded setting w h payload (Ok next)
    → HoldsOfNodes Fact w → HoldsOfNodes Fact next
handed_nodes {S} setting Fact keep w next h payload n all = by n.done.dropped (sym n.result_is)
  where
    here : h ≢ olympus → Fact h (with_made h n.done.acts.made w.ledger) n.after
    here ne =
        takes_steps setting Fact keep h w.ledger (w.nodes h) payload n.after n.done n.takes (all h ne)

    by : (dropped : Option DropCause)
        → after_node h n.after n.done (with_full_note h dropped w) ≡ Ok next
        → HoldsOfNodes Fact next
    by None is = acted_nodes setting Fact keep h n.after n.done w next is here all
    by (Some cause) is =
        acted_nodes setting Fact keep h n.after n.done (with_full_note h (Some cause) w) next is here all

-- a node that is told to ask
asks_nodes : {S : Type 0} (setting : Setting S) (Fact : ℕ → List Entry → View → Type 0)
    → StepsKeep setting Fact
    → (w next : World) (h : ℕ) → NodeAsks setting w h (Ok next) → HoldsOfNodes Fact w
    → HoldsOfNodes Fact next
asks_nodes setting Fact keep w next h n all =
    acted_nodes setting Fact keep h n.after n.done w next (sym n.result_is)
    (λ ne. goes_steps setting Fact keep h w.ledger (w.nodes h) (questions setting.scope (w.nodes h)) n.after n.done n.asks
    (keep.asking h w.ledger (w.nodes h) (all h ne))) all

-- what happens to an honest host, or nothing
if_honest_nodes : (Fact : ℕ → List Entry → View → Type 0) (honest : Bool) (w next : World) (happens : Type 0)
    → (happens → HoldsOfNodes Fact next) → IfHonest honest w (Ok next) happens → HoldsOfNodes Fact w
    → HoldsOfNodes Fact next
if_honest_nodes Fact true w next happens keeps is all = keeps is
if_honest_nodes Fact false w next happens keeps is all = same_nodes Fact w next is all

-- a bundle
bundle_nodes : (Fact : ℕ → List Entry → View → Type 0) (w next : World) (a : ℕ) (to packets : List ℕ) (missing : Option ℕ)
    → Ok next ≡ bundle_or_end w a to packets missing → HoldsOfNodes Fact w → HoldsOfNodes Fact next
bundle_nodes Fact w next a to packets (Some k) is all = absurd (cc)
bundle_nodes Fact w next a to packets None is all = by (whole_record (first_frame w packets)) is
  where
    by : (reading : Result Record WireFault) → Ok next ≡ sends_bundle w a to packets reading
        → HoldsOfNodes Fact next
    by (Err fault) is = same_nodes Fact w next is all
    by (Ok r) is = packets_nodes Fact _ w next (sym is) all

-- the Olympus that decides a log
decides_nodes : {S : Type 0} (setting : Setting S) (Fact : ℕ → List Entry → View → Type 0)
    (w next : World) (h : ℕ) → OlympusDecides setting w h (Ok next) → HoldsOfNodes Fact w → HoldsOfNodes Fact next
decides_nodes setting Fact w next h o all =
    let was = record w { olympus = o.after } in
    let mid = with_decided h 0 (o.after.decided h) was in
    let held = subst (HoldsOfNodes Fact) (sym (decided_frame h 0 (o.after.decided h) was)) all in
    same_nodes Fact _ next o.result_is held

-- each kind of event
does_nodes : {S : Type 0} (setting : Setting S) (Fact : ℕ → List Entry → View → Type 0)
    → StepsKeep setting Fact
    → (w next : World) (event : Plain) → Does setting w event (Ok next) → HoldsOfNodes Fact w
    → HoldsOfNodes Fact next
does_nodes setting Fact keep w next (Input h payload) d all =
    if_honest_nodes Fact (is_honest setting h) w next (NodeIsHanded setting w h payload (Ok next))
    (λ n. handed_nodes setting Fact keep w next h payload n all) d all
does_nodes setting Fact keep w next (Deliver k) d all =
    delivers_nodes setting Fact keep w next k d all
does_nodes setting Fact keep w next Flush d all =
    delivers_all_nodes setting Fact keep w next (undelivered w) d all
does_nodes setting Fact keep w next Exchange d all =
    delivers_all_nodes setting Fact keep w next (honest_packets setting w) d all
does_nodes setting Fact keep w next (Ask h) d all =
    if_honest_nodes Fact (is_honest setting h) w next (NodeAsks setting w h (Ok next))
    (λ n. asks_nodes setting Fact keep w next h n all) d all
does_nodes setting Fact keep w next (Bytes to frame) d all =
    given_nodes setting Fact keep (with_injected to frame w) next to None frame d all
does_nodes setting Fact keep w next (Say a to statement) d all =
    packets_nodes Fact _ w next (sym d) all
does_nodes setting Fact keep w next (Bundle a to packets) d all =
    bundle_nodes Fact w next a to packets (find (λ k. not (nat_lt k (length w.pool))) packets) d all
does_nodes setting Fact keep w next (Steal a to statement) d all =
    packets_nodes Fact _ w next (sym d) all
does_nodes setting Fact keep w next Wedge d all =
    olympus_nodes setting Fact keep d.after d.done _ next (sym d.result_is) all
does_nodes setting Fact keep w next (Decide h) d all = decides_nodes setting Fact w next h d all
does_nodes setting Fact keep w next (Retire h) d all = same_nodes Fact _ next d.result_is all
does_nodes setting Fact keep w next Open d all =
    olympus_nodes setting Fact keep d.after d.done _ next (sym d.result_is) all

-- an event that is counted
happens_nodes : {S : Type 0} (setting : Setting S) (Fact : ℕ → List Entry → View → Type 0)
    → StepsKeep setting Fact
    → (w next : World) (event : Plain) → Happens setting w event (Ok next) → HoldsOfNodes Fact w
    → HoldsOfNodes Fact next
happens_nodes {S} setting Fact keep w next event happens all =
    by happens.mid happens.does happens.result_is
  where
    by : (mid : Result World End) → Does setting w event mid → Ok next ≡ counted mid
        → HoldsOfNodes Fact next
    by (Err end) does is = absurd (cc)
    by (Ok after) does is =
        same_nodes Fact _ next is (does_nodes setting Fact keep w after event does all)

-- events, one after another
pub worlds_keep : {S : Type 0} (setting : Setting S) (Fact : ℕ → List Entry → View → Type 0)
    → StepsKeep setting Fact
    → (w next : World) (events : List Plain) → HappenAll setting w events (Ok next)
    → HoldsOfNodes Fact w → HoldsOfNodes Fact next
worlds_keep setting Fact keep w next events happen all =
    happen_keep setting (HoldsOfNodes Fact) (happens_nodes setting Fact keep) w next events happen all

-- so it holds in each world, where it holds at the beginning
pub in_each_world : {S : Type 0} (setting : Setting S) (Fact : ℕ → List Entry → View → Type 0)
    → ((g : ℕ) → Fact g [] (first_view setting.scope g)) → StepsKeep setting Fact
    → InEachWorld setting (HoldsOfNodes Fact)
unfolding fresh_world
in_each_world setting Fact first keep events w happen =
    worlds_keep setting Fact keep (fresh_world setting) w events happen (λ g ne. first g)

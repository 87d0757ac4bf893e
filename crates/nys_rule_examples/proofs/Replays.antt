-- Worlds, computed: what events make of them, where each test that was computed passes.
use Rattle.std.proofs.Common.{arith, eq-eqb, ◌≡◌, ℕ, ◌==◌, List, [], ◌∷◌, length, refl, ap, inl, inr, true, false, not, ◌&&◌, None, Some}
use Rattle.std.specs.Prelude.{if◌then◌else◌, Bool, Option, Result, Ok, Err, slice_get, find, nat_lt}
use Rattle.std.proofs.lemmas.List.Elements.{All-cons, All-nil}
use Rattle.nys_stmt.specs.declared.statement.Statement.{Statement}
use Rattle.nys_rules.specs.declared.decision.Decision.{Decision}
use Rattle.nys_rules.specs.declared.decision.Opened.{Opened}
use Rattle.nys_rules.specs.declared.decision.Retired.{Retired}
use Rattle.nys_rules.specs.declared.notice.End.{End}
use Rattle.nys_rules.specs.declared.notice.End.TheVariants.{Forged, NoPacket}
use Rattle.nys_rules.specs.declared.notice.NoteKind.TheVariants as tell
use Rattle.nys_rules.specs.declared.packet.TheConstants.{STRANGER}
use Rattle.nys_rules.specs.Events.{Plain}
use Rattle.nys_rules.specs.Events.Plain.{Input, Deliver, Flush, Exchange, Ask, Bytes, Say, Bundle, Steal, Wedge, Decide, Retire, Open}
use Rattle.nys_rules.specs.Forged.{Entry, HasMade, makers_told, NoneClashes}
use Rattle.nys_rules.specs.Happening.{AreTrue, bundle_or_end, counted, DeliversAll, Does, GivesPacket, HappenAll, honest_packets, IfHonest, IsForged, NodeAsks, NodeIsHanded, NodeTakes, OlympusTakes, said_record, sent_to_all, TakenBy, Then, undelivered, UnlessForged, wedge_note, with_full_note, with_injected, with_take}
use Rattle.nys_rules.specs.Olympus.{after_decision, after_retirement, decision, opening, retirement}
use Rattle.nys_rules.specs.Packets.{Sent}
use Rattle.nys_rules.specs.Scope.{olympus, Scope}
use Rattle.nys_rules.specs.World.{after_node, after_olympus, is_honest, Setting, with_decided, with_note, World}
use Rattle.nys_rule_examples.proofs.Services.{hear, hear_is, opened_done, opened_is, opened_view, Service, wedged_done, wedged_is, wedged_view}
use Rattle.nys_rule_examples.proofs.Settlings.{ask, ask_is, Called, handle, handle_is, take_input, take_input_is}
use Rattle.nys_rule_examples.proofs.Statements.{first_or_rest, has, has_is, has_made}

-- both tests pass
both : {x y : Bool} → (x && y) ≡ true → (x ≡ true) × (y ≡ true)
both {x = true} {y = true} e = (refl, refl)
both {x = true} {y = false} e = absurd (cc)
both {x = false} {y} e = absurd (cc)

-- what happened: whether that is sure, and the world or its end
abbrev pub Outcome : Type 0
Outcome = Bool × Result World End

-- how many rules a node may take in one settling
abbrev most : ℕ
most = 60

-- the first thing happened, and then the second, where the world went on
abbrev chained : Outcome → (World → Outcome) → Outcome
chained (sure, Err end) f = (sure, Err end)
chained (sure, Ok next) f = (sure && (f next).0, (f next).1)

-- so both happened
chained_is : (x : Outcome) (f : World → Outcome) (P : World → Result World End → Type 0)
    → ((next : World) → (f next).0 ≡ true → P next (f next).1) → (chained x f).0 ≡ true
    → (x.0 ≡ true) × Then x.1 (chained x f).1 (λ next. P next (chained x f).1)
chained_is (sure, Err end) f P each q = (q, refl)
chained_is (sure, Ok next) f P each q = let b = both {x = sure} {y = (f next).0} q in (b.0, each next b.1)

-- this maker where it is honest and didn't make the statement, else what the others give
abbrev or_rest : (honest made : Bool) → ℕ → Option ℕ → Option ℕ
or_rest true false m rest = Some m
or_rest true true m rest = rest
or_rest false made m rest = rest

-- the first maker that is honest and didn't make the statement
abbrev forger : {S : Type 0} → Setting S → List Entry → Statement → List ℕ → Option ℕ
forger setting ledger statement [] = None
forger setting ledger statement (m ∷ makers) = or_rest (is_honest setting m) (has ledger m statement) m (forger setting ledger statement makers)

-- the makers and the statement are judged: none is forged, or this one is the first
abbrev Judged : {S : Type 0} → Setting S → List Entry → Statement → List ℕ → Option ℕ → Type 0
Judged setting ledger statement makers None = AreTrue setting ledger statement makers
Judged setting ledger statement makers (Some m) = IsForged setting ledger statement makers m

-- a maker that lies or made the statement stands before the others
behind_one : {S : Type 0} (setting : Setting S) (ledger : List Entry) (statement : Statement) (m : ℕ) (makers : List ℕ) (o : Option ℕ)
    → (is_honest setting m ≡ true → HasMade ledger m statement) → Judged setting ledger statement makers o
    → Judged setting ledger statement (m ∷ makers) o
behind_one setting ledger statement m makers None fine j =
    All-cons (λ x. is_honest setting x ≡ true → HasMade ledger x statement) m makers fine j
behind_one setting ledger statement m makers (Some x) fine j = record {
  before = m ∷ j.before;
  after = j.after;
  among = ap (λ xs. m ∷ xs) j.among;
  true_before = All-cons (λ x. is_honest setting x ≡ true → HasMade ledger x statement) m j.before fine j.true_before;
  honest = j.honest;
  never = j.never;
}

-- the first maker is judged by two tests
judge_one : {S : Type 0} (setting : Setting S) (ledger : List Entry) (statement : Statement) (m : ℕ) (makers : List ℕ) (honest made : Bool)
    → is_honest setting m ≡ honest → has ledger m statement ≡ made
    → Judged setting ledger statement makers (forger setting ledger statement makers)
    → Judged setting ledger statement (m ∷ makers) (or_rest honest made m (forger setting ledger statement makers))
judge_one setting ledger statement m makers true false h e rest = record {
  before = [];
  after = makers;
  among = refl;
  true_before = All-nil (λ x. is_honest setting x ≡ true → HasMade ledger x statement);
  honest = h;
  never = λ made. let yes = has_made ledger m statement made in absurd (cc);
}
judge_one setting ledger statement m makers true true h e rest =
    behind_one setting ledger statement m makers (forger setting ledger statement makers) (λ honest. has_is ledger m statement e) rest
judge_one setting ledger statement m makers false made h e rest =
    behind_one setting ledger statement m makers (forger setting ledger statement makers) (λ honest. absurd (cc)) rest

-- so they are judged
judge : {S : Type 0} (setting : Setting S) (ledger : List Entry) (statement : Statement) (makers : List ℕ)
    → Judged setting ledger statement makers (forger setting ledger statement makers)
judge setting ledger statement [] = All-nil (λ x. is_honest setting x ≡ true → HasMade ledger x statement)
judge setting ledger statement (m ∷ makers) =
    judge_one setting ledger statement m makers (is_honest setting m) (has ledger m statement) refl refl (judge setting ledger statement makers)

-- the party made no statement by now
abbrev is_silent : List Entry → ℕ → Bool
is_silent [] m = true
is_silent (entry ∷ ledger) m = not (entry.party == m) && is_silent ledger m

-- so it made none that clashes
none_of_silent : (ledger : List Entry) (m : ℕ) (other : Statement) → is_silent ledger m ≡ true → HasMade ledger m other → ⊥
none_of_silent [] m other q made = absurd (omega (arith, made.1))
none_of_silent (entry ∷ ledger) m other q made = elim (first_or_rest entry (record { party = m; statement = other }) ledger made.0 made.1 made.2) [
  | inl e ↦
      let spoke : (entry.party == m) ≡ true = eq-eqb entry.party m (cc) in
      let silent : (not (entry.party == m)) ≡ true = (both {x = not (entry.party == m)} {y = is_silent ledger m} q).0 in
      absurd (cc)
  | inr rest ↦ none_of_silent ledger m other (both {x = not (entry.party == m)} {y = is_silent ledger m} q).1 rest
]

-- it is sure how the world ends: a forger made nothing at all, so that nothing of it clashes
abbrev is_sure_of : List Entry → Option ℕ → Bool
is_sure_of ledger None = true
is_sure_of ledger (Some m) = is_silent ledger m

-- the world goes on, or ends with this forger
abbrev ended_by : World → ℕ → Statement → Result World End → Option ℕ → Result World End
ended_by w taker statement next None = next
ended_by w taker statement next (Some m) = Err (Forged w.events m taker statement)

-- makers of a statement, if there is one, were accepted
abbrev unless_forged : {S : Type 0} → Setting S → World → ℕ → Option Statement → List ℕ → Result World End → Result World End
unless_forged setting w taker None makers next = next
unless_forged setting w taker (Some statement) makers next =
    ended_by w taker statement next (forger setting w.ledger statement makers)

-- it is sure how the world ends, or that it goes on
abbrev sure_of : {S : Type 0} → Setting S → World → Option Statement → List ℕ → Bool
sure_of setting w None makers = true
sure_of setting w (Some statement) makers = is_sure_of w.ledger (forger setting w.ledger statement makers)

-- the world ends where it was forged
ended_is : {S : Type 0} (setting : Setting S) (w : World) (taker : ℕ) (statement : Statement) (makers : List ℕ) (next : Result World End) (o : Option ℕ)
    → is_sure_of w.ledger o ≡ true → Judged setting w.ledger statement makers o
    → UnlessForged setting w taker (Some statement) makers next (ended_by w taker statement next o)
ended_is setting w taker statement makers next None q j = inl (j, refl)
ended_is setting w taker statement makers next (Some m) q j =
    inr (m, Forged w.events m taker statement, j, inl ((λ other made clash. none_of_silent w.ledger m other q made), refl), refl)

-- so it goes on or ends
unless_forged_is : {S : Type 0} (setting : Setting S) (w : World) (taker : ℕ) (statement : Option Statement) (makers : List ℕ) (next : Result World End)
    → sure_of setting w statement makers ≡ true
    → UnlessForged setting w taker statement makers next (unless_forged setting w taker statement makers next)
unless_forged_is setting w taker None makers next q = refl
unless_forged_is setting w taker (Some statement) makers next q =
    ended_is setting w taker statement makers next (forger setting w.ledger statement makers) q (judge setting w.ledger statement makers)

-- a node took bytes
abbrev node_took : {S : Type 0} → Setting S → World → ℕ → Option ℕ → Called → Outcome
node_took setting w g k x =
    (x.sure && sure_of setting w x.done.statement (makers_told x.done), unless_forged setting w g x.done.statement (makers_told x.done) (after_node g x.after x.done (with_take g k x.done.dropped w)))

-- so it took them
node_took_is : {S : Type 0} (setting : Setting S) (w : World) (g : ℕ) (k : Option ℕ) (frame : List ℕ)
    → (node_took setting w g k (handle most setting.scope (w.nodes g) frame)).0 ≡ true
    → NodeTakes setting w g k frame (node_took setting w g k (handle most setting.scope (w.nodes g) frame)).1
node_took_is setting w g k frame q =
    let x = handle most setting.scope (w.nodes g) frame in
    let b = both {x = x.sure} {y = sure_of setting w x.done.statement (makers_told x.done)} q in
    record {
      after = x.after;
      done = x.done;
      handles = handle_is most setting.scope (w.nodes g) frame b.0;
      ends = unless_forged_is setting w g x.done.statement (makers_told x.done) (after_node g x.after x.done (with_take g k x.done.dropped w)) b.1;
    }

-- the Olympus took bytes
abbrev olympus_took : {S : Type 0} → Setting S → World → Option ℕ → Service → Outcome
olympus_took setting w k x =
    (x.sure && sure_of setting w x.done.statement (makers_told x.done), unless_forged setting w olympus x.done.statement (makers_told x.done) (after_olympus x.after x.done (with_take olympus k x.done.dropped w)))

-- so it took them
olympus_took_is : {S : Type 0} (setting : Setting S) (w : World) (k : Option ℕ) (frame : List ℕ)
    → (olympus_took setting w k (hear setting.scope w.olympus frame)).0 ≡ true
    → OlympusTakes setting w k frame (olympus_took setting w k (hear setting.scope w.olympus frame)).1
olympus_took_is setting w k frame q =
    let x = hear setting.scope w.olympus frame in
    let b = both {x = x.sure} {y = sure_of setting w x.done.statement (makers_told x.done)} q in
    record {
      after = x.after;
      done = x.done;
      hears = hear_is setting.scope w.olympus frame b.0;
      ends = unless_forged_is setting w olympus x.done.statement (makers_told x.done) (after_olympus x.after x.done (with_take olympus k x.done.dropped w)) b.1;
    }

-- bytes were given to a party
abbrev given : {S : Type 0} → Setting S → World → (honest at_olympus : Bool) → (to : ℕ) → Option ℕ → List ℕ → Outcome
given setting w false at_olympus to k frame = (true, Ok w)
given setting w true true to k frame = olympus_took setting w k (hear setting.scope w.olympus frame)
given setting w true false to k frame = node_took setting w to k (handle most setting.scope (w.nodes to) frame)

-- so they were
given_is : {S : Type 0} (setting : Setting S) (w : World) (honest at_olympus : Bool) (to : ℕ) (k : Option ℕ) (frame : List ℕ)
    → (given setting w honest at_olympus to k frame).0 ≡ true
    → TakenBy setting w honest at_olympus to k frame (given setting w honest at_olympus to k frame).1
given_is setting w false at_olympus to k frame q = refl
given_is setting w true true to k frame q = olympus_took_is setting w k frame q
given_is setting w true false to k frame q = node_took_is setting w to k frame q

-- bytes are given to a party
abbrev give : {S : Type 0} → Setting S → World → (to : ℕ) → Option ℕ → List ℕ → Outcome
give setting w to k frame = given setting w (is_honest setting to) (to == olympus) to k frame

-- a packet, where there is one, is given to its party
abbrev give_packet : {S : Type 0} → Setting S → World → ℕ → Option Sent → Outcome
give_packet setting w k None = (true, Err (NoPacket w.events k (length w.pool)))
give_packet setting w k (Some p) =
    give setting (record w { delivered = λ x. if x == k then true else w.delivered x }) p.to (Some k) p.frame

-- so it is
give_packet_is : {S : Type 0} (setting : Setting S) (w : World) (k : ℕ) (o : Option Sent) → (give_packet setting w k o).0 ≡ true
    → GivesPacket setting w k o (give_packet setting w k o).1
give_packet_is setting w k None q = refl
give_packet_is setting w k (Some p) q =
    given_is setting (record w { delivered = λ x. if x == k then true else w.delivered x }) (is_honest setting p.to) (p.to == olympus) p.to (Some k) p.frame q

-- packet k is given
abbrev deliver : {S : Type 0} → Setting S → ℕ → World → Outcome
deliver setting k w = give_packet setting w k (slice_get w.pool k)

-- packets are given one after another
abbrev deliver_all : {S : Type 0} → Setting S → List ℕ → World → Outcome
deliver_all setting [] w = (true, Ok w)
deliver_all setting (k ∷ ks) w = chained (deliver setting k w) (deliver_all setting ks)

-- so they are
deliver_all_is : {S : Type 0} (setting : Setting S) (ks : List ℕ) (w : World) → (deliver_all setting ks w).0 ≡ true
    → DeliversAll setting w ks (deliver_all setting ks w).1
deliver_all_is setting [] w q = refl
deliver_all_is setting (k ∷ ks) w q =
    let x = deliver setting k w in
    let c = chained_is x (deliver_all setting ks) (λ next result. DeliversAll setting next ks result) (deliver_all_is setting ks) q in
    (x.1, give_packet_is setting w k (slice_get w.pool k) c.0, c.1)

-- something happens to an honest host
abbrev if_honest : Bool → World → Outcome → Outcome
if_honest true w x = x
if_honest false w x = (true, Ok w)

-- so it does
if_honest_is : (honest : Bool) (w : World) (x : Outcome) (P : Result World End → Type 0) → (x.0 ≡ true → P x.1) → (if_honest honest w x).0 ≡ true
    → IfHonest honest w (if_honest honest w x).1 (P (if_honest honest w x).1)
if_honest_is true w x P f q = f q
if_honest_is false w x P f q = refl

-- an input is handed to a node
abbrev hand : {S : Type 0} → Setting S → World → ℕ → Called → Outcome
hand setting w h x = (x.sure, after_node h x.after x.done (with_full_note h x.done.dropped w))

-- a node asks
abbrev node_ask : {S : Type 0} → Setting S → World → ℕ → Called → Outcome
node_ask setting w h x = (x.sure, after_node h x.after x.done w)

-- the world after the Olympus decided so
abbrev decided_world : {S : Type 0} → Scope S → World → ℕ → Decision → World
decided_world scope w h answer =
    let after = after_decision scope w.olympus h answer in
    with_note (tell.Decide h answer) (with_decided h 0 (after.decided h) (record w { olympus = after }))

-- the world after the Olympus gave a host up, or didn't
abbrev retired_world : World → ℕ → Retired → World
retired_world w h answer = with_note (tell.Retire h answer) (record w { olympus = after_retirement w.olympus h answer })

-- the world after the Olympus opened an epoch, or didn't
abbrev opened_world : {S : Type 0} → Scope S → World → Opened → Result World End
opened_world scope w answer =
    after_olympus (opened_view w.olympus answer) (opened_done scope w.olympus answer) (with_note (tell.Open answer) w)

-- what an event does
abbrev act : {S : Type 0} → Setting S → World → Plain → Outcome
act setting w (Input h payload) =
    if_honest (is_honest setting h) w (hand setting w h (take_input most setting.scope (w.nodes h) payload))
act setting w (Deliver k) = deliver setting k w
act setting w Flush = deliver_all setting (undelivered w) w
act setting w Exchange = deliver_all setting (honest_packets setting w) w
act setting w (Ask h) = if_honest (is_honest setting h) w (node_ask setting w h (ask most setting.scope (w.nodes h)))
act setting w (Bytes to frame) = give setting (with_injected to frame w) to None frame
act setting w (Say a to statement) = (true, sent_to_all a (said_record setting.scope a statement to) to w)
act setting w (Bundle a to packets) =
    (true, bundle_or_end w a to packets (find (λ k. not (nat_lt k (length w.pool))) packets))
act setting w (Steal a to statement) = (true, sent_to_all STRANGER (said_record setting.scope a statement to) to w)
act setting w Wedge = (
  true,
  after_olympus (wedged_view w.olympus w.olympus.wedged) (wedged_done setting.scope w.olympus w.olympus.wedged)
      (with_note (wedge_note w.olympus (not w.olympus.wedged)) w),
)
act setting w (Decide h) = (true, Ok (decided_world setting.scope w h (decision setting.scope w.olympus h)))
act setting w (Retire h) = (true, Ok (retired_world w h (retirement w.olympus h)))
act setting w Open = (true, opened_world setting.scope w (opening setting.scope w.olympus))

-- so it does
act_is : {S : Type 0} (setting : Setting S) (w : World) (event : Plain) → (act setting w event).0 ≡ true → Does setting w event (act setting w event).1
act_is setting w (Input h payload) q =
    let x = take_input most setting.scope (w.nodes h) payload in
    if_honest_is (is_honest setting h) w (hand setting w h x) (NodeIsHanded setting w h payload)
    (λ sure. record {
      after = x.after;
      done = x.done;
      takes = take_input_is most setting.scope (w.nodes h) payload sure;
      result_is = refl;
    }) q
act_is setting w (Deliver k) q = give_packet_is setting w k (slice_get w.pool k) q
act_is setting w Flush q = deliver_all_is setting (undelivered w) w q
act_is setting w Exchange q = deliver_all_is setting (honest_packets setting w) w q
act_is setting w (Ask h) q =
    let x = ask most setting.scope (w.nodes h) in
    if_honest_is (is_honest setting h) w (node_ask setting w h x) (NodeAsks setting w h)
    (λ sure. record {
      after = x.after;
      done = x.done;
      asks = ask_is most setting.scope (w.nodes h) sure;
      result_is = refl;
    }) q
act_is setting w (Bytes to frame) q =
    given_is setting (with_injected to frame w) (is_honest setting to) (to == olympus) to None frame q
act_is setting w (Say a to statement) q = refl
act_is setting w (Bundle a to packets) q = refl
act_is setting w (Steal a to statement) q = refl
act_is setting w Wedge q = record {
  after = wedged_view w.olympus w.olympus.wedged;
  did = not w.olympus.wedged;
  done = wedged_done setting.scope w.olympus w.olympus.wedged;
  wedges = wedged_is setting.scope w.olympus w.olympus.wedged;
  result_is = refl;
}
act_is setting w (Decide h) q = record {
  after = after_decision setting.scope w.olympus h (decision setting.scope w.olympus h);
  answer = decision setting.scope w.olympus h;
  decides = record { told = refl; after_is = refl };
  result_is = refl;
}
act_is setting w (Retire h) q = record {
  after = after_retirement w.olympus h (retirement w.olympus h);
  answer = retirement w.olympus h;
  retires = record { told = refl; after_is = refl };
  result_is = refl;
}
act_is setting w Open q = record {
  after = opened_view w.olympus (opening setting.scope w.olympus);
  answer = opening setting.scope w.olympus;
  done = opened_done setting.scope w.olympus (opening setting.scope w.olympus);
  opens = record { told = refl; with_it = opened_is setting.scope w.olympus (opening setting.scope w.olympus) };
  result_is = refl;
}

-- an event happens
abbrev happen : {S : Type 0} → Setting S → World → Plain → Outcome
happen setting w event = ((act setting w event).0, counted (act setting w event).1)

-- events happen one after another
abbrev pub replay : {S : Type 0} → Setting S → List Plain → World → Outcome
replay setting [] w = (true, Ok w)
replay setting (event ∷ events) w = chained (happen setting w event) (replay setting events)

-- so they do
pub replay_is : {S : Type 0} (setting : Setting S) (events : List Plain) (w : World) → (replay setting events w).0 ≡ true
    → HappenAll setting w events (replay setting events w).1
replay_is setting [] w q = refl
replay_is setting (event ∷ events) w q =
    let x = happen setting w event in
    let c = chained_is x (replay setting events) (λ next result. HappenAll setting next events result) (replay_is setting events) q in
    (x.1, record { mid = (act setting w event).1; does = act_is setting w event c.0; result_is = refl }, c.1)

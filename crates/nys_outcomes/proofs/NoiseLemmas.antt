-- Bytes that a party drops change nothing: a party that drops stays as it is and does nothing.
use Rattle.std.proofs.Common.{◌≡◌, ℕ, ◌+◌, ◌==◌, Bool, true, false, List, [], ◌∷◌, ◌++◌, Ok, Err, Some, None, refl, ap, sym, subst, ◌∙◌, append-nil}
use Rattle.std.specs.Prelude.{Option, Result}
use Rattle.std.proofs.Math.Path.{fun_ext}
use Rattle.std.proofs.lemmas.Bool.{eqb-true}
use Rattle.nys_agreement.proofs.TableLemmas.{put_case}
use Rattle.nys_rules.proofs.WorldFrames.{after_node_ok, after_olympus_ok, unless_forged_ok}
use Rattle.nys_rules.specs.Dropping.{verdict}
use Rattle.nys_rules.specs.Events.Plain.{Bytes}
use Rattle.nys_rules.specs.Forged.{makers_told}
use Rattle.nys_rules.specs.Handling.{AnswersTo, dropped_by, HandlesReading}
use Rattle.nys_rules.specs.Happening.{counted, IsGiven, NodeTakes, OlympusTakes, TakenBy, with_injected, with_take}
use Rattle.nys_rules.specs.Olympus.{HearsOf, HearsReading, OlympusView, olympus_verdict}
use Rattle.nys_rules.specs.Packets.{Done}
use Rattle.nys_rules.specs.Scope.{olympus, Scope}
use Rattle.nys_rules.specs.View.{View}
use Rattle.nys_rules.specs.World.{after_node, after_olympus, Setting, World}
use Rattle.nys_rules.specs.declared.cause.DropCause.{DropCause}
use Rattle.nys_rules.specs.declared.cause.DropCause.TheVariants.{Malformed}
use Rattle.nys_rules.specs.declared.notice.End.{End}
use Rattle.nys_rules.specs.declared.notice.Take.{Take}
use Rattle.nys_stmt.specs.declared.records.Record.{Record}
use Rattle.nys_wire.specs.Reading.{whole_record}
use Rattle.nys_wire.specs.declared.fault.WireFault.{WireFault}
use Rattle.nys_wire.specs.declared.fault.WireFault.TheVariants as wire
use Rattle.nys_outcomes.specs.Noise.{EndsDropped, NoiseChangesNothing}

-- ---- parties

-- what a party knows is as before, and all that is told is the drop
record Stays {V : Type 0} (v after : V) (done : Done) (cause : DropCause) : Type 0 where
  after_is : after ≡ v
  done_is : done ≡ dropped_by cause

-- where a drop is told, the party stays as it is
abbrev StaysIfDropped : {V : Type 0} → V → V → Done → Type 0
StaysIfDropped v after done = (cause : DropCause) → done.dropped ≡ Some cause → Stays v after done cause

-- where this drop is told, the party stays
stays_by : {V : Type 0} (v after : V) (done : Done) (cause : DropCause) → after ≡ v → done ≡ dropped_by cause
    → StaysIfDropped v after done
stays_by v after done cause same told other dropped =
    let causes : Some cause ≡ Some other = sym (ap (λ (d : Done). d.dropped) told) ∙ dropped in
    let one : cause ≡ other = cc in
    record { after_is = same; done_is = told ∙ ap dropped_by one }

-- a node that is given a record, by the cause for which it is dropped
answers_stays : {S : Type 0} (scope : Scope S) (v : View) (r : Record) (cause : Option DropCause) (after : View) (done : Done)
    → AnswersTo scope v r cause after done → StaysIfDropped v after done
answers_stays scope v r (Some cause) after done a = stays_by v after done cause a.0 a.1
answers_stays scope v r None after done a = λ cause dropped.
    let none : None ≡ Some cause = sym (ap (λ (d : Done). d.dropped) a.told) ∙ dropped in absurd (cc)

-- bytes that a node is given, by what they read as
reading_stays : {S : Type 0} (scope : Scope S) (v : View) (reading : Result Record WireFault) (after : View) (done : Done)
    → HandlesReading scope v reading after done → StaysIfDropped v after done
reading_stays scope v (Ok r) after done h = answers_stays scope v r (verdict scope v r) after done h
reading_stays scope v (Err (wire.At place kind)) after done h = stays_by v after done (Malformed place kind) h.0 h.1
reading_stays scope v (Err wire.NoMemory) after done h = absurd h

-- a record that the Olympus is given, by the cause for which it is dropped
hears_of_stays : {S : Type 0} (scope : Scope S) (o : OlympusView) (r : Record) (cause : Option DropCause) (after : OlympusView) (done : Done)
    → HearsOf scope o r cause after done → StaysIfDropped o after done
hears_of_stays scope o r (Some cause) after done a = stays_by o after done cause a.0 a.1
hears_of_stays scope o r None after done a = λ cause dropped.
    let none : None ≡ Some cause = sym (ap (λ (d : Done). d.dropped) a.1) ∙ dropped in absurd (cc)

-- bytes that the Olympus is given, by what they read as
hears_reading_stays : {S : Type 0} (scope : Scope S) (o : OlympusView) (reading : Result Record WireFault) (after : OlympusView) (done : Done)
    → HearsReading scope o reading after done → StaysIfDropped o after done
hears_reading_stays scope o (Ok r) after done h = hears_of_stays scope o r (olympus_verdict scope o r) after done h
hears_reading_stays scope o (Err (wire.At place kind)) after done h = stays_by o after done (Malformed place kind) h.0 h.1
hears_reading_stays scope o (Err wire.NoMemory) after done h = absurd h

-- ---- takings

-- the last of two lists that are one is one
last_once : {A : Type 0} (xs ys : List A) (x y : A) → xs ++ x ∷ [] ≡ ys ++ y ∷ [] → x ≡ y
last_once [] [] x y e = cc
last_once [] (b ∷ []) x y e = absurd (cc)
last_once [] (b ∷ c ∷ ys) x y e = absurd (cc)
last_once (a ∷ []) [] x y e = absurd (cc)
last_once (a ∷ c ∷ xs) [] x y e = absurd (cc)
last_once (a ∷ xs) (b ∷ ys) x y e =
    let tails : xs ++ x ∷ [] ≡ ys ++ y ∷ [] = cc in last_once xs ys x y tails

-- the cause for which the last taking is told to be dropped is its cause
ends_with : (takes : List Take) (taking : Take) (cause : DropCause) → EndsDropped (takes ++ taking ∷ []) cause
    → taking.dropped ≡ Some cause
ends_with takes taking cause ends =
    ap (λ (t : Take). t.dropped) (last_once takes ends.before taking ends.last ends.among) ∙ ends.dropped

-- ---- worlds

-- the world in which bytes were given and dropped, before the event is counted
abbrev dropped_in : (to : ℕ) → List ℕ → DropCause → World → World
dropped_in to frame cause w = with_take to None (Some cause) (with_injected to frame w)

-- a node that stays leaves the world as it is but for the taking
node_stays : (g : ℕ) (frame : List ℕ) (cause : DropCause) (w next : World) → after_node g (w.nodes g) (dropped_by cause) (dropped_in g frame cause w) ≡ Ok next
    → next ≡ dropped_in g frame cause w
node_stays g frame cause w next e =
    after_node_ok g (w.nodes g) (dropped_by cause) (dropped_in g frame cause w) next e
    ∙ ap (λ nodes. record (dropped_in g frame cause w) { nodes = nodes; ledger = w.ledger ++ []; pool = w.pool ++ [] })
    (fun_ext (λ x. put_case (λ v. v ≡ w.nodes x) w.nodes g (w.nodes g) x (λ here. ap w.nodes (sym here)) (λ other. refl)))
    ∙ ap (λ ledger. record (dropped_in g frame cause w) { ledger = ledger; pool = w.pool ++ [] }) (append-nil w.ledger)
    ∙ ap (λ pool. record (dropped_in g frame cause w) { pool = pool }) (append-nil w.pool)

-- an Olympus that stays leaves the world as it is but for the taking
olympus_stays : (frame : List ℕ) (cause : DropCause) (w next : World) → after_olympus w.olympus (dropped_by cause) (dropped_in olympus frame cause w) ≡ Ok next
    → next ≡ dropped_in olympus frame cause w
olympus_stays frame cause w next e =
    after_olympus_ok w.olympus (dropped_by cause) (dropped_in olympus frame cause w) next e
    ∙ ap (λ ledger. record (dropped_in olympus frame cause w) { ledger = ledger; pool = w.pool ++ [] }) (append-nil w.ledger)
    ∙ ap (λ pool. record (dropped_in olympus frame cause w) { pool = pool }) (append-nil w.pool)

-- a node that takes bytes and drops them
node_drops : {S : Type 0} (setting : Setting S) (w next : World) (g : ℕ) (frame : List ℕ) (cause : DropCause)
    → NodeTakes setting (with_injected g frame w) g None frame (Ok next) → EndsDropped next.takes cause
    → next ≡ dropped_in g frame cause w
node_drops setting w next g frame cause t ends =
    let given = with_injected g frame w in
    let goes = unless_forged_ok setting given g t.done.statement (makers_told t.done)
    (after_node g t.after t.done (with_take g None t.done.dropped given)) next t.ends in
    let took = after_node_ok g t.after t.done (with_take g None t.done.dropped given) next goes.1 in
    let dropped = ends_with w.takes (record { event = w.events; to = g; packet = None; dropped = t.done.dropped }) cause
    (subst (λ (z : World). EndsDropped z.takes cause) took ends) in
    let stays = reading_stays setting.scope (w.nodes g) (whole_record frame) t.after t.done t.handles cause dropped in
    node_stays g frame cause w next
    (ap (λ (d : Done). after_node g (w.nodes g) d (with_take g None d.dropped given)) (sym stays.done_is)
    ∙ ap (λ v. after_node g v t.done (with_take g None t.done.dropped given)) (sym stays.after_is) ∙ goes.1)

-- the Olympus that takes bytes and drops them
olympus_drops : {S : Type 0} (setting : Setting S) (w next : World) (frame : List ℕ) (cause : DropCause)
    → OlympusTakes setting (with_injected olympus frame w) None frame (Ok next) → EndsDropped next.takes cause
    → next ≡ dropped_in olympus frame cause w
olympus_drops setting w next frame cause t ends =
    let given = with_injected olympus frame w in
    let goes = unless_forged_ok setting given olympus t.done.statement (makers_told t.done)
    (after_olympus t.after t.done (with_take olympus None t.done.dropped given)) next t.ends in
    let took = after_olympus_ok t.after t.done (with_take olympus None t.done.dropped given) next goes.1 in
    let dropped = ends_with w.takes (record { event = w.events; to = olympus; packet = None; dropped = t.done.dropped }) cause
    (subst (λ (z : World). EndsDropped z.takes cause) took ends) in
    let stays = hears_reading_stays setting.scope w.olympus (whole_record frame) t.after t.done t.hears cause dropped in
    olympus_stays frame cause w next
    (ap (λ (d : Done). after_olympus w.olympus d (with_take olympus None d.dropped given)) (sym stays.done_is)
    ∙ ap (λ o. after_olympus o t.done (with_take olympus None t.done.dropped given)) (sym stays.after_is) ∙ goes.1)

-- whoever takes bytes and drops them
taker_drops : {S : Type 0} (setting : Setting S) (w next : World) (at_olympus : Bool) (to : ℕ) (frame : List ℕ) (cause : DropCause)
    → (at_olympus ≡ true → to ≡ olympus) → TakenBy setting (with_injected to frame w) true at_olympus to None frame (Ok next)
    → EndsDropped next.takes cause → next ≡ dropped_in to frame cause w
taker_drops setting w next false to frame cause is t ends = node_drops setting w next to frame cause t ends
taker_drops setting w next true to frame cause is t ends =
    let e = is refl in
    subst (λ z. OlympusTakes setting (with_injected z frame w) None frame (Ok next) → next ≡ dropped_in z frame cause w) (sym e)
    (λ given. olympus_drops setting w next frame cause given ends) t

-- what an event that goes on did before it was counted
uncounted : (mid : Result World End) (next : World) → Ok next ≡ counted mid
    → (before : World) × (mid ≡ Ok before) × (next ≡ record before { events = before.events + 1 })
uncounted (Ok w) next e = (w, refl, cc)
uncounted (Err end) next e = absurd (cc)

-- bytes that are dropped change nothing else
pub noise_changes_nothing : {S : Type 0} (setting : Setting S) → NoiseChangesNothing setting
noise_changes_nothing setting w next to frame cause drops =
    let mid = uncounted drops.happens.mid next drops.happens.result_is in
    let given = subst (IsGiven setting (with_injected to frame w) to None frame) mid.1 drops.happens.does in
    let honest = subst (λ b. TakenBy setting (with_injected to frame w) b (to == olympus) to None frame (Ok mid.0)) drops.honest given in
    let ends = subst (λ (z : World). EndsDropped z.takes cause) mid.2 drops.told in
    let is = taker_drops setting w mid.0 (to == olympus) to frame cause (eqb-true to olympus) honest ends in
    mid.2 ∙ ap (λ (z : World). record z { events = z.events + 1 }) is

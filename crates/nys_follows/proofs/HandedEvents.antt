-- What a schedule hands to an honest host is what its node keeps, whatever events make the world.
use Rattle.std.proofs.Common.{◌≡◌, ℕ, ◌+◌, ◌<◌, ◌≤◌, ◌==◌, Bool, true, false, ◌&&◌, ◌||◌, not, ℤ, List, [], ◌∷◌, ◌++◌, length, Ok, Err, refl, ap, sym, subst, ◌∙◌, inl, inr, arith, append-nil, append_assoc, length-append}
use Rattle.std.specs.Prelude.{All, Result, if◌then◌else◌, map, nat_lt}
use Rattle.std.specs.List.{enumerate_from, flat_map, list_any}
use Rattle.std.proofs.lemmas.Bool.{cases_eq, eq-eqb, ne_eqb}
use Rattle.std.proofs.lemmas.List.Folds.{list_any-append}
use Rattle.std.proofs.lemmas.List.Elements.{All-append, All-cons, All-head, All-nil, All-tail, All-weaker}
use Rattle.nys_agreement.specs.Alone.{inputs_in}
use Rattle.nys_agreement.specs.Claims.{IsPrefixOf}
use Rattle.nys_source.specs.Contents.{contents_taken}
use Rattle.nys_rules.specs.declared.notice.End.{End}
use Rattle.nys_rules.specs.declared.notice.Note.{Note}
use Rattle.nys_rules.specs.declared.notice.NoteKind.{NoteKind}
use Rattle.nys_rules.specs.Events.{Plain}
use Rattle.nys_rules.specs.Events.Plain.{Input, Deliver, Flush, Exchange, Ask, Bytes, Say, Bundle, Steal, Wedge, Decide, Retire, Open}
use Rattle.nys_rules.specs.Happening.{HappenAll, Happens, Then}
use Rattle.nys_rules.specs.Spelling.{printed_run}
use Rattle.nys_rules.specs.View.{entering, first_view, with_links}
use Rattle.nys_rules.specs.World.{fresh_world, is_honest, Setting, World}
use Rattle.nys_told.specs.Handed.{handed_by, handed_to, tells_full}
use Rattle.nys_told.proofs.EventNotes.{full_kinds, happens_notes, IsFullWhere}
use Rattle.nys_told.proofs.NoteLemmas.{noted_in}
use Rattle.nys_follows.specs.Promises.{inputs_kept, IsHonestHost, TakesInOrder}
use Rattle.nys_follows.specs.Scenario.{IsScenario}
use Rattle.nys_follows.proofs.HandedSteps.{events_hand, handed_then}
use Rattle.nys_follows.proofs.HandedWorlds.{inputs_in_order}

-- the notes of events before the n-th
pub record IsBefore (n : ℕ) (told : Note) : Type 0 where
  pub early : told.event < n

-- no note of an earlier event tells of the n-th
none_before : (n h : ℕ) (notes : List Note) → All (IsBefore n) notes → list_any (tells_full n h) notes ≡ false
none_before n h [] all = refl
none_before n h (told ∷ notes) all =
    let early = (All-head (IsBefore n) told notes all).early in
    rw (ne_eqb told.event n (λ same. omega (arith, same, early))) (none_before n h notes (All-tail (IsBefore n) told notes all))

-- nor does one of a later event
none_later : (n h late : ℕ) (kinds : List NoteKind) → n < late → list_any (tells_full n h) (map (noted_in late) kinds) ≡ false
none_later n h late [] before = refl
none_later n h late (kind ∷ kinds) before =
    rw (ne_eqb late n (λ same. omega (arith, same, before))) (none_later n h late kinds before)

-- what an input hands, by whether its queue is told to be full
abbrev given : (g h : ℕ) → List ℤ → Bool → List (List ℤ)
given g h payload full = if g == h && not full then payload ∷ [] else []

-- no more than that
or_false : (b c : Bool) → c ≡ false → (b || c) ≡ b
or_false true c e = refl
or_false false c e = e

-- what an event hands doesn't change by notes of a later one
same_by : (notes : List Note) (h n late : ℕ) (kinds : List NoteKind) (event : Plain) → n < late
    → handed_by (notes ++ map (noted_in late) kinds) h n event ≡ handed_by notes h n event
same_by notes h n late kinds (Input g payload) before =
    ap (given g h payload)
    (list_any-append (tells_full n h) notes (map (noted_in late) kinds)
    ∙ or_false (list_any (tells_full n h) notes) _ (none_later n h late kinds before))
same_by notes h n late kinds (Deliver k) before = refl
same_by notes h n late kinds Flush before = refl
same_by notes h n late kinds Exchange before = refl
same_by notes h n late kinds (Ask x) before = refl
same_by notes h n late kinds (Bytes to frame) before = refl
same_by notes h n late kinds (Say a to statement) before = refl
same_by notes h n late kinds (Bundle a to packets) before = refl
same_by notes h n late kinds (Steal a to statement) before = refl
same_by notes h n late kinds Wedge before = refl
same_by notes h n late kinds (Decide x) before = refl
same_by notes h n late kinds (Retire x) before = refl
same_by notes h n late kinds Open before = refl

-- what events hand whose first has this number
abbrev handed_from : List Note → (h n : ℕ) → List Plain → List (List ℤ)
handed_from notes h n events = flat_map (λ x. handed_by notes h x.0 x.1) (enumerate_from n events)

-- what events hand doesn't change by notes of a later one
same_from : (notes : List Note) (h n late : ℕ) (kinds : List NoteKind) (events : List Plain) → n + length events ≤ late
    → handed_from (notes ++ map (noted_in late) kinds) h n events ≡ handed_from notes h n events
same_from notes h n late kinds [] before = refl
same_from notes h n late kinds (event ∷ events) before =
    ap (λ xs. xs ++ handed_from (notes ++ map (noted_in late) kinds) h (n + 1) events)
    (same_by notes h n late kinds event (omega (arith, before)))
    ∙ ap (λ xs. handed_by notes h n event ++ xs) (same_from notes h (n + 1) late kinds events (omega (arith, before)))

-- the last event hands what it hands behind what those before it do
handed_push : (notes : List Note) (h n : ℕ) (events : List Plain) (event : Plain)
    → handed_from notes h n (events ++ event ∷ []) ≡ handed_from notes h n events ++ handed_by notes h (n + length events) event
handed_push notes h n [] event =
    let same : n ≡ n + 0 = omega arith in
    append-nil (handed_by notes h n event) ∙ ap (λ m. handed_by notes h m event) same
handed_push notes h n (first ∷ events) event =
    let same : n + 1 + length events ≡ n + length (first ∷ events) = omega arith in
    ap (λ xs. handed_by notes h n first ++ xs)
    (handed_push notes h (n + 1) events event
    ∙ ap (λ m. handed_from notes h (n + 1) events ++ handed_by notes h m event) same)
    ∙ sym (append_assoc (handed_by notes h n first) (handed_from notes h (n + 1) events) _)

-- the note of a full queue tells so
told_full : (h n : ℕ) (room : Bool) → list_any (tells_full n h) (map (noted_in n) (full_kinds h room)) ≡ not room
told_full h n true = refl
told_full h n false = rw (eq-eqb n n refl, eq-eqb h h refl) refl

-- not not
twice_not : (b : Bool) → not (not b) ≡ b
twice_not true = refl
twice_not false = refl

-- what an event hands by its notes is what it hands by the room of the queue
same_then : {S : Type 0} (setting : Setting S) (w : World) (event : Plain) (kinds : List NoteKind) (n h : ℕ)
    → IsHonestHost setting h → All (IsBefore n) w.notes → IsFullWhere setting w event kinds
    → handed_by (w.notes ++ map (noted_in n) kinds) h n event ≡ handed_then event w h
same_then {S} setting w (Input g payload) kinds n h one early full = elim (cases_eq g h) [
  | inl same ↦ ap (λ (b : Bool). if g == h && b then payload ∷ [] else []) (here (subst (λ x. is_honest setting x ≡ true → Kinds x) same full))
  | inr other ↦ rw (ne_eqb g h other) refl
]
  where
    room : Bool
    room = nat_lt (length (w.nodes h).waiting) 1024

    Kinds : ℕ → Type 0
    Kinds x = kinds ≡ full_kinds x (nat_lt (length (w.nodes x).waiting) 1024)

    here : (is_honest setting h ≡ true → Kinds h) → not (list_any (tells_full n h) (w.notes ++ map (noted_in n) kinds)) ≡ room
    here is =
        ap not (list_any-append (tells_full n h) w.notes (map (noted_in n) kinds)
        ∙ ap (λ b. b || list_any (tells_full n h) (map (noted_in n) kinds)) (none_before n h w.notes early)
        ∙ ap (λ ks. list_any (tells_full n h) (map (noted_in n) ks)) (is one.honest) ∙ told_full h n room)
        ∙ twice_not room
same_then setting w (Deliver k) kinds n h one early full = refl
same_then setting w Flush kinds n h one early full = refl
same_then setting w Exchange kinds n h one early full = refl
same_then setting w (Ask x) kinds n h one early full = refl
same_then setting w (Bytes to frame) kinds n h one early full = refl
same_then setting w (Say a to statement) kinds n h one early full = refl
same_then setting w (Bundle a to packets) kinds n h one early full = refl
same_then setting w (Steal a to statement) kinds n h one early full = refl
same_then setting w Wedge kinds n h one early full = refl
same_then setting w (Decide x) kinds n h one early full = refl
same_then setting w (Retire x) kinds n h one early full = refl
same_then setting w Open kinds n h one early full = refl

-- events made the world, which has counted them, has notes of them alone, and keeps what they handed
pub record HasTaken {S : Type 0} (setting : Setting S) (events : List Plain) (w : World) : Type 0 where
  pub happen : HappenAll setting (fresh_world setting) events (Ok w)
  pub count : w.events ≡ length events
  pub early : All (IsBefore (length events)) w.notes
  pub same : (h : ℕ) → IsHonestHost setting h → inputs_kept w h ≡ handed_to w.notes h events

-- one event more
happen_push : {S : Type 0} (setting : Setting S) (w mid next : World) (events : List Plain) (event : Plain)
    → HappenAll setting w events (Ok mid) → Happens setting mid event (Ok next)
    → HappenAll setting w (events ++ event ∷ []) (Ok next)
happen_push setting w mid next [] event happen happens =
    let same : mid ≡ w = cc in (Ok next, subst (λ x. Happens setting x event (Ok next)) same happens, refl)
happen_push {S} setting w mid next (first ∷ events) event happen happens =
    by happen.0 happen.1 happen.2 (λ x rest. happen_push setting x mid next events event rest happens)
  where
    by : (result : Result World End) → Happens setting w first result
        → Then result (Ok mid) (λ x. HappenAll setting x events (Ok mid))
        → ((x : World) → HappenAll setting x events (Ok mid) → HappenAll setting x (events ++ event ∷ []) (Ok next))
        → HappenAll setting w (first ∷ events ++ event ∷ []) (Ok next)
    by (Ok x) one rest more = (Ok x, one, more x rest)
    by (Err end) one rest more = absurd (cc)

-- notes of the last event are early for the next
early_now : (n : ℕ) (kinds : List NoteKind) → All (IsBefore (n + 1)) (map (noted_in n) kinds)
early_now n [] = All-nil (IsBefore (n + 1))
early_now n (kind ∷ kinds) =
    All-cons (IsBefore (n + 1)) (noted_in n kind) (map (noted_in n) kinds) (record { early = omega arith }) (early_now n kinds)

-- what an event hands is kept
takes_more : {S : Type 0} (setting : Setting S) → IsScenario setting → (events : List Plain) (w next : World) (event : Plain)
    → HasTaken setting events w → Happens setting w event (Ok next) → HasTaken setting (events ++ event ∷ []) next
takes_more setting asked events w next event k happens =
    let noted = happens_notes setting w next event happens in
    let kinds = noted.noted.kinds in
    let n = length events in
    let start : n ≡ 0 + n = omega arith in
    let long : length (events ++ event ∷ []) ≡ n + 1 = length-append events (event ∷ []) in
    let notes : next.notes ≡ w.notes ++ map (noted_in n) kinds = noted.noted.notes ∙ ap (λ m. w.notes ++ map (noted_in m) kinds) k.count in
    record {
      happen = happen_push setting (fresh_world setting) w next events event k.happen happens;
      count = noted.count ∙ ap (λ m. m + 1) k.count ∙ sym long;
      early = subst (λ m. All (IsBefore m) next.notes) (sym long)
          (subst (All (IsBefore (n + 1))) (sym notes)
          (All-append (IsBefore (n + 1)) w.notes (map (noted_in n) kinds)
          (All-weaker (IsBefore n) (IsBefore (n + 1)) (λ told is. let low = is.early in record { early = omega (arith, low) }) w.notes k.early)
          (early_now n kinds)));
      same = λ h one.
          events_hand setting asked events w k.happen event next happens h one
          ∙ ap (λ xs. xs ++ handed_then event w h) (k.same h one)
          ∙ ap (λ xs. handed_to w.notes h events ++ xs) (sym (same_then setting w event kinds n h one k.early noted.noted.full))
          ∙ ap (λ xs. xs ++ handed_by (w.notes ++ map (noted_in n) kinds) h n event)
          (sym (same_from w.notes h 0 n kinds events (omega arith)))
          ∙ ap (λ m. handed_from (w.notes ++ map (noted_in n) kinds) h 0 events
          ++ handed_by (w.notes ++ map (noted_in n) kinds) h m event) start
          ∙ sym (handed_push (w.notes ++ map (noted_in n) kinds) h 0 events event)
          ∙ ap (λ ns. handed_to ns h (events ++ event ∷ [])) (sym notes);
    }

-- so are those that events hand
take_all : {S : Type 0} (setting : Setting S) → IsScenario setting → (before events : List Plain) (w next : World)
    → HasTaken setting before w → HappenAll setting w events (Ok next) → HasTaken setting (before ++ events) next
take_all setting asked before [] w next k happen =
    let same : next ≡ w = cc in
    subst (λ x. HasTaken setting (before ++ []) x) (sym same) (subst (λ es. HasTaken setting es w) (sym (append-nil before)) k)
take_all {S} setting asked before (event ∷ events) w next k happen =
    by happen.0 happen.1 happen.2 (λ x rest more. take_all setting asked (before ++ event ∷ []) events x next more rest)
  where
    by : (result : Result World End) → Happens setting w event result
        → Then result (Ok next) (λ x. HappenAll setting x events (Ok next))
        → ((x : World) → HappenAll setting x events (Ok next) → HasTaken setting (before ++ event ∷ []) x
        → HasTaken setting ((before ++ event ∷ []) ++ events) next)
        → HasTaken setting (before ++ event ∷ events) next
    by (Ok x) one rest later =
        subst (λ es. HasTaken setting es next) (append_assoc before (event ∷ []) events)
        (later x rest (takes_more setting asked before w x event k one))
    by (Err end) one rest later = absurd (cc)

-- nothing is handed at first
first_taken : {S : Type 0} (setting : Setting S) → HasTaken setting [] (fresh_world setting)
unfolding fresh_world first_view entering with_links
first_taken setting = record {
  happen = refl;
  count = refl;
  early = All-nil (IsBefore 0);
  same = λ h one. refl;
}

-- an honest host takes what events hand to it, in order
pub inputs_given : {S : Type 0} (setting : Setting S) → IsScenario setting → (events : List Plain) (w : World)
    → HappenAll setting (fresh_world setting) events (Ok w) → (h : ℕ) → IsHonestHost setting h → TakesInOrder setting w events h
inputs_given setting asked events w happen h one =
    let kept = (take_all setting asked [] events (fresh_world setting) w (first_taken setting) happen).same h one in
    record { kept = kept; taken = subst (IsPrefixOf (inputs_in (contents_taken setting.scope.rules (printed_run setting.scope w) h))) kept (inputs_in_order setting asked events w happen h one) }

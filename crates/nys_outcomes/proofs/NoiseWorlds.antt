-- What happens in a world happens in the world with noise on its way, and comes to the same with the noise.
use Rattle.std.proofs.Common.{◌≡◌, ℕ, ◌+◌, ◌≤◌, ◌==◌, Bool, true, false, List, [], ◌∷◌, ◌++◌, length, map, Ok, Err, Some, None, refl, ap, sym, subst, ◌∙◌, inl, inr, arith}
use Rattle.std.specs.Prelude.{drop, if◌then◌else◌, nat_lt, Option, Result, slice_get, take}
use Rattle.std.proofs.lemmas.List.{append_assoc, drop-append-le, length-append, map-append, take-append-le}
use Rattle.nys_agreement.specs.Alone.{step_of}
use Rattle.nys_bytes.specs.declared.content.Content.{Content}
use Rattle.nys_source.specs.Tables.{put}
use Rattle.nys_stmt.specs.declared.statement.Statement.{Statement}
use Rattle.nys_rules.specs.declared.cause.DropCause.{DropCause}
use Rattle.nys_rules.specs.declared.notice.End.{End}
use Rattle.nys_rules.specs.declared.notice.End.TheVariants.{PoolFull}
use Rattle.nys_rules.specs.declared.notice.NoteKind.{NoteKind}
use Rattle.nys_rules.specs.Forged.{Entry, makers_told, with_made}
use Rattle.nys_rules.specs.Happening.{Delivers, DeliversAll, GivesPacket, NodeTakes, OlympusTakes, TakenBy, TellsOf, Then, UnlessForged, with_injected, with_take}
use Rattle.nys_rules.specs.Olympus.{OlympusView}
use Rattle.nys_rules.specs.Packets.{Done, Sent}
use Rattle.nys_rules.specs.Scope.{olympus}
use Rattle.nys_rules.specs.View.{View}
use Rattle.nys_rules.specs.World.{after_node, after_olympus, is_honest, is_too_much, pool_bytes, Setting, with_decided, with_grown, with_note, with_packets, with_slot, World}
use Rattle.nys_outcomes.specs.Noise.{later_end, later_given, later_note, later_take, Noise, outcome_with_noise, told_at, with_noise}

-- the world has told as much as was told before the noise
pub record IsPast (noise : Noise) (w : World) : Type 0 where
  pub injected : noise.injected ≤ length w.injected
  pub takes : noise.takes ≤ length w.takes
  pub notes : noise.notes ≤ length w.notes

-- so has the world that is the outcome, if one is
abbrev pub EndsPast : Noise → Result World End → Type 0
EndsPast noise (Ok w) = IsPast noise w
EndsPast noise (Err end) = Unit {0}

-- what may come of a world may come of it with the noise on its way, and comes to the same with the noise
abbrev pub StandsNoise : Noise → World → (World → Result World End → Type 0) → Type 0
StandsNoise noise w May = (result : Result World End) → May w result
    → May (with_noise noise w) (outcome_with_noise noise result) × EndsPast noise result

-- ---- what is told

-- what is told behind the noise is told of the event one later
told_more : {A : Type 0} (n : ℕ) (told : List A) (later : A → A) (xs ys : List A) → n ≤ length xs
    → told_at n told later (xs ++ ys) ≡ told_at n told later xs ++ map later ys
told_more n told later xs ys within =
    let front = take-append-le n xs ys within in
    let back = drop-append-le n xs ys within in
    ap (λ f. f ++ told ++ map later (drop n (xs ++ ys))) front
    ∙ ap (λ b. take n xs ++ told ++ map later b) back
    ∙ ap (λ b. take n xs ++ told ++ b) (map-append later (drop n xs) ys)
    ∙ sym (append_assoc (take n xs ++ told) (map later (drop n xs)) (map later ys))

-- what is appended makes a list no shorter
still_within : {A : Type 0} (n : ℕ) (xs ys : List A) → n ≤ length xs → n ≤ length (xs ++ ys)
still_within n xs ys within = let size = length-append xs ys in omega (arith, size, within)

-- a note
pub note_with : (noise : Noise) (w : World) (kind : NoteKind) → IsPast noise w
    → with_note kind (with_noise noise w) ≡ with_noise noise (with_note kind w)
note_with noise w kind past =
    ap (λ notes. record (with_noise noise w) { notes = notes })
    (sym (told_more noise.notes [] later_note w.notes (record { event = w.events; kind = kind } ∷ []) past.notes))

pub note_past : (noise : Noise) (w : World) (kind : NoteKind) → IsPast noise w → IsPast noise (with_note kind w)
note_past noise w kind past = record {
  injected = past.injected;
  takes = past.takes;
  notes = still_within noise.notes w.notes (record { event = w.events; kind = kind } ∷ []) past.notes;
}

-- a taking
take_with : (noise : Noise) (w : World) (to : ℕ) (k : Option ℕ) (dropped : Option DropCause) → IsPast noise w
    → with_take to k dropped (with_noise noise w) ≡ with_noise noise (with_take to k dropped w)
take_with noise w to k dropped past =
    ap (λ takes. record (with_noise noise w) { takes = takes })
    (sym (told_more noise.takes (noise.taking ∷ []) later_take w.takes
    (record { event = w.events; to = to; packet = k; dropped = dropped } ∷ []) past.takes))

take_past : (noise : Noise) (w : World) (to : ℕ) (k : Option ℕ) (dropped : Option DropCause) → IsPast noise w
    → IsPast noise (with_take to k dropped w)
take_past noise w to k dropped past = record {
  injected = past.injected;
  takes = still_within noise.takes w.takes (record { event = w.events; to = to; packet = k; dropped = dropped } ∷ []) past.takes;
  notes = past.notes;
}

-- bytes that an event gave
pub injected_with : (noise : Noise) (w : World) (to : ℕ) (frame : List ℕ) → IsPast noise w
    → with_injected to frame (with_noise noise w) ≡ with_noise noise (with_injected to frame w)
injected_with noise w to frame past =
    ap (λ injected. record (with_noise noise w) { injected = injected })
    (sym (told_more noise.injected (noise.given ∷ []) later_given w.injected
    (record { event = w.events; to = to; frame = frame } ∷ []) past.injected))

pub injected_past : (noise : Noise) (w : World) (to : ℕ) (frame : List ℕ) → IsPast noise w
    → IsPast noise (with_injected to frame w)
injected_past noise w to frame past = record {
  injected = still_within noise.injected w.injected (record { event = w.events; to = to; frame = frame } ∷ []) past.injected;
  takes = past.takes;
  notes = past.notes;
}

-- ---- what parties do

-- packets
pub packets_with_noise : (noise : Noise) (packets : List Sent) (w : World)
    → with_packets packets (with_noise noise w) ≡ outcome_with_noise noise (with_packets packets w)
packets_with_noise noise [] w = refl
packets_with_noise noise (p ∷ packets) w =
    by (is_too_much w.pool p) (packets_with_noise noise packets (record w { pool = w.pool ++ p ∷ [] }))
  where
    grown : World
    grown = record w { pool = w.pool ++ p ∷ [] }

    by : (b : Bool) → with_packets packets (with_noise noise grown) ≡ outcome_with_noise noise (with_packets packets grown)
        → (if b then Err (PoolFull (w.events + 1) (length w.pool) (pool_bytes w.pool)) else with_packets packets (with_noise noise grown))
        ≡ outcome_with_noise noise (if b then Err (PoolFull w.events (length w.pool) (pool_bytes w.pool)) else with_packets packets grown)
    by true rest = refl
    by false rest = rest

pub packets_past : (noise : Noise) (packets : List Sent) (w : World) → IsPast noise w → EndsPast noise (with_packets packets w)
packets_past noise [] w past = past
packets_past noise (p ∷ packets) w past =
    by (is_too_much w.pool p) (packets_past noise packets grown (record { injected = past.injected; takes = past.takes; notes = past.notes }))
  where
    grown : World
    grown = record w { pool = w.pool ++ p ∷ [] }

    by : (b : Bool) → EndsPast noise (with_packets packets grown)
        → EndsPast noise (if b then Err (PoolFull w.events (length w.pool) (pool_bytes w.pool)) else with_packets packets grown)
    by true rest = tt
    by false rest = rest

-- a slot that is logged
slot_with : (noise : Noise) (h slot : ℕ) (entry : Option Content) (w : World)
    → with_slot h slot entry (with_noise noise w) ≡ with_noise noise (with_slot h slot entry w)
slot_with noise h slot None w = refl
slot_with noise h slot (Some content) w = by (nat_lt slot (w.longest h))
  where
    grown : World
    grown = record w { longest = put w.longest h (slot + 1); run = w.run ++ step_of h content ∷ [] }

    by : (b : Bool) → (if b then with_noise noise w else with_noise noise grown) ≡ with_noise noise (if b then w else grown)
    by true = refl
    by false = refl

slot_past : (noise : Noise) (h slot : ℕ) (entry : Option Content) (w : World) → IsPast noise w
    → IsPast noise (with_slot h slot entry w)
slot_past noise h slot None w past = past
slot_past noise h slot (Some content) w past = by (nat_lt slot (w.longest h))
  where
    grown : World
    grown = record w { longest = put w.longest h (slot + 1); run = w.run ++ step_of h content ∷ [] }

    by : (b : Bool) → IsPast noise (if b then w else grown)
    by true = past
    by false = record { injected = past.injected; takes = past.takes; notes = past.notes }

-- slots that a node logged
grown_with : (noise : Noise) (v : View) (grew : List (ℕ × ℕ)) (w : World)
    → with_grown v grew (with_noise noise w) ≡ with_noise noise (with_grown v grew w)
grown_with noise v [] w = refl
grown_with noise v (x ∷ grew) w =
    let entry = slice_get (v.logs x.0) x.1 in
    ap (with_grown v grew) (slot_with noise x.0 x.1 entry w) ∙ grown_with noise v grew (with_slot x.0 x.1 entry w)

grown_past : (noise : Noise) (v : View) (grew : List (ℕ × ℕ)) (w : World) → IsPast noise w → IsPast noise (with_grown v grew w)
grown_past noise v [] w past = past
grown_past noise v (x ∷ grew) w past =
    let entry = slice_get (v.logs x.0) x.1 in
    grown_past noise v grew (with_slot x.0 x.1 entry w) (slot_past noise x.0 x.1 entry w past)

-- entries that the Olympus decided
pub decided_with : (noise : Noise) (h slot : ℕ) (contents : List Content) (w : World)
    → with_decided h slot contents (with_noise noise w) ≡ with_noise noise (with_decided h slot contents w)
decided_with noise h slot [] w = refl
decided_with noise h slot (content ∷ contents) w =
    ap (with_decided h (slot + 1) contents) (slot_with noise h slot (Some content) w)
    ∙ decided_with noise h (slot + 1) contents (with_slot h slot (Some content) w)

pub decided_past : (noise : Noise) (h slot : ℕ) (contents : List Content) (w : World) → IsPast noise w
    → IsPast noise (with_decided h slot contents w)
decided_past noise h slot [] w past = past
decided_past noise h slot (content ∷ contents) w past =
    decided_past noise h (slot + 1) contents (with_slot h slot (Some content) w) (slot_past noise h slot (Some content) w past)

-- the world in which a node has a new view, and what it made is in the ledger
abbrev acted : ℕ → View → Done → World → World
acted g v done w = record w { nodes = put w.nodes g v; ledger = with_made g done.acts.made w.ledger }

-- a node that did something
pub node_with : (noise : Noise) (g : ℕ) (v : View) (done : Done) (w : World)
    → after_node g v done (with_noise noise w) ≡ outcome_with_noise noise (after_node g v done w)
unfolding after_node
node_with noise g v done w =
    ap (with_packets done.acts.packets) (grown_with noise v done.acts.grew (acted g v done w))
    ∙ packets_with_noise noise done.acts.packets (with_grown v done.acts.grew (acted g v done w))

pub node_past : (noise : Noise) (g : ℕ) (v : View) (done : Done) (w : World) → IsPast noise w
    → EndsPast noise (after_node g v done w)
unfolding after_node
node_past noise g v done w past =
    packets_past noise done.acts.packets (with_grown v done.acts.grew (acted g v done w))
    (grown_past noise v done.acts.grew (acted g v done w)
    (record { injected = past.injected; takes = past.takes; notes = past.notes }))

-- the Olympus that did something
pub olympus_with : (noise : Noise) (o : OlympusView) (done : Done) (w : World)
    → after_olympus o done (with_noise noise w) ≡ outcome_with_noise noise (after_olympus o done w)
unfolding after_olympus
olympus_with noise o done w =
    packets_with_noise noise done.acts.packets (record w { olympus = o; ledger = with_made olympus done.acts.made w.ledger })

pub olympus_past : (noise : Noise) (o : OlympusView) (done : Done) (w : World) → IsPast noise w
    → EndsPast noise (after_olympus o done w)
unfolding after_olympus
olympus_past noise o done w past =
    packets_past noise done.acts.packets (record w { olympus = o; ledger = with_made olympus done.acts.made w.ledger })
    (record { injected = past.injected; takes = past.takes; notes = past.notes })

-- ---- takings

-- what the end tells of a statement that wasn't made
tells_with : (ledger : List Entry) (event maker taker : ℕ) (statement : Statement) (end : End)
    → TellsOf ledger event maker taker statement end → TellsOf ledger (event + 1) maker taker statement (later_end end)
tells_with ledger event maker taker statement end tells = elim tells [
  | inl x ↦ inl (x.0, ap later_end x.1)
  | inr x ↦ inr (x.0, x.1, ap later_end x.2)
]

-- the world ends by a forgery in the event one later, or goes on with the noise
unless_with : {S : Type 0} (noise : Noise) (setting : Setting S) (w : World) (taker : ℕ) (said : Option Statement) (makers : List ℕ)
    (next result : Result World End) → UnlessForged setting w taker said makers next result
    → UnlessForged setting (with_noise noise w) taker said makers (outcome_with_noise noise next) (outcome_with_noise noise result)
unless_with noise setting w taker None makers next result goes = ap (outcome_with_noise noise) goes
unless_with noise setting w taker (Some statement) makers next result goes = elim goes [
  | inl x ↦ inl (x.0, ap (outcome_with_noise noise) x.1)
  | inr x ↦ inr (
    x.0,
    later_end x.1,
    x.2,
    tells_with w.ledger w.events x.0 taker statement x.1 x.3,
    ap (outcome_with_noise noise) x.4,
  )
]

unless_past : {S : Type 0} (noise : Noise) (setting : Setting S) (w : World) (taker : ℕ) (said : Option Statement) (makers : List ℕ)
    (next result : Result World End) → UnlessForged setting w taker said makers next result → EndsPast noise next
    → EndsPast noise result
unless_past noise setting w taker None makers next result goes past = subst (EndsPast noise) (sym goes) past
unless_past noise setting w taker (Some statement) makers next result goes past = elim goes [
  | inl x ↦ subst (EndsPast noise) (sym x.1) past
  | inr x ↦ subst (EndsPast noise) (sym x.4) tt
]

-- a node that takes bytes
node_takes_with : {S : Type 0} (noise : Noise) (setting : Setting S) (w : World) (g : ℕ) (k : Option ℕ) (frame : List ℕ) → IsPast noise w
    → StandsNoise noise w (λ z result. NodeTakes setting z g k frame result)
node_takes_with noise setting w g k frame past result t =
    let took = with_take g k t.done.dropped w in
    let next = after_node g t.after t.done took in
    let same = ap (after_node g t.after t.done) (take_with noise w g k t.done.dropped past) ∙ node_with noise g t.after t.done took in
    let ends = unless_with noise setting w g t.done.statement (makers_told t.done) next result t.ends in (
      record {
        after = t.after;
        done = t.done;
        handles = t.handles;
        ends = subst (λ z. UnlessForged setting (with_noise noise w) g t.done.statement (makers_told t.done) z (outcome_with_noise noise result)) (sym same) ends;
      },
      unless_past noise setting w g t.done.statement (makers_told t.done) next result t.ends
          (node_past noise g t.after t.done took (take_past noise w g k t.done.dropped past)),
    )

-- the Olympus that takes bytes
olympus_takes_with : {S : Type 0} (noise : Noise) (setting : Setting S) (w : World) (k : Option ℕ) (frame : List ℕ) → IsPast noise w
    → StandsNoise noise w (λ z result. OlympusTakes setting z k frame result)
olympus_takes_with noise setting w k frame past result t =
    let took = with_take olympus k t.done.dropped w in
    let next = after_olympus t.after t.done took in
    let same = ap (after_olympus t.after t.done) (take_with noise w olympus k t.done.dropped past) ∙ olympus_with noise t.after t.done took in
    let ends = unless_with noise setting w olympus t.done.statement (makers_told t.done) next result t.ends in (
      record {
        after = t.after;
        done = t.done;
        hears = t.hears;
        ends = subst (λ z. UnlessForged setting (with_noise noise w) olympus t.done.statement (makers_told t.done) z (outcome_with_noise noise result)) (sym same) ends;
      },
      unless_past noise setting w olympus t.done.statement (makers_told t.done) next result t.ends
          (olympus_past noise t.after t.done took (take_past noise w olympus k t.done.dropped past)),
    )

-- whoever takes bytes
pub taken_with : {S : Type 0} (noise : Noise) (setting : Setting S) (w : World) (honest at_olympus : Bool) (to : ℕ) (k : Option ℕ) (frame : List ℕ)
    → IsPast noise w → StandsNoise noise w (λ z result. TakenBy setting z honest at_olympus to k frame result)
taken_with noise setting w false at_olympus to k frame past result t =
    (ap (outcome_with_noise noise) t, subst (EndsPast noise) (sym t) past)
taken_with noise setting w true true to k frame past result t = olympus_takes_with noise setting w k frame past result t
taken_with noise setting w true false to k frame past result t = node_takes_with noise setting w to k frame past result t

-- the world in which a packet counts as delivered
abbrev marked : ℕ → World → World
marked k w = record w { delivered = λ x. if x == k then true else w.delivered x }

-- a packet, where there is one
gives_with : {S : Type 0} (noise : Noise) (setting : Setting S) (w : World) (k : ℕ) (p : Option Sent) → IsPast noise w
    → StandsNoise noise w (λ z result. GivesPacket setting z k p result)
gives_with noise setting w k None past result g =
    (ap (outcome_with_noise noise) g, subst (EndsPast noise) (sym g) tt)
gives_with noise setting w k (Some p) past result g =
    taken_with noise setting (marked k w) (is_honest setting p.to) (p.to == olympus) p.to (Some k) p.frame
    (record { injected = past.injected; takes = past.takes; notes = past.notes }) result g

-- a packet that is named
pub delivers_with : {S : Type 0} (noise : Noise) (setting : Setting S) (w : World) (k : ℕ) → IsPast noise w
    → StandsNoise noise w (λ z result. Delivers setting z k result)
delivers_with noise setting w k past = gives_with noise setting w k (slice_get w.pool k) past

-- what follows a world that stands the noise stands it
pub then_with : (noise : Noise) (Rest : World → Result World End → Type 0) (mid result : Result World End)
    → ((next : World) → IsPast noise next → StandsNoise noise next Rest) → EndsPast noise mid
    → Then mid result (λ next. Rest next result)
    → Then (outcome_with_noise noise mid) (outcome_with_noise noise result) (λ next. Rest next (outcome_with_noise noise result))
    × EndsPast noise result
then_with noise Rest (Ok next) result rest past t = rest next past result t
then_with noise Rest (Err end) result rest past t = (ap (outcome_with_noise noise) t, subst (EndsPast noise) (sym t) tt)

-- packets, one after another
pub delivers_all_with : {S : Type 0} (noise : Noise) (setting : Setting S) (w : World) (ks : List ℕ) → IsPast noise w
    → StandsNoise noise w (λ z result. DeliversAll setting z ks result)
delivers_all_with noise setting w [] past result d = (ap (outcome_with_noise noise) d, subst (EndsPast noise) (sym d) past)
delivers_all_with noise setting w (k ∷ ks) past result d =
    let first = delivers_with noise setting w k past d.0 d.1 in
    let rest = then_with noise (λ z r. DeliversAll setting z ks r) d.0 result
    (λ next in_next. delivers_all_with noise setting next ks in_next) first.1 d.2 in
    ((outcome_with_noise noise d.0, first.0, rest.0), rest.1)

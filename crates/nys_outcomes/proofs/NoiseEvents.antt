-- Events in a world with noise on its way, and what leaving the noise out of a list leaves out of its outcome.
use Rattle.std.proofs.Common.{◌≡◌, ℕ, ◌+◌, ◌==◌, Bool, true, false, ℤ, List, [], ◌∷◌, ◌++◌, length, Ok, Err, Some, None, refl, ap, sym, subst, ◌∙◌, append-nil}
use Rattle.std.specs.Prelude.{drop, find, map, nat_lt, not, Option, Result}
use Rattle.std.proofs.Math.Nat.{le_refl}
use Rattle.std.proofs.lemmas.List.{drop_all, take_all}
use Rattle.nys_rules.proofs.WorldLemmas.{happen_once, happens_once}
use Rattle.nys_rules.specs.declared.cause.DropCause.{DropCause}
use Rattle.nys_rules.specs.declared.notice.End.{End}
use Rattle.nys_rules.specs.declared.notice.NoteKind.TheVariants as tell
use Rattle.nys_rules.specs.declared.packet.TheConstants.{STRANGER}
use Rattle.nys_rules.specs.Events.{Plain}
use Rattle.nys_rules.specs.Events.Plain.{Input, Deliver, Flush, Exchange, Ask, Bytes, Say, Bundle, Steal, Wedge, Decide, Retire, Open}
use Rattle.nys_rules.specs.Happening.{bundle_of, bundle_or_end, counted, Does, first_frame, HappenAll, Happens, honest_packets, IfHonest, NodeAsks, NodeIsHanded, OlympusDecides, OlympusOpens, OlympusRetires, OlympusWedges, said_record, sends_bundle, sent_to_all, TakenBy, Then, undelivered, wedge_note, with_full_note, with_injected}
use Rattle.nys_rules.specs.Scope.{olympus}
use Rattle.nys_rules.specs.Sending.{packet}
use Rattle.nys_rules.specs.World.{after_node, after_olympus, is_honest, Setting, with_decided, with_note, World}
use Rattle.nys_stmt.specs.declared.records.Record.{Record}
use Rattle.nys_stmt.specs.declared.statement.Statement.{Statement}
use Rattle.nys_wire.specs.Reading.{whole_record}
use Rattle.nys_wire.specs.declared.fault.WireFault.{WireFault}
use Rattle.nys_outcomes.proofs.NoiseLemmas.{noise_changes_nothing}
use Rattle.nys_outcomes.proofs.NoiseWorlds.{decided_past, decided_with, delivers_all_with, delivers_with, EndsPast, injected_past, injected_with, IsPast, node_past, node_with, note_past, note_with, olympus_past, olympus_with, packets_past, packets_with_noise, StandsNoise, taken_with, then_with}
use Rattle.nys_outcomes.specs.Noise.{after_noise, IsLeftOut, later_given, later_note, later_take, Noise, noise_in, outcome_with_noise, StaysWithNoise, told_at, with_noise}

-- ---- kinds of events

-- a result that is what something comes to, with the noise and without it
stands_by : (noise : Noise) (a b result : Result World End) → a ≡ outcome_with_noise noise b → EndsPast noise b → result ≡ b
    → (outcome_with_noise noise result ≡ a) × EndsPast noise result
stands_by noise a b result same past is =
    (ap (outcome_with_noise noise) is ∙ sym same, subst (EndsPast noise) (sym is) past)

-- what happens to an honest host, or nothing
honest_with : (noise : Noise) (w : World) (May : World → Result World End → Type 0) (honest : Bool) → IsPast noise w
    → StandsNoise noise w May → StandsNoise noise w (λ z result. IfHonest honest z result (May z result))
honest_with noise w May true past stands result may = stands result may
honest_with noise w May false past stands result may = stands_by noise (Ok (with_noise noise w)) (Ok w) result refl past may

-- the note that an input found no room
full_with : (noise : Noise) (w : World) (h : ℕ) (cause : Option DropCause) → IsPast noise w
    → with_full_note h cause (with_noise noise w) ≡ with_noise noise (with_full_note h cause w)
full_with noise w h None past = refl
full_with noise w h (Some cause) past = note_with noise w (tell.QueueFull h) past

full_past : (noise : Noise) (w : World) (h : ℕ) (cause : Option DropCause) → IsPast noise w
    → IsPast noise (with_full_note h cause w)
full_past noise w h None past = past
full_past noise w h (Some cause) past = note_past noise w (tell.QueueFull h) past

-- a node that is handed an input
handed_with : {S : Type 0} (noise : Noise) (setting : Setting S) (w : World) (h : ℕ) (payload : List ℤ) → IsPast noise w
    → StandsNoise noise w (λ z result. NodeIsHanded setting z h payload result)
handed_with noise setting w h payload past result x =
    let noted = with_full_note h x.done.dropped w in
    let same = ap (after_node h x.after x.done) (full_with noise w h x.done.dropped past) ∙ node_with noise h x.after x.done noted in
    let stands = stands_by noise (after_node h x.after x.done (with_full_note h x.done.dropped (with_noise noise w)))
    (after_node h x.after x.done noted) result same
    (node_past noise h x.after x.done noted (full_past noise w h x.done.dropped past)) x.result_is in
    (record { after = x.after; done = x.done; takes = x.takes; result_is = stands.0 }, stands.1)

-- a node that is told to ask
asks_with : {S : Type 0} (noise : Noise) (setting : Setting S) (w : World) (h : ℕ) → IsPast noise w
    → StandsNoise noise w (λ z result. NodeAsks setting z h result)
asks_with noise setting w h past result x =
    let stands = stands_by noise (after_node h x.after x.done (with_noise noise w)) (after_node h x.after x.done w) result
    (node_with noise h x.after x.done w) (node_past noise h x.after x.done w past) x.result_is in
    (record { after = x.after; done = x.done; asks = x.asks; result_is = stands.0 }, stands.1)

-- bytes that an event gives
bytes_with : {S : Type 0} (noise : Noise) (setting : Setting S) (w : World) (to : ℕ) (frame : List ℕ) → IsPast noise w
    → StandsNoise noise w (λ z result. Does setting z (Bytes to frame) result)
bytes_with {S} noise setting w to frame past result x =
    let stands = taken_with noise setting (with_injected to frame w) (is_honest setting to) (to == olympus) to None frame
    (injected_past noise w to frame past) result x in
    (subst Given (sym (injected_with noise w to frame past)) stands.0, stands.1)
  where
    Given : World → Type 0
    Given z = TakenBy setting z (is_honest setting to) (to == olympus) to None frame (outcome_with_noise noise result)

-- a record that goes to parties
sent_with : (noise : Noise) (w : World) (from : ℕ) (r : Record) (parties : List ℕ) → IsPast noise w
    → StandsNoise noise w (λ z result. result ≡ sent_to_all from r parties z)
sent_with noise w from r parties past result x =
    stands_by noise (sent_to_all from r parties (with_noise noise w)) (sent_to_all from r parties w) result
    (packets_with_noise noise (map (λ g. packet from g r) parties) w)
    (packets_past noise (map (λ g. packet from g r) parties) w past) x

-- the makers of packets, in one record
bundle_same : (noise : Noise) (w : World) (statement : Statement) (ks : List ℕ)
    → bundle_of (with_noise noise w) statement ks ≡ bundle_of w statement ks
unfolding bundle_of
bundle_same noise w statement ks = refl

-- the first packet that is named
first_same : (noise : Noise) (w : World) (ks : List ℕ) → first_frame (with_noise noise w) ks ≡ first_frame w ks
first_same noise w [] = refl
first_same noise w (k ∷ ks) = refl

-- a bundle by what its first packet reads as
sends_with : (noise : Noise) (w : World) (from : ℕ) (parties ks : List ℕ) (reading : Result Record WireFault)
    → sends_bundle (with_noise noise w) from parties ks reading ≡ outcome_with_noise noise (sends_bundle w from parties ks reading)
sends_with noise w from parties ks (Err fault) = refl
sends_with noise w from parties ks (Ok r) =
    ap (λ b. sent_to_all from b parties (with_noise noise w)) (bundle_same noise w r.statement ks)
    ∙ packets_with_noise noise (map (λ g. packet from g (bundle_of w r.statement ks)) parties) w

sends_past : (noise : Noise) (w : World) (from : ℕ) (parties ks : List ℕ) (reading : Result Record WireFault) → IsPast noise w
    → EndsPast noise (sends_bundle w from parties ks reading)
sends_past noise w from parties ks (Err fault) past = past
sends_past noise w from parties ks (Ok r) past =
    packets_past noise (map (λ g. packet from g (bundle_of w r.statement ks)) parties) w past

-- a bundle, where all its packets are there
bundle_with : (noise : Noise) (w : World) (from : ℕ) (parties ks : List ℕ) (missing : Option ℕ)
    → bundle_or_end (with_noise noise w) from parties ks missing ≡ outcome_with_noise noise (bundle_or_end w from parties ks missing)
bundle_with noise w from parties ks (Some k) = refl
bundle_with noise w from parties ks None =
    ap (λ f. sends_bundle (with_noise noise w) from parties ks (whole_record f)) (first_same noise w ks)
    ∙ sends_with noise w from parties ks (whole_record (first_frame w ks))

bundle_past : (noise : Noise) (w : World) (from : ℕ) (parties ks : List ℕ) (missing : Option ℕ) → IsPast noise w
    → EndsPast noise (bundle_or_end w from parties ks missing)
bundle_past noise w from parties ks (Some k) past = tt
bundle_past noise w from parties ks None past = sends_past noise w from parties ks (whole_record (first_frame w ks)) past

bundled_with : (noise : Noise) (w : World) (from : ℕ) (parties ks : List ℕ) (missing : Option ℕ) → IsPast noise w
    → StandsNoise noise w (λ z result. result ≡ bundle_or_end z from parties ks missing)
bundled_with noise w from parties ks missing past result x =
    stands_by noise (bundle_or_end (with_noise noise w) from parties ks missing) (bundle_or_end w from parties ks missing) result
    (bundle_with noise w from parties ks missing) (bundle_past noise w from parties ks missing past) x

-- the Olympus that is told to end its epoch
wedges_with : {S : Type 0} (noise : Noise) (setting : Setting S) (w : World) → IsPast noise w
    → StandsNoise noise w (λ z result. OlympusWedges setting z result)
wedges_with noise setting w past result x =
    let note = wedge_note w.olympus x.did in
    let noted = with_note note w in
    let same = ap (after_olympus x.after x.done) (note_with noise w note past) ∙ olympus_with noise x.after x.done noted in
    let stands = stands_by noise (after_olympus x.after x.done (with_note note (with_noise noise w)))
    (after_olympus x.after x.done noted) result same
    (olympus_past noise x.after x.done noted (note_past noise w note past)) x.result_is in
    (record { after = x.after; did = x.did; done = x.done; wedges = x.wedges; result_is = stands.0 }, stands.1)

-- the Olympus that is told to decide a log
decides_with : {S : Type 0} (noise : Noise) (setting : Setting S) (w : World) (h : ℕ) → IsPast noise w
    → StandsNoise noise w (λ z result. OlympusDecides setting z h result)
decides_with noise setting w h past result x =
    let told : World = record w { olympus = x.after } in
    let in_told : IsPast noise told = record { injected = past.injected; takes = past.takes; notes = past.notes } in
    let decided = with_decided h 0 (x.after.decided h) told in
    let in_decided = decided_past noise h 0 (x.after.decided h) told in_told in
    let note = tell.Decide h x.answer in
    let same = ap (with_note note) (decided_with noise h 0 (x.after.decided h) told) ∙ note_with noise decided note in_decided in
    let stands = stands_by noise (Ok (with_note note (with_decided h 0 (x.after.decided h) (with_noise noise told))))
    (Ok (with_note note decided)) result (ap (λ z. Ok z) same) (note_past noise decided note in_decided) x.result_is in
    (record { after = x.after; answer = x.answer; decides = x.decides; result_is = stands.0 }, stands.1)

-- the Olympus that is told to give a host up
retires_with : (noise : Noise) (w : World) (h : ℕ) → IsPast noise w
    → StandsNoise noise w (λ z result. OlympusRetires z h result)
retires_with noise w h past result x =
    let told : World = record w { olympus = x.after } in
    let in_told : IsPast noise told = record { injected = past.injected; takes = past.takes; notes = past.notes } in
    let note = tell.Retire h x.answer in
    let stands = stands_by noise (Ok (with_note note (with_noise noise told))) (Ok (with_note note told)) result
    (ap (λ z. Ok z) (note_with noise told note in_told)) (note_past noise told note in_told) x.result_is in
    (record { after = x.after; answer = x.answer; retires = x.retires; result_is = stands.0 }, stands.1)

-- the Olympus that is told to open the next epoch
opens_with_noise : {S : Type 0} (noise : Noise) (setting : Setting S) (w : World) → IsPast noise w
    → StandsNoise noise w (λ z result. OlympusOpens setting z result)
opens_with_noise noise setting w past result x =
    let note = tell.Open x.answer in
    let noted = with_note note w in
    let same = ap (after_olympus x.after x.done) (note_with noise w note past) ∙ olympus_with noise x.after x.done noted in
    let stands = stands_by noise (after_olympus x.after x.done (with_note note (with_noise noise w)))
    (after_olympus x.after x.done noted) result same
    (olympus_past noise x.after x.done noted (note_past noise w note past)) x.result_is in
    (record { after = x.after; answer = x.answer; done = x.done; opens = x.opens; result_is = stands.0 }, stands.1)

-- ---- events

-- each kind of event
does_with : {S : Type 0} (noise : Noise) (setting : Setting S) (w : World) (event : Plain) → IsPast noise w
    → StandsNoise noise w (λ z result. Does setting z event result)
does_with noise setting w (Input h payload) past =
    honest_with noise w (λ z result. NodeIsHanded setting z h payload result) (is_honest setting h) past
    (handed_with noise setting w h payload past)
does_with noise setting w (Deliver k) past = delivers_with noise setting w k past
does_with noise setting w Flush past = delivers_all_with noise setting w (undelivered w) past
does_with noise setting w Exchange past = delivers_all_with noise setting w (honest_packets setting w) past
does_with noise setting w (Ask h) past =
    honest_with noise w (λ z result. NodeAsks setting z h result) (is_honest setting h) past (asks_with noise setting w h past)
does_with noise setting w (Bytes to frame) past = bytes_with noise setting w to frame past
does_with noise setting w (Say a to statement) past =
    sent_with noise w a (said_record setting.scope a statement to) to past
does_with noise setting w (Bundle a to packets) past =
    bundled_with noise w a to packets (find (λ k. not (nat_lt k (length w.pool))) packets) past
does_with noise setting w (Steal a to statement) past =
    sent_with noise w STRANGER (said_record setting.scope a statement to) to past
does_with noise setting w Wedge past = wedges_with noise setting w past
does_with noise setting w (Decide h) past = decides_with noise setting w h past
does_with noise setting w (Retire h) past = retires_with noise w h past
does_with noise setting w Open past = opens_with_noise noise setting w past

-- an outcome that is counted
counted_with : (noise : Noise) (mid : Result World End) → outcome_with_noise noise (counted mid) ≡ counted (outcome_with_noise noise mid)
counted_with noise (Ok w) = refl
counted_with noise (Err end) = refl

counted_past : (noise : Noise) (mid : Result World End) → EndsPast noise mid → EndsPast noise (counted mid)
counted_past noise (Ok w) past = record { injected = past.injected; takes = past.takes; notes = past.notes }
counted_past noise (Err end) past = tt

-- an event
happens_with : {S : Type 0} (noise : Noise) (setting : Setting S) (w : World) (event : Plain) → IsPast noise w
    → StandsNoise noise w (λ z result. Happens setting z event result)
happens_with noise setting w event past result x =
    let does = does_with noise setting w event past x.mid x.does in (
      record {
        mid = outcome_with_noise noise x.mid;
        does = does.0;
        result_is = ap (outcome_with_noise noise) x.result_is ∙ counted_with noise x.mid;
      },
      subst (EndsPast noise) (sym x.result_is) (counted_past noise x.mid does.1),
    )

-- events, one after another
happen_with : {S : Type 0} (noise : Noise) (setting : Setting S) (w : World) (events : List Plain) → IsPast noise w
    → StandsNoise noise w (λ z result. HappenAll setting z events result)
happen_with noise setting w [] past result x = stands_by noise (Ok (with_noise noise w)) (Ok w) result refl past x
happen_with noise setting w (event ∷ events) past result x =
    let first = happens_with noise setting w event past x.0 x.1 in
    let rest = then_with noise (λ z r. HappenAll setting z events r) x.0 result
    (λ next in_next. happen_with noise setting next events in_next) first.1 x.2 in
    ((outcome_with_noise noise x.0, first.0, rest.0), rest.1)

-- ---- lists

-- what comes of a list of events comes of its end, in the world that its beginning leads to
rest_happens : {S : Type 0} (setting : Setting S) (w mid : World) (before after : List Plain) (result : Result World End)
    → HappenAll setting w before (Ok mid) → HappenAll setting w (before ++ after) result → HappenAll setting mid after result
rest_happens setting w mid [] after result come all =
    let same : mid ≡ w = cc in subst (λ (z : World). HappenAll setting z after result) (sym same) all
rest_happens {S} setting w mid (event ∷ before) after result come all =
    let same = happens_once setting w event all.0 come.0 all.1 come.1 in
    by come.0 come.2 (subst (λ z. Then z result (λ next. HappenAll setting next (before ++ after) result)) same all.2)
    (λ next. rest_happens setting next mid before after result)
  where
    by : (first : Result World End) → Then first (Ok mid) (λ next. HappenAll setting next before (Ok mid))
        → Then first result (λ next. HappenAll setting next (before ++ after) result)
        → ((next : World) → HappenAll setting next before (Ok mid) → HappenAll setting next (before ++ after) result
        → HappenAll setting mid after result)
        → HappenAll setting mid after result
    by (Ok next) come all later = later next come all
    by (Err end) come all later = absurd (cc)

-- what comes of a world comes behind the events that lead to it
behind : {S : Type 0} (setting : Setting S) (w mid : World) (before after : List Plain) (result : Result World End)
    → HappenAll setting w before (Ok mid) → HappenAll setting mid after result → HappenAll setting w (before ++ after) result
behind setting w mid [] after result come rest =
    let same : mid ≡ w = cc in subst (λ (z : World). HappenAll setting z after result) same rest
behind {S} setting w mid (event ∷ before) after result come rest =
    (come.0, come.1, by come.0 come.2 (λ next begun. behind setting next mid before after result begun rest))
  where
    by : (first : Result World End) → Then first (Ok mid) (λ next. HappenAll setting next before (Ok mid))
        → ((next : World) → HappenAll setting next before (Ok mid) → HappenAll setting next (before ++ after) result)
        → Then first result (λ next. HappenAll setting next (before ++ after) result)
    by (Ok next) come later = later next come
    by (Err end) come later = absurd (cc)

-- what is told at the end of a list stands behind it
told_last : {A : Type 0} (told : List A) (later : A → A) (xs : List A) → told_at (length xs) told later xs ≡ xs ++ told
told_last told later xs =
    ap (λ front. front ++ told ++ map later (drop (length xs) xs)) (take_all (length xs) xs (le_refl (length xs)))
    ∙ ap (λ back. xs ++ told ++ map later back) (drop_all (length xs) xs (le_refl (length xs)))
    ∙ append-nil (xs ++ told)

-- at first noise leaves the world after it
noise_now : (w : World) (to : ℕ) (frame : List ℕ) (cause : DropCause)
    → with_noise (noise_in w to frame cause) w ≡ after_noise to frame cause w
noise_now w to frame cause =
    let noise = noise_in w to frame cause in
    let noisy = after_noise to frame cause w in
    ap (λ injected. record (with_noise noise w) { injected = injected }) (told_last (noise.given ∷ []) later_given w.injected)
    ∙ ap (λ takes. record (with_noise noise w) { injected = noisy.injected; takes = takes }) (told_last (noise.taking ∷ []) later_take w.takes)
    ∙ ap (λ notes. record noisy { notes = notes }) (told_last [] later_note w.notes ∙ append-nil w.notes)

-- a list has the outcome that it has without the bytes, with the noise on its way
pub stays_with_noise : {S : Type 0} (setting : Setting S) → StaysWithNoise setting
stays_with_noise setting w mid before after to frame cause without has all =
    let noise = noise_in mid to frame cause in
    let past : IsPast noise mid = record {
      injected = le_refl (length mid.injected);
      takes = le_refl (length mid.takes);
      notes = le_refl (length mid.notes);
    } in
    let rest = happen_with noise setting mid after past without (rest_happens setting w mid before after without has.come all) in
    let next_is = noise_changes_nothing setting mid has.next to frame cause has.drops ∙ sym (noise_now mid to frame cause) in
    behind setting w mid before (Bytes to frame ∷ after) (outcome_with_noise noise without) has.come (
      Ok has.next,
      has.drops.happens,
      subst (λ (z : World). HappenAll setting z after (outcome_with_noise noise without)) (sym next_is) rest.0,
    )

-- and no other
pub left_out : {S : Type 0} (setting : Setting S) → IsLeftOut setting
left_out setting w mid before after to frame cause without result has all noisy =
    happen_once setting w (before ++ Bytes to frame ∷ after) result (outcome_with_noise (noise_in mid to frame cause) without) noisy
    (stays_with_noise setting w mid before after to frame cause without has all)

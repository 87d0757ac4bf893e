-- Events end in one world, or in one end.
use Rattle.std.proofs.Common.{◌≡◌, ℕ, Bool, true, false, ℤ, List, [], ◌∷◌, Some, None, Ok, Err, ap, sym, subst, ◌∙◌}
use Rattle.std.specs.Prelude.{Option, Result, slice_get, ◌==◌, if◌then◌else◌}
use Rattle.nys_rules.specs.declared.notice.End.{End}
use Rattle.nys_rules.specs.declared.notice.NoteKind.TheVariants as tell
use Rattle.nys_rules.specs.Events.{Plain}
use Rattle.nys_rules.specs.Events.Plain.{Input, Deliver, Flush, Exchange, Ask, Bytes, Say, Bundle, Steal, Wedge, Decide, Retire, Open}
use Rattle.nys_rules.specs.Forged.{makers_told}
use Rattle.nys_rules.specs.Happening.{counted, Delivers, DeliversAll, Does, GivesPacket, HappenAll, HappenOnce, Happens, honest_packets, IfHonest, IsGiven, NodeAsks, NodeIsHanded, NodeTakes, OlympusDecides, OlympusOpens, OlympusRetires, OlympusTakes, OlympusWedges, TakenBy, Then, undelivered, UnlessForged, wedge_note, with_full_note, with_injected, with_take}
use Rattle.nys_rules.specs.Olympus.{OlympusView}
use Rattle.nys_rules.specs.Packets.{Done, Sent}
use Rattle.nys_rules.specs.Scope.{olympus}
use Rattle.nys_rules.specs.View.{View}
use Rattle.nys_rules.specs.World.{after_node, after_olympus, is_honest, Setting, with_decided, with_note, World}
use Rattle.nys_rules.proofs.ForgedLemmas.{unless_forged_once}
use Rattle.nys_rules.proofs.OnceLemmas.{asks_once, decides_once, handles_once, hears_once, opens_once, retires_once, takes_once, wedges_once}

-- a fact of one result only
abbrev pub IsOneResult : (Result World End → Type 0) → Type 0
IsOneResult Rel = (a b : Result World End) → Rel a → Rel b → a ≡ b

-- what two equal things are told by is the same
abbrev pub by_both : {A B : Type 0} (P : A → B → Type 0) (x y : A) (a b : B) → (x ≡ y) × (a ≡ b) → P y b
    → P x a
by_both P x y a b same p = subst (λ z. P z a) (sym same.0) (subst (P y) (sym same.1) p)

-- a node that takes bytes
pub node_takes_once : {S : Type 0} (setting : Setting S) (w : World) (g : ℕ) (k : Option ℕ) (frame : List ℕ)
    → IsOneResult (NodeTakes setting w g k frame)
node_takes_once {S} setting w g k frame a b p q =
    let same = handles_once setting.scope (w.nodes g) frame p.after q.after p.done q.done p.handles q.handles in
    unless_forged_once setting w g p.done.statement (makers_told p.done)
    (after_node g p.after p.done (with_take g k p.done.dropped w)) a b
    p.ends (by_both Ends p.after q.after p.done q.done same q.ends)
  where
    Ends : View → Done → Type 0
    Ends after done =
        UnlessForged setting w g done.statement (makers_told done) (after_node g after done (with_take g k done.dropped w)) b

-- the Olympus that takes bytes
pub olympus_takes_once : {S : Type 0} (setting : Setting S) (w : World) (k : Option ℕ) (frame : List ℕ)
    → IsOneResult (OlympusTakes setting w k frame)
olympus_takes_once {S} setting w k frame a b p q =
    let same = hears_once setting.scope w.olympus frame p.after q.after p.done q.done p.hears q.hears in
    unless_forged_once setting w olympus p.done.statement (makers_told p.done)
    (after_olympus p.after p.done (with_take olympus k p.done.dropped w)) a b
    p.ends (by_both Ends p.after q.after p.done q.done same q.ends)
  where
    Ends : OlympusView → Done → Type 0
    Ends after done =
        UnlessForged setting w olympus done.statement (makers_told done)
        (after_olympus after done (with_take olympus k done.dropped w)) b

-- whoever takes bytes
taken_by_once : {S : Type 0} (setting : Setting S) (w : World) (honest at_olympus : Bool) (to : ℕ) (k : Option ℕ) (frame : List ℕ)
    → IsOneResult (TakenBy setting w honest at_olympus to k frame)
taken_by_once setting w false at_olympus to k frame a b p q = p ∙ sym q
taken_by_once setting w true true to k frame a b p q = olympus_takes_once setting w k frame a b p q
taken_by_once setting w true false to k frame a b p q = node_takes_once setting w to k frame a b p q

-- whoever it is
pub given_once : {S : Type 0} (setting : Setting S) (w : World) (to : ℕ) (k : Option ℕ) (frame : List ℕ)
    → IsOneResult (IsGiven setting w to k frame)
given_once setting w to k frame = taken_by_once setting w (is_honest setting to) (to == olympus) to k frame

-- a packet that is there or not
gives_once : {S : Type 0} (setting : Setting S) (w : World) (k : ℕ) (p : Option Sent)
    → IsOneResult (GivesPacket setting w k p)
gives_once setting w k None a b p q = p ∙ sym q
gives_once setting w k (Some sent) a b p q =
    given_once setting (record w { delivered = λ x. if x == k then true else w.delivered x }) sent.to (Some k) sent.frame a b p q

-- packet k, if there is one
pub delivers_once : {S : Type 0} (setting : Setting S) (w : World) (k : ℕ)
    → IsOneResult (Delivers setting w k)
delivers_once setting w k = gives_once setting w k (slice_get w.pool k)

-- what follows one result is one result
then_once : (Rest : Result World End → World → Type 0) (mid a b : Result World End)
    → ((next : World) → Rest a next → Rest b next → a ≡ b) → Then mid a (Rest a) → Then mid b (Rest b) → a ≡ b
then_once Rest (Ok next) a b rest p q = rest next p q
then_once Rest (Err end) a b rest p q = p ∙ sym q

-- packets, one after another
pub delivers_all_once : {S : Type 0} (setting : Setting S) (w : World) (ks : List ℕ)
    → IsOneResult (DeliversAll setting w ks)
delivers_all_once setting w [] a b p q = p ∙ sym q
delivers_all_once setting w (k ∷ ks) a b p q =
    let same = delivers_once setting w k p.0 q.0 p.1 q.1 in
    then_once (λ result next. DeliversAll setting next ks result) p.0 a b (λ next. delivers_all_once setting next ks a b)
    p.2 (subst (λ mid. Then mid b (λ next. DeliversAll setting next ks b)) (sym same) q.2)

-- a node that is handed an input
pub handed_once : {S : Type 0} (setting : Setting S) (w : World) (h : ℕ) (payload : List ℤ)
    → IsOneResult (NodeIsHanded setting w h payload)
handed_once setting w h payload a b p q =
    let same = takes_once setting.scope (w.nodes h) payload p.after q.after p.done q.done p.takes q.takes in
    p.result_is
    ∙ by_both (λ after done. after_node h after done (with_full_note h done.dropped w) ≡ b) p.after q.after p.done q.done
    same (sym q.result_is)

-- a node that is told to ask
pub node_asks_once : {S : Type 0} (setting : Setting S) (w : World) (h : ℕ)
    → IsOneResult (NodeAsks setting w h)
node_asks_once setting w h a b p q =
    let same = asks_once setting.scope (w.nodes h) p.after q.after p.done q.done p.asks q.asks in
    p.result_is ∙ by_both (λ after done. after_node h after done w ≡ b) p.after q.after p.done q.done same (sym q.result_is)

-- nothing happens to a liar
if_honest_once : (honest : Bool) (w : World) (Rel : Result World End → Type 0) → IsOneResult Rel
    → IsOneResult (λ result. IfHonest honest w result (Rel result))
if_honest_once true w Rel once a b p q = once a b p q
if_honest_once false w Rel once a b p q = p ∙ sym q

-- the Olympus that ends its epoch
olympus_wedges_once : {S : Type 0} (setting : Setting S) (w : World) → IsOneResult (OlympusWedges setting w)
olympus_wedges_once setting w a b p q =
    let same = wedges_once setting.scope w.olympus p.after q.after p.did q.did p.done q.done p.wedges q.wedges in
    p.result_is
    ∙ ap (λ did. after_olympus p.after p.done (with_note (wedge_note w.olympus did) w)) same.1
    ∙ by_both (λ after done. after_olympus after done (with_note (wedge_note w.olympus q.did) w) ≡ b) p.after q.after p.done q.done
    (same.0, same.2) (sym q.result_is)

-- the Olympus that decides a log
olympus_decides_once : {S : Type 0} (setting : Setting S) (w : World) (h : ℕ)
    → IsOneResult (OlympusDecides setting w h)
olympus_decides_once setting w h a b p q =
    p.result_is
    ∙ by_both (λ after answer. Ok (with_note (tell.Decide h answer) (with_decided h 0 (after.decided h) (record w { olympus = after }))) ≡ b)
    p.after q.after p.answer q.answer (decides_once setting.scope w.olympus h p.after q.after p.answer q.answer p.decides q.decides)
    (sym q.result_is)

-- the Olympus that gives a host up
olympus_retires_once : (w : World) (h : ℕ) → IsOneResult (OlympusRetires w h)
olympus_retires_once w h a b p q =
    p.result_is
    ∙ by_both (λ after answer. Ok (with_note (tell.Retire h answer) (record w { olympus = after })) ≡ b)
    p.after q.after p.answer q.answer (retires_once w.olympus h p.after q.after p.answer q.answer p.retires q.retires)
    (sym q.result_is)

-- the Olympus that opens an epoch
olympus_opens_once : {S : Type 0} (setting : Setting S) (w : World) → IsOneResult (OlympusOpens setting w)
olympus_opens_once setting w a b p q =
    let same = opens_once setting.scope w.olympus p.after q.after p.answer q.answer p.done q.done p.opens q.opens in
    p.result_is
    ∙ ap (λ answer. after_olympus p.after p.done (with_note (tell.Open answer) w)) same.1
    ∙ by_both (λ after done. after_olympus after done (with_note (tell.Open q.answer) w) ≡ b) p.after q.after p.done q.done
    (same.0, same.2) (sym q.result_is)

-- each kind of event
pub does_once : {S : Type 0} (setting : Setting S) (w : World) (event : Plain)
    → IsOneResult (Does setting w event)
does_once setting w (Input h payload) a b p q =
    if_honest_once (is_honest setting h) w (NodeIsHanded setting w h payload) (handed_once setting w h payload) a b p q
does_once setting w (Deliver k) a b p q = delivers_once setting w k a b p q
does_once setting w Flush a b p q = delivers_all_once setting w (undelivered w) a b p q
does_once setting w Exchange a b p q = delivers_all_once setting w (honest_packets setting w) a b p q
does_once setting w (Ask h) a b p q =
    if_honest_once (is_honest setting h) w (NodeAsks setting w h) (node_asks_once setting w h) a b p q
does_once setting w (Bytes to frame) a b p q =
    given_once setting (with_injected to frame w) to None frame a b p q
does_once setting w (Say maker to statement) a b p q = p ∙ sym q
does_once setting w (Bundle maker to packets) a b p q = p ∙ sym q
does_once setting w (Steal maker to statement) a b p q = p ∙ sym q
does_once setting w Wedge a b p q = olympus_wedges_once setting w a b p q
does_once setting w (Decide h) a b p q = olympus_decides_once setting w h a b p q
does_once setting w (Retire h) a b p q = olympus_retires_once w h a b p q
does_once setting w Open a b p q = olympus_opens_once setting w a b p q

-- an event that is counted
pub happens_once : {S : Type 0} (setting : Setting S) (w : World) (event : Plain)
    → IsOneResult (Happens setting w event)
happens_once setting w event a b p q =
    p.result_is ∙ ap counted (does_once setting w event p.mid q.mid p.does q.does) ∙ sym q.result_is

-- events, one after another
pub happen_once : {S : Type 0} (setting : Setting S) → HappenOnce setting
happen_once setting w [] a b p q = p ∙ sym q
happen_once setting w (event ∷ events) a b p q =
    let same = happens_once setting w event p.0 q.0 p.1 q.1 in
    then_once (λ result next. HappenAll setting next events result) p.0 a b (λ next. happen_once setting next events a b)
    p.2 (subst (λ mid. Then mid b (λ next. HappenAll setting next events b)) (sym same) q.2)

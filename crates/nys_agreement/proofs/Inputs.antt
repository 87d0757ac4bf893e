-- Offers are of waiting inputs, in order, and what was ordered of an honest host it offered.
use Rattle.std.proofs.Common.{◌≡◌, ◌≢◌, ℕ, ◌≤◌, ℤ, List, [], ◌∷◌, ◌++◌, length, refl, sym, ap, subst, ◌∙◌, inl, inr, false, arith, append_assoc, length-append, eq-eqb}
use Rattle.std.proofs.lemmas.Bool.{cases_eq, ne_eqb}
use Rattle.nys_bytes.specs.declared.content.Content.{Content}
use Rattle.nys_bytes.specs.declared.content.Content.TheVariants.{External, Message}
use Rattle.nys_source.specs.Rules.{Rules}
use Rattle.nys_source.specs.Tables.{put}
use Rattle.nys_agreement.specs.Net.{Net}
use Rattle.nys_agreement.specs.Said.{By, Has, Made, Said}
use Rattle.nys_agreement.specs.Said.Said.{Deliver, Offer, Order}
use Rattle.nys_agreement.specs.Alone.{inputs_in}
use Rattle.nys_agreement.specs.Assembly.{Assembly}
use Rattle.nys_agreement.specs.Events.{Enabled, Event, IsCandidate, MaySay}
use Rattle.nys_agreement.specs.Events.Event.{Decides, Enters, Hands, Inherits, Logs, Opens, Retires, Says, TopWedges, Wedges}
use Rattle.nys_agreement.specs.After.{after, left_by, with_entry}
use Rattle.nys_agreement.proofs.ListLemmas.{append_some}
use Rattle.nys_agreement.proofs.TableLemmas.{put_at_case, put_case, put_here, put_there}
use Rattle.nys_agreement.proofs.Ledgers.{honest_vouch}
use Rattle.nys_agreement.proofs.Evidence.{IsKnown, Safe}
use Rattle.nys_agreement.proofs.Agreement.{Sound}

-- an Offer is its host's own, not past its log, and at its end of a candidate
pub record Offered (log : ℕ → ℕ → List Content) (waiting : ℕ → List (List ℤ)) (x h s : ℕ) (c : Content) : Type 0 where
  pub own : x ≡ h
  pub within : s ≤ length (log h h)
  pub head : s ≡ length (log h h) → IsCandidate (waiting h) c

-- inputs wait in the order in which they were handed
pub record Inputs (net : Net) (ledger : List Made) (log : ℕ → ℕ → List Content) (handed waiting : ℕ → List (List ℤ)) : Type 0 where
  pub queue : (h : ℕ) → inputs_in (log h h) ++ waiting h ≡ handed h
  pub offers : (x e h s : ℕ) (c : Content) → Has ledger (By x (Offer e h s c)) → Offered log waiting x h s c
  pub orders : (x e h s : ℕ) (c : Content) → net.liars h ≡ false → Has ledger (By x (Order e h s c)) → Has ledger (By h (Offer e h s c))

-- this holds of the assembly
abbrev pub InputsOk : Net → Assembly → Type 0
InputsOk net w = Inputs net w.ledger w.log w.handed w.waiting

-- new statements
says_offers : {S : Type 0} (rules : Rules S) (net : Net) (w : Assembly) → InputsOk net w → (g : ℕ) (said : Said) → MaySay rules net w g said → (x e h s : ℕ) (c : Content) → Has (By g said ∷ w.ledger) (By x (Offer e h s c)) → Offered w.log w.waiting x h s c
says_offers rules net w ok g said may x e h s c (inr old) = ok.offers x e h s c old
says_offers rules net w ok g said may x e h s c (inl new) =
    let who : g ≡ x = cc in
    let what : said ≡ Offer e h s c = cc in
    let now = subst (MaySay rules net w g) what may in
    let a = now.0.length_is in
    let b = ap (λ n. length (w.log n h)) now.1 in
    record { own = sym who ∙ now.1; within = omega arith; head = λ e. now.3 }

-- a new Order is of what an honest host offered
says_ordered : {S : Type 0} (rules : Rules S) (net : Net) (w : Assembly) → InputsOk net w → (g : ℕ) (said : Said) → MaySay rules net w g said → (x e h s : ℕ) (c : Content) → net.liars h ≡ false → Has (By g said ∷ w.ledger) (By x (Order e h s c)) → Has (By g said ∷ w.ledger) (By h (Offer e h s c))
says_ordered rules net w ok g said may x e h s c honest (inr old) = inr (ok.orders x e h s c honest old)
says_ordered rules net w ok g said may x e h s c honest (inl new) =
    let what : said ≡ Order e h s c = cc in
    let now = subst (MaySay rules net w g) what may in
    inr (now.2 honest)

-- an honest host offered what an honest guard delivers
pub delivered_offered : (net : Net) (w : Assembly) → Safe net w → InputsOk net w → (x e h s : ℕ) (c : Content) → net.liars h ≡ false → Has w.ledger (By x (Deliver e h s c)) → Has w.ledger (By h (Offer e h s c))
delivered_offered net w safe ok x e h s c honest made =
    let o = honest_vouch net safe.few w.ledger e h (Order e h s c) (safe.ledger.backed x e h s c made) in
    ok.orders o.0 e h s c honest o.2

-- and each entry of it that is known
pub known_offered : (net : Net) (w : Assembly) → Sound net w → InputsOk net w → (h s : ℕ) (c : Content) → net.liars h ≡ false → IsKnown net w h s c → (e : ℕ) × Has w.ledger (By h (Offer e h s c))
known_offered net w sound ok h s c honest (inl why) =
    let x = honest_vouch net sound.safe.few w.ledger why.0 h (Deliver why.0 h s c) why.2.delivers in
    (why.0, delivered_offered net w sound.safe ok x.0 why.0 h s c honest x.2)
known_offered net w sound ok h s c honest (inr get) =
    let d = sound.evidence.decisions h s c get in
    (d.epoch, delivered_offered net w sound.safe ok d.maker d.epoch h s c honest d.delivered)

-- an input that is taken leaves the queue at its head
taken_from_queue : (log : List Content) (c : Content) (waiting : List (List ℤ)) → IsCandidate waiting c → inputs_in (log ++ c ∷ []) ++ left_by c waiting ≡ inputs_in log ++ waiting
taken_from_queue [] (External payload) [] head = absurd (cc)
taken_from_queue [] (External payload) (x ∷ waiting) head = let same : payload ≡ x = cc in ap (λ (y : List ℤ). y ∷ waiting) same
taken_from_queue [] (Message p k payload) waiting head = refl
taken_from_queue (External x ∷ log) c waiting head = ap (λ (zs : List (List ℤ)). x ∷ zs) (taken_from_queue log c waiting head)
taken_from_queue (Message p k x ∷ log) c waiting head = taken_from_queue log c waiting head

-- a log that takes an entry: at its own host one that the host offered
entry_inputs : (net : Net) (w : Assembly) → InputsOk net w → (g i : ℕ) (c : Content) → (g ≡ i → IsCandidate (w.waiting i) c) → InputsOk net (with_entry w g i c)
entry_inputs net w ok g i c head =
    let grown = w.log g i ++ c ∷ [] in
    let l = with_entry w g i c in
    elim (cases_eq g i) [
      | inr ne ↦
          let logs : (h : ℕ) → l.log h h ≡ w.log h h = λ h. put_at_case (λ (z : List Content). z ≡ w.log h h) w.log g i grown h h (λ a b. absurd (ne (sym a ∙ b))) (λ other. refl) in
          let waits : l.waiting ≡ w.waiting = rw (ne_eqb g i ne) refl in
          record {
            queue = λ h. rw (logs h, waits) (ok.queue h);
            offers = λ x e h s d has. let o = ok.offers x e h s d has in record {
              own = o.own;
              within = rw (logs h) o.within;
              head = λ at. rw waits (o.head (at ∙ ap length (logs h)));
            };
            orders = ok.orders;
          }
      | inl same ↦
          let here : l.log i i ≡ w.log i i ++ c ∷ [] = put_at_case (λ (z : List Content). z ≡ w.log i i ++ c ∷ []) w.log g i grown i i
          (λ a b. ap (λ n. w.log n i ++ c ∷ []) same) (λ other. absurd (other (sym same) refl)) in
          let logs : (h : ℕ) → h ≢ i → l.log h h ≡ w.log h h = λ h ne. put_at_case (λ (z : List Content). z ≡ w.log h h) w.log g i grown h h (λ a b. absurd (ne b)) (λ other. refl) in
          let waits : l.waiting ≡ put w.waiting i (left_by c (w.waiting i)) = rw (eq-eqb g i same) refl in
          let long = length-append (w.log i i) (c ∷ []) in
          record {
            queue = λ h. elim (cases_eq h i) [
              | inl q ↦ rw (q, here, waits, put_here w.waiting i (left_by c (w.waiting i))) (taken_from_queue (w.log i i) c (w.waiting i) (head same) ∙ ok.queue i)
              | inr ne ↦ rw (logs h ne, waits, put_there w.waiting i (left_by c (w.waiting i)) h ne) (ok.queue h)
            ];
            offers = λ x e h s d has. let o = ok.offers x e h s d has in elim (cases_eq h i) [
              | inl q ↦
                  let a = o.within in
                  let b = ap (λ n. length (w.log n n)) q in
                  let new : length (l.log h h) ≡ length (w.log i i ++ c ∷ []) = ap (λ n. length (l.log n n)) q ∙ ap length here in
                  record { own = o.own; within = omega arith; head = λ at. absurd (omega arith) }
              | inr ne ↦ record {
                own = o.own;
                within = rw (logs h ne) o.within;
                head = λ at. rw (waits, put_there w.waiting i (left_by c (w.waiting i)) h ne) (o.head (at ∙ ap length (logs h ne)));
              }
            ];
            orders = ok.orders;
          }
    ]

-- what a host's own log takes at its end is what the host offered for it
offer_heads : (net : Net) (w : Assembly) → InputsOk net w → (e h : ℕ) (c : Content) → Has w.ledger (By h (Offer e h (length (w.log h h)) c)) → IsCandidate (w.waiting h) c
offer_heads net w ok e h c made = (ok.offers h e h (length (w.log h h)) c made).head refl

-- what is logged there was offered there
logs_heads : {S : Type 0} (rules : Rules S) (net : Net) (w : Assembly) → Sound net w → InputsOk net w → (g h : ℕ) (c : Content) → Enabled rules net w (Logs g h c) → g ≡ h → IsCandidate (w.waiting h) c
logs_heads rules net w sound ok g h c may same =
    let m = honest_vouch net sound.safe.few w.ledger (w.epoch g) h (Deliver (w.epoch g) h (length (w.log g h)) c) may.1 in
    let o = delivered_offered net w sound.safe ok m.0 (w.epoch g) h (length (w.log g h)) c (subst (λ n. net.liars n ≡ false) same may.0.honest) m.2 in
    offer_heads net w ok (w.epoch g) h c (subst (λ n. Has w.ledger (By h (Offer (w.epoch g) h (length (w.log n h)) c))) same o)

-- so was what is inherited there
inherits_heads : {S : Type 0} (rules : Rules S) (net : Net) (w : Assembly) → Sound net w → InputsOk net w → (g h : ℕ) (c : Content) → Enabled rules net w (Inherits g h c) → g ≡ h → IsCandidate (w.waiting h) c
inherits_heads rules net w sound ok g h c may same =
    let o = known_offered net w sound ok h (length (w.log g h)) c (subst (λ n. net.liars n ≡ false) same may.0) (inr may.2) in
    offer_heads net w ok o.0 h c (subst (λ n. Has w.ledger (By h (Offer o.0 h (length (w.log n h)) c))) same o.1)

-- an input that is handed waits behind the others
candidate_on : (waiting : List (List ℤ)) (payload : List ℤ) (c : Content) → IsCandidate waiting c → IsCandidate (waiting ++ payload ∷ []) c
candidate_on waiting payload (External x) head = append_some waiting (payload ∷ []) 0 x head
candidate_on waiting payload (Message p k x) head = tt

-- it is the last of all
hands_inputs : (net : Net) (w : Assembly) → InputsOk net w → (i : ℕ) (payload : List ℤ) → InputsOk net (after w (Hands i payload))
hands_inputs net w ok i payload = record {
  queue = λ h. elim (cases_eq h i) [
    | inl q ↦ rw (q, put_here w.waiting i (w.waiting i ++ payload ∷ []), put_here w.handed i (w.handed i ++ payload ∷ []))
        (sym (append_assoc (inputs_in (w.log i i)) (w.waiting i) (payload ∷ [])) ∙ ap (λ (z : List (List ℤ)). z ++ payload ∷ []) (ok.queue i))
    | inr ne ↦ rw (put_there w.waiting i (w.waiting i ++ payload ∷ []) h ne, put_there w.handed i (w.handed i ++ payload ∷ []) h ne) (ok.queue h)
  ];
  offers = λ x e h s c has. let o = ok.offers x e h s c has in record {
    own = o.own;
    within = o.within;
    head = λ at. put_case (λ (z : List (List ℤ)). IsCandidate z c) w.waiting i (w.waiting i ++ payload ∷ []) h
        (λ q. candidate_on (w.waiting i) payload c (subst (λ n. IsCandidate (w.waiting n) c) q (o.head at))) (λ ne. o.head at);
  };
  orders = ok.orders;
}

-- each event keeps this
pub inputs_step : {S : Type 0} (rules : Rules S) (net : Net) (w : Assembly) (event : Event) → Sound net w → InputsOk net w → Enabled rules net w event → InputsOk net (after w event)
inputs_step rules net w (Says g said) sound ok may = record {
  queue = ok.queue;
  offers = says_offers rules net w ok g said may;
  orders = says_ordered rules net w ok g said may;
}
inputs_step rules net w (Logs g h c) sound ok may = entry_inputs net w ok g h c (logs_heads rules net w sound ok g h c may)
inputs_step rules net w (Inherits g h c) sound ok may = entry_inputs net w ok g h c (inherits_heads rules net w sound ok g h c may)
inputs_step rules net w (Hands h payload) sound ok may = hands_inputs net w ok h payload
inputs_step rules net w (Decides h more) sound ok may = ok
inputs_step rules net w (Wedges g) sound ok may = ok
inputs_step rules net w (Enters g to) sound ok may = ok
inputs_step rules net w TopWedges sound ok may = ok
inputs_step rules net w (Retires h) sound ok may = ok
inputs_step rules net w Opens sound ok may = ok

-- What honest parties say is true of the longest logs, and the run takes them entry by entry.
use Rattle.std.proofs.Common.{◌≡◌, ℕ, ◌+◌, ◌<◌, ◌≤◌, ◌⊎◌, ℤ, List, [], ◌∷◌, ◌++◌, length, map, take, refl, sym, ap, subst, ◌∙◌, inl, inr, arith, Some, append-nil, length-append}
use Rattle.std.specs.Prelude.{slice_get}
use Rattle.std.proofs.lemmas.Bool.{cases_eq, cases_order}
use Rattle.std.proofs.lemmas.List.{take_all}
use Rattle.std.proofs.lemmas.Option.{slice_get_within}
use Rattle.nys_bytes.specs.declared.content.Content.{Content}
use Rattle.nys_bytes.specs.declared.content.Content.TheVariants.{External, Message}
use Rattle.nys_hosts.proofs.QuorumLemmas.{AtLeast-honest}
use Rattle.nys_source.specs.Rules.{Rules}
use Rattle.nys_source.specs.Contents.{contents_taken}
use Rattle.nys_source.specs.Tables.{put}
use Rattle.nys_source.specs.declared.step.Step.{Step}
use Rattle.nys_agreement.specs.Net.{HasFewLiars, Net}
use Rattle.nys_agreement.specs.Said.{AttestsBoth, By, Has, Made, Said}
use Rattle.nys_agreement.specs.Said.Said.{Attest, Deliver, Order}
use Rattle.nys_agreement.specs.Alone.{alone, Fits, step_of}
use Rattle.nys_agreement.specs.Assembly.{Assembly}
use Rattle.nys_agreement.specs.Events.{Enabled, Event, IsNext, IsOpen, MayDecide, MaySay}
use Rattle.nys_agreement.specs.Events.Event.{Decides, Enters, Hands, Inherits, Logs, Opens, Retires, Says, TopWedges, Wedges}
use Rattle.nys_agreement.specs.After.{after, longest_with, run_with, surplus, with_decision, with_entry}
use Rattle.nys_agreement.specs.Claims.{IsPrefixOf}
use Rattle.nys_agreement.proofs.ListLemmas.{drop_one, get_inside, in_push, length-grown, length-grown_by, prefix_from, take_more, take_prefix}
use Rattle.nys_agreement.proofs.TableLemmas.{put_at_case, put_case, put_here, put_there}
use Rattle.nys_agreement.proofs.AloneLemmas.{alone_keeps}
use Rattle.nys_agreement.proofs.RunLemmas.{run_goes_on, RunOk, WasSent}
use Rattle.nys_agreement.proofs.Ledgers.{honest_vouch}
use Rattle.nys_agreement.proofs.Evidence.{known_once, Safe}
use Rattle.nys_agreement.proofs.EvidenceSteps.{decide_reason}
use Rattle.nys_agreement.proofs.Agreement.{log_known, Sound}

-- an ordered content may come next after the entries below its slot
pub record Ordered {S : Type 0} (rules : Rules S) (longest : ℕ → List Content) (h s : ℕ) (c : Content) : Type 0 where
  pub host : h < rules.hosts
  pub within : s ≤ length (longest h)
  pub fits : Fits rules h (take s (longest h)) c
  pub sent : WasSent rules longest h c

-- attested payloads were sent, ordered contents may be taken, and the run is that of the longest logs,
-- each of which somebody holds
pub record Truth {S : Type 0} (rules : Rules S) (ledger : List Made) (log : ℕ → ℕ → List Content) (decided longest : ℕ → List Content) (run : List Step) : Type 0 where
  pub attests : (x e p h k : ℕ) (payload : List ℤ) → Has ledger (By x (Attest e p h k payload)) → slice_get ((alone rules p (longest p)).sent p h) k ≡ Some payload
  pub orders : (x e h s : ℕ) (c : Content) → Has ledger (By x (Order e h s c)) → Ordered rules longest h s c
  pub run_ok : RunOk rules longest run
  pub attained : (h : ℕ) → ((g : ℕ) × (length (log g h) ≡ length (longest h))) ⊎ (length (decided h) ≡ length (longest h))

-- this holds of the assembly
abbrev pub TruthOk : {S : Type 0} → Rules S → Assembly → Type 0
TruthOk rules w = Truth rules w.ledger w.log w.decided w.longest w.run

-- a log is a prefix of the longest
pub log_prefix : (net : Net) (w : Assembly) → Sound net w → (g h : ℕ) → IsPrefixOf (w.log g h) (w.longest h)
log_prefix net w ok g h =
    prefix_from (w.log g h) (w.longest h) (ok.evidence.fits g h)
    (λ s c d p q. known_once net w ok.safe ok.evidence h s c d (log_known net w ok g h s c p) (ok.evidence.known h s d q))

-- so is a decided log
pub decided_prefix : (net : Net) (w : Assembly) → Sound net w → (h : ℕ) → IsPrefixOf (w.decided h) (w.longest h)
decided_prefix net w ok h =
    prefix_from (w.decided h) (w.longest h) (ok.evidence.decided_fits h)
    (λ s c d p q. known_once net w ok.safe ok.evidence h s c d (inr p) (ok.evidence.known h s d q))

-- what a prefix sent, the whole did
prefix_sent : {S : Type 0} (rules : Rules S) (p h k : ℕ) (payload : List ℤ) (log longest : List Content) → IsPrefixOf log longest → slice_get ((alone rules p log).sent p h) k ≡ Some payload → slice_get ((alone rules p longest).sent p h) k ≡ Some payload
prefix_sent rules p h k payload log longest pre e =
    subst (λ (l : List Content). slice_get ((alone rules p l).sent p h) k ≡ Some payload) pre.1 (alone_keeps rules p log pre.0 h k payload e)

-- what was sent stays sent as the longest logs go on
was_sent_on : {S : Type 0} (rules : Rules S) (longest more : ℕ → List Content) → ((x : ℕ) → IsPrefixOf (longest x) (more x)) → (h : ℕ) (c : Content) → WasSent rules longest h c → WasSent rules more h c
was_sent_on rules longest more goes h (External payload) sent = tt
was_sent_on rules longest more goes h (Message p k payload) sent = prefix_sent rules p h k payload (longest p) (more p) (goes p) sent

-- a prefix is no longer
prefix_length : {A : Type 0} (xs ys : List A) → IsPrefixOf xs ys → length xs ≤ length ys
prefix_length xs ys pre = let a = length-append xs pre.0 in let b = ap length pre.1 in omega arith

-- what was ordered may still be taken there
ordered_on : {S : Type 0} (rules : Rules S) (longest more : ℕ → List Content) → ((x : ℕ) → IsPrefixOf (longest x) (more x)) → (h s : ℕ) (c : Content) → Ordered rules longest h s c → Ordered rules more h s c
ordered_on rules longest more goes h s c ok =
    let pre = goes h in
    let a = prefix_length (longest h) (more h) pre in
    let b = ok.within in
    let same : take s (longest h) ≡ take s (more h) = sym (take_more s (longest h) pre.0 ok.within) ∙ ap (take s) pre.1 in
    record {
      host = ok.host;
      within = omega arith;
      fits = subst (λ (l : List Content). Fits rules h l c) same ok.fits;
      sent = was_sent_on rules longest more goes h c ok.sent;
    }

-- the longest logs go on from what they were
goes_on : (w : Assembly) (i : ℕ) (log : List Content) (x : ℕ) → IsPrefixOf (w.longest x) (longest_with w i log x)
goes_on w i log x =
    put_case (λ (l : List Content). IsPrefixOf (w.longest x) l) w.longest i (w.longest i ++ surplus w i log) x
    (λ q. (surplus w i log, ap (λ n. w.longest n ++ surplus w i log) q))
    (λ ne. ([], append-nil (w.longest x)))

-- what an honest guard may say is true
attest_true : {S : Type 0} (rules : Rules S) (net : Net) (w : Assembly) → Sound net w → (g p h k : ℕ) (payload : List ℤ) → slice_get ((alone rules p (w.log g p)).sent p h) k ≡ Some payload → slice_get ((alone rules p (w.longest p)).sent p h) k ≡ Some payload
attest_true rules net w ok g p h k payload e = prefix_sent rules p h k payload (w.log g p) (w.longest p) (log_prefix net w ok g p) e

-- a new Attest is true
says_attests : {S : Type 0} (rules : Rules S) (net : Net) (w : Assembly) → Sound net w → TruthOk rules w → (g : ℕ) (said : Said) → MaySay rules net w g said → (x e p h k : ℕ) (payload : List ℤ) → Has (By g said ∷ w.ledger) (By x (Attest e p h k payload)) → slice_get ((alone rules p (w.longest p)).sent p h) k ≡ Some payload
says_attests rules net w ok truth g said may x e p h k payload (inr old) = truth.attests x e p h k payload old
says_attests rules net w ok truth g said may x e p h k payload (inl new) =
    let what : said ≡ Attest e p h k payload = cc in
    let now = subst (MaySay rules net w g) what may in
    attest_true rules net w ok g p h k payload now.1

-- an honest one of t + 1 that attest a message did so truly
next_sent : {S : Type 0} (rules : Rules S) (net : Net) (w : Assembly) → HasFewLiars net → TruthOk rules w → (g e h : ℕ) (c : Content) → IsNext rules net w g e h c → WasSent rules w.longest h c
next_sent rules net w few truth g e h (External payload) next = tt
next_sent rules net w few truth g e h (Message p k payload) next =
    let x = AtLeast-honest (net.t e p) (net.guards e p) net.liars (AttestsBoth net w.ledger e p h k payload) (λ m v. v.1) (few.few e p) next.1 in
    truth.attests x.0 e p h k payload (x.2.2 x.3)

-- what comes next fits the log
next_fits : {S : Type 0} (rules : Rules S) (net : Net) (w : Assembly) (g e h : ℕ) (c : Content) → IsNext rules net w g e h c → Fits rules h (w.log g h) c
next_fits rules net w g e h (External payload) next = tt
next_fits rules net w g e h (Message p k payload) next = next.0

-- what a guard may order may be taken there
order_true : {S : Type 0} (rules : Rules S) (net : Net) (w : Assembly) → Sound net w → TruthOk rules w → (g e h s : ℕ) (c : Content) → IsOpen rules.hosts net w g e h s → IsNext rules net w g e h c → Ordered rules w.longest h s c
order_true rules net w ok truth g e h s c slot next =
    let a = ok.evidence.fits g h in
    let b = slot.length_is in
    let same : w.log g h ≡ take s (w.longest h) = sym (take_prefix (w.log g h) (w.longest h) (log_prefix net w ok g h)) ∙ ap (λ n. take n (w.longest h)) slot.length_is in
    record {
      host = slot.host;
      within = omega arith;
      fits = subst (λ (l : List Content). Fits rules h l c) same (next_fits rules net w g e h c next);
      sent = next_sent rules net w ok.safe.few truth g e h c next;
    }

-- a new Order is of such a content
says_orders : {S : Type 0} (rules : Rules S) (net : Net) (w : Assembly) → Sound net w → TruthOk rules w → (g : ℕ) (said : Said) → MaySay rules net w g said → (x e h s : ℕ) (c : Content) → Has (By g said ∷ w.ledger) (By x (Order e h s c)) → Ordered rules w.longest h s c
says_orders rules net w ok truth g said may x e h s c (inr old) = truth.orders x e h s c old
says_orders rules net w ok truth g said may x e h s c (inl new) =
    let what : said ≡ Order e h s c = cc in
    let now = subst (MaySay rules net w g) what may in
    order_true rules net w ok truth g e h s c now.0 now.3

-- what an honest guard delivers was ordered
pub delivered_ordered : {S : Type 0} (rules : Rules S) (net : Net) (w : Assembly) → Safe net w → TruthOk rules w → (x e h s : ℕ) (c : Content) → Has w.ledger (By x (Deliver e h s c)) → Ordered rules w.longest h s c
delivered_ordered rules net w safe truth x e h s c made =
    let o = honest_vouch net safe.few w.ledger e h (Order e h s c) (safe.ledger.backed x e h s c made) in
    truth.orders o.0 e h s c o.2

-- the run goes on as a log passes all others, by one entry that was ordered
grow : {S : Type 0} (rules : Rules S) (w : Assembly) → RunOk rules w.longest w.run → (i : ℕ) (log : List Content) → length log ≤ length (w.longest i) + 1 → ((c : Content) → slice_get log (length (w.longest i)) ≡ Some c → Ordered rules w.longest i (length (w.longest i)) c) → RunOk rules (longest_with w i log) (run_with w i log)
grow {S} rules w ok i log long ready = elim (drop_one (length (w.longest i)) log long) [
  | inl none ↦
      subst (λ (z : List Content). RunOk rules (put w.longest i (w.longest i ++ z)) (w.run ++ map (step_of i) z)) (sym none.1)
      (subst (λ (r : List Step). RunOk rules (put w.longest i (w.longest i ++ [])) r) (sym (append-nil w.run)) (record {
        is_run = ok.is_run;
        taken = λ x. put_case (λ (l : List Content). contents_taken rules w.run x ≡ l) w.longest i (w.longest i ++ []) x
            (λ q. ap (contents_taken rules w.run) q ∙ (ok.taken i ∙ sym (append-nil (w.longest i)))) (λ ne. ok.taken x);
        runs = ok.runs;
      }))
  | inr one ↦
      let r = ready one.0 one.1 in
      let all = take_all (length (w.longest i)) (w.longest i) (omega arith) in
      subst (λ (z : List Content). RunOk rules (put w.longest i (w.longest i ++ z)) (w.run ++ map (step_of i) z)) (sym one.2)
      (run_goes_on rules w.longest w.run ok i one.0 r.host (subst (λ (l : List Content). Fits rules i l one.0) all r.fits) r.sent)
]

-- somebody holds the longest log, also after a log grew
entry_attained : (w : Assembly) (g i : ℕ) (c : Content) → ((h : ℕ) → ((x : ℕ) × (length (w.log x h) ≡ length (w.longest h))) ⊎ (length (w.decided h) ≡ length (w.longest h)))
    → (h : ℕ) → ((x : ℕ) × (length ((with_entry w g i c).log x h) ≡ length ((with_entry w g i c).longest h))) ⊎ (length (w.decided h) ≡ length ((with_entry w g i c).longest h))
entry_attained w g i c ok h =
    let grown = w.log g i ++ c ∷ [] in
    let one = length-append (w.log g i) (c ∷ []) in
    let all = w.longest i ++ surplus w i grown in
    elim (cases_eq h i) [
      | inr ne ↦
          let same = put_there w.longest i all h ne in
          elim (ok h) [
            | inl x ↦ inl (x.0, put_at_case (λ (l : List Content). length l ≡ length (put w.longest i all h)) w.log g i grown x.0 h (λ p q. absurd (ne q)) (λ other. x.1 ∙ sym (ap length same)))
            | inr d ↦ inr (d ∙ sym (ap length same))
          ]
      | inl q ↦
          let here : length (put w.longest i all h) ≡ length all = ap (λ n. length (put w.longest i all n)) q ∙ ap length (put_here w.longest i all) in
          let own = λ (le : length (w.longest i) ≤ length grown). put_at_case (λ (l : List Content). length l ≡ length (put w.longest i all h)) w.log g i grown g h
          (λ a b. sym (here ∙ length-grown_by (w.longest i) grown le)) (λ other. absurd (other refl q)) in
          elim (cases_order (length (w.longest i)) (length grown)) [
            | inl e ↦ inl (g, own (omega arith))
            | inr (inl lt) ↦ inl (g, own (omega arith))
            | inr (inr gt) ↦
                let stays : length (put w.longest i all h) ≡ length (w.longest h) = here ∙ ((length-grown (w.longest i) grown).2 (omega arith) ∙ ap (λ n. length (w.longest n)) (sym q)) in
                elim (ok h) [
                  | inl x ↦ inl (
                    x.0,
                    put_at_case (λ (l : List Content). length l ≡ length (put w.longest i all h)) w.log g i grown x.0 h
                        (λ a b. absurd (let e1 = x.1 in let e2 = ap (λ n. length (w.log n h)) a in let e3 = ap (λ n. length (w.log g n)) b in let e4 = ap (λ n. length (w.longest n)) q in omega arith))
                        (λ other. x.1 ∙ sym stays),
                  )
                  | inr d ↦ inr (d ∙ sym stays)
                ]
          ]
    ]

-- nor after a decision
decide_attained : (w : Assembly) (i : ℕ) (more : List Content) → ((h : ℕ) → ((x : ℕ) × (length (w.log x h) ≡ length (w.longest h))) ⊎ (length (w.decided h) ≡ length (w.longest h)))
    → (h : ℕ) → ((x : ℕ) × (length (w.log x h) ≡ length ((with_decision w i more).longest h))) ⊎ (length ((with_decision w i more).decided h) ≡ length ((with_decision w i more).longest h))
decide_attained w i more ok h =
    let grown = w.decided i ++ more in
    let one = length-append (w.decided i) more in
    let all = w.longest i ++ surplus w i grown in
    elim (cases_eq h i) [
      | inr ne ↦
          let same = put_there w.longest i all h ne in
          elim (ok h) [
            | inl x ↦ inl (x.0, x.1 ∙ sym (ap length same))
            | inr d ↦ inr (ap length (put_there w.decided i grown h ne) ∙ (d ∙ sym (ap length same)))
          ]
      | inl q ↦
          let here : length (put w.longest i all h) ≡ length all = ap (λ n. length (put w.longest i all n)) q ∙ ap length (put_here w.longest i all) in
          let new : length (put w.decided i grown h) ≡ length grown = ap (λ n. length (put w.decided i grown n)) q ∙ ap length (put_here w.decided i grown) in
          elim (cases_order (length (w.longest i)) (length grown)) [
            | inl e ↦ inr (new ∙ sym (here ∙ length-grown_by (w.longest i) grown (omega arith)))
            | inr (inl lt) ↦ inr (new ∙ sym (here ∙ length-grown_by (w.longest i) grown (omega arith)))
            | inr (inr gt) ↦
                let stays : length (put w.longest i all h) ≡ length (w.longest h) = here ∙ ((length-grown (w.longest i) grown).2 (omega arith) ∙ ap (λ n. length (w.longest n)) (sym q)) in
                elim (ok h) [
                  | inl x ↦ inl (x.0, x.1 ∙ sym stays)
                  | inr d ↦ absurd (let e1 = ap (λ n. length (w.decided n)) q in let e2 = ap (λ n. length (w.longest n)) q in omega arith)
                ]
          ]
    ]

-- a log that takes an entry, of which each that passes all others was ordered
entry_truth : {S : Type 0} (rules : Rules S) (net : Net) (w : Assembly) → Sound net w → TruthOk rules w → (g i : ℕ) (c : Content) → ((d : Content) → slice_get (w.log g i ++ c ∷ []) (length (w.longest i)) ≡ Some d → Ordered rules w.longest i (length (w.longest i)) d) → TruthOk rules (with_entry w g i c)
entry_truth rules net w ok truth g i c ready =
    let grown = w.log g i ++ c ∷ [] in
    let long = length-append (w.log g i) (c ∷ []) in
    let fits = ok.evidence.fits g i in
    record {
      attests = λ x e p h k payload has. prefix_sent rules p h k payload (w.longest p) (longest_with w i grown p) (goes_on w i grown p) (truth.attests x e p h k payload has);
      orders = λ x e h s d has. ordered_on rules w.longest (longest_with w i grown) (goes_on w i grown) h s d (truth.orders x e h s d has);
      run_ok = grow rules w truth.run_ok i grown (omega arith) ready;
      attained = entry_attained w g i c truth.attained;
    }

-- an entry logged on a quorum of Delivers was ordered
logs_ready : {S : Type 0} (rules : Rules S) (net : Net) (w : Assembly) → Sound net w → TruthOk rules w → (g h : ℕ) (c : Content) → Enabled rules net w (Logs g h c) → (d : Content) → slice_get (w.log g h ++ c ∷ []) (length (w.longest h)) ≡ Some d → Ordered rules w.longest h (length (w.longest h)) d
logs_ready rules net w ok truth g h c may d get =
    let m = honest_vouch net ok.safe.few w.ledger (w.epoch g) h (Deliver (w.epoch g) h (length (w.log g h)) c) may.1 in
    let o = delivered_ordered rules net w ok.safe truth m.0 (w.epoch g) h (length (w.log g h)) c m.2 in
    elim (in_push (w.log g h) c (length (w.longest h)) d get) [
      | inl old ↦ absurd (let a = slice_get_within (w.log g h) (length (w.longest h)) d old in let b = ok.evidence.fits g h in omega arith)
      | inr new ↦ subst (Ordered rules w.longest h (length (w.longest h))) new.1 (subst (λ n. Ordered rules w.longest h n c) (sym new.0) o)
    ]

-- an inherited entry passes nothing
inherits_ready : {S : Type 0} (rules : Rules S) (net : Net) (w : Assembly) → Sound net w → (g h : ℕ) (c : Content) → Enabled rules net w (Inherits g h c) → (d : Content) → slice_get (w.log g h ++ c ∷ []) (length (w.longest h)) ≡ Some d → Ordered rules w.longest h (length (w.longest h)) d
inherits_ready rules net w ok g h c may d get = absurd (
    let a = slice_get_within (w.log g h ++ c ∷ []) (length (w.longest h)) d get in
    let b = slice_get_within (w.decided h) (length (w.log g h)) c may.2 in
    let e = ok.evidence.decided_fits h in
    let f = length-append (w.log g h) (c ∷ []) in
    omega arith)

-- each entry of a decision was ordered
decision_ordered : {S : Type 0} (rules : Rules S) (net : Net) (w : Assembly) → Sound net w → TruthOk rules w → (h : ℕ) (more : List Content) → MayDecide net w h more → (s : ℕ) (c : Content) → slice_get (w.decided h ++ more) s ≡ Some c → Ordered rules w.longest h s c
decision_ordered rules net w ok truth h more may s c get =
    let d = decide_reason net w ok.safe ok.evidence h more may s c get in
    delivered_ordered rules net w ok.safe truth d.maker d.epoch h s c d.delivered

-- a decision, of which each entry was ordered
decide_truth : {S : Type 0} (rules : Rules S) (net : Net) (w : Assembly) → Sound net w → TruthOk rules w → (i : ℕ) (more : List Content) → MayDecide net w i more → TruthOk rules (with_decision w i more)
decide_truth rules net w ok truth i more may =
    let grown = w.decided i ++ more in
    let limit : length grown ≤ length (w.longest i) + 1 = elim (cases_order (length grown) (length (w.longest i) + 1)) [
      | inl e ↦ omega arith
      | inr (inl lt) ↦ omega arith
      | inr (inr gt) ↦ absurd (let x = get_inside grown (length (w.longest i) + 1) gt in let o = (decision_ordered rules net w ok truth i more may (length (w.longest i) + 1) x.0 x.1).within in omega arith)
    ] in
    record {
      attests = λ x e p h k payload has. prefix_sent rules p h k payload (w.longest p) (longest_with w i grown p) (goes_on w i grown p) (truth.attests x e p h k payload has);
      orders = λ x e h s d has. ordered_on rules w.longest (longest_with w i grown) (goes_on w i grown) h s d (truth.orders x e h s d has);
      run_ok = grow rules w truth.run_ok i grown limit (decision_ordered rules net w ok truth i more may (length (w.longest i)));
      attained = decide_attained w i more truth.attained;
    }

-- each event keeps this
pub truth_step : {S : Type 0} (rules : Rules S) (net : Net) (w : Assembly) (event : Event) → Sound net w → TruthOk rules w → Enabled rules net w event → TruthOk rules (after w event)
truth_step rules net w (Says g said) ok truth may = record {
  attests = says_attests rules net w ok truth g said may;
  orders = says_orders rules net w ok truth g said may;
  run_ok = truth.run_ok;
  attained = truth.attained;
}
truth_step rules net w (Logs g h c) ok truth may = entry_truth rules net w ok truth g h c (logs_ready rules net w ok truth g h c may)
truth_step rules net w (Inherits g h c) ok truth may = entry_truth rules net w ok truth g h c (inherits_ready rules net w ok g h c may)
truth_step rules net w (Decides h more) ok truth may = decide_truth rules net w ok truth h more may
truth_step rules net w (Wedges g) ok truth may = truth
truth_step rules net w (Enters g to) ok truth may = truth
truth_step rules net w (Hands h payload) ok truth may = truth
truth_step rules net w TopWedges ok truth may = truth
truth_step rules net w (Retires h) ok truth may = truth
truth_step rules net w Opens ok truth may = truth
